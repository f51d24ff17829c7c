-- What recovery's promises fix: two outcomes that one allows are the same, a refusal changes no byte and no record, a stopped call stores no record, and
-- the steps told are those made. Assumes nothing.
use mathlib.Core.Path.{◌≡◌, refl, sym, ap, ap₂, ◌∙◌}
use mathlib.Core.Bool.{true}
use mathlib.Core.List.{List}
use Prim.Native.Nat.{ℕ, zero, suc, ◌/◌, ◌≤◌}
use native.Mathlib.Omega.{arith}
use lib.Dec.{ltb}
use lib.ListN.{length, take}
use Rattle.flash.proofs.Frame.{length_run}
use Rattle.lists.proofs.Member.{true≢false}
use Rattle.answer.specs.declared.Answer.{Answer}
use Rattle.answer.specs.Answer.{number_of, refusal, steps_of}
use Rattle.answer.proofs.Values.{told_same, steps-listed, idle, refusal-number, no_steps, no-refusal}
use Rattle.page.specs.declared.«record».PageRecord.{PageRecord}
use Rattle.table.specs.Table.{sectors_of}
use Rattle.table.proofs.Whole.{whole_is}
use Rattle.records.specs.declared.Rows.{Rows}
use Rattle.recover.specs.declared.Recovered.{Recovered}
use Rattle.recover.specs.Promise.{called, calling, recover_answer, records_after, rows_for, Recovers, RecoverPromise}
use Rattle.recover.proofs.Answered.{Way, way, recover_told}
use Rattle.recover.proofs.Answered.Way.{refused, made}
use Rattle.recover.proofs.Promised.{none_calling}
use Rattle.recover.proofs.Numbers.{passed_all, number_0}

-- a number above 0 leaves the records
kept : (k : ℕ) (m : List ℕ) (ys : List PageRecord) → (k ≡ 0 → ⊥) → records_after k m ys ≡ ys
unfolding records_after
kept zero m ys h = absurd (h refl)
kept (suc k) m ys h = refl

module _ {l : List ℕ} {ys : List PageRecord} {n : ℕ} where
  pub recover_same : {m m' : List ℕ} {zs zs' : List PageRecord} {r r' : Answer} → RecoverPromise l ys n m zs r → RecoverPromise l ys n m' zs' r' → (m ≡ m') × (zs ≡ zs') × (r ≡ r')
  recover_same p q =
      let i = p.image ∙ sym q.image in
      let a = told_same p.answer q.answer in
      (i, p.records ∙ ap₂ (λ (x : Answer) (j : List ℕ). records_after (number_of x) j ys) a i ∙ sym q.records, a)

  module _ {m : List ℕ} {zs : List PageRecord} {r : Answer} (p : RecoverPromise l ys n m zs r) where
    -- the answer as a value
    pub recover-answer : r ≡ recover_answer l (length ys) n
    recover-answer = told_same p.answer (recover_told l (length ys) n)

    -- the steps told are those of the image's list
    pub steps-are_made : steps_of r ≡ length (take n (calling l (length ys)))
    unfolding calling
    steps-are_made = steps-listed p.answer

    -- "allowance used up before the end": "records unchanged"
    pub stopped-records : number_of r ≡ 7 → zs ≡ ys
    stopped-records e = p.records ∙ kept (number_of r) m ys (λ z. omega arith)

    -- "nothing changed, 0 steps": a refused call leaves every byte and every record
    pub refused-unchanged : refusal r ≡ true → (m ≡ l) × (zs ≡ ys) × (steps_of r ≡ 0)
    refused-unchanged h = go (way l (length ys) n)
      where
        go : Way l (length ys) n → (m ≡ l) × (zs ≡ ys) × (steps_of r ≡ 0)
        go (refused a e k f none) = (p.image ∙ sym (idle n l (calling l (length ys)) (none_calling l (length ys) none)), p.records ∙ kept (number_of r) m ys (refusal-number r h), no_steps r h)
        go (made e k steps) = absurd (true≢false h (no-refusal r (ltb n (length (called l (length ys)))) (p.answer.number ∙ k)))

-- and of `recover_image`, whose rows are the whole array
module _ {l : List ℕ} {lent n : ℕ} where
  pub recovers_same : {m m' : List ℕ} {r r' : Recovered} → Recovers l lent n m r → Recovers l lent n m' r' → (m ≡ m') × (r ≡ r')
  recovers_same p q =
      let i = p.image ∙ sym q.image in
      let a = told_same p.answer q.answer in
      let s = p.rows ∙ ap₂ (λ (x : Answer) (j : List ℕ). rows_for (number_of x) j) a i ∙ sym q.rows in
      (i, ap₂ {C = Recovered} (λ (x : Answer) (y : Rows). record { answer = x; rows = y }) a s)

  module _ {m : List ℕ} {r : Recovered} (p : Recovers l lent n m r) where
    pub recovers_answer : r.answer ≡ recover_answer l lent n
    recovers_answer = told_same p.answer (recover_told l lent n)

    -- the records lent have room for the rows, which are no more than 16
    pub rows_fit : (r.rows.count ≤ 16) × (r.rows.count ≤ lent)
    rows_fit = rw p.rows (go (number_of r.answer) refl)
      where
        sectors : sectors_of m ≡ sectors_of l
        sectors = ap (λ (x : ℕ). x / 4096) (ap length p.image ∙ length_run (take n (calling l lent)) l)

        go : (k : ℕ) → number_of r.answer ≡ k → ((rows_for k m).count ≤ 16) × ((rows_for k m).count ≤ lent)
        go zero e = let d = (passed_all l lent n).0 ((number_0 l lent n p.answer).0 e).0 in rw sectors ((whole_is l d.0).1, d.1)
        go (suc k) e = (omega arith, omega arith)
