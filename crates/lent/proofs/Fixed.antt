-- Two outcomes that the promise of `recover_lent` allows are the same. Assumes nothing.
use mathlib.Core.Path.{◌≡◌, sym, ap₂, ◌∙◌}
use mathlib.Core.List.{List, ◌++◌}
use Prim.Native.Nat.{ℕ}
use lib.ListN.{take, drop, take-append-drop}
use Rattle.answer.specs.declared.Answer.{Answer}
use Rattle.page.specs.declared.«record».PageRecord.{PageRecord}
use Rattle.recover.specs.Promise.{RecoverPromise}
use Rattle.recover.proofs.Fixed.{recover_same}
use Rattle.lent.specs.declared.Lent.{Lent}

abbrev Promised : List ℕ → List PageRecord → ℕ → ℕ → List ℕ → Lent → Type 0
Promised l given lent n m r = RecoverPromise l (take lent given) n m (take lent r.records) r.answer × (drop lent r.records ≡ drop lent given)

pub lent_same : (l : List ℕ) (given : List PageRecord) (lent n : ℕ) {m m' : List ℕ} {r r' : Lent} → Promised l given lent n m r → Promised l given lent n m' r' → (m ≡ m') × (r ≡ r')
lent_same l given lent n {m} {m'} {r} {r'} p q =
    let s = recover_same p.0 q.0 in
    let whole : r.records ≡ r'.records = sym (take-append-drop lent r.records) ∙ ap₂ (λ (a b : List PageRecord). a ++ b) s.1 (p.1 ∙ sym q.1) ∙ take-append-drop lent r'.records in
    (s.0, ap₂ {C = Lent} (λ (a : Answer) (rs : List PageRecord). record { answer = a; records = rs }) s.2 whole)
