-- Steps with stages, in sequence: the first so many of a list, and what the next ones find. Assumes nothing.
use Rattle.std.specs.Prelude.{Err, Ok}
use Rattle.std.specs.Result.{IsErrAnd}
use Rattle.std.proofs.lemmas.Result.{err_from_is_err_and}
use mathlib.Core.Path.{◌≡◌, refl, sym, ap, ◌∙◌}
use mathlib.Core.List.{List, [], ◌∷◌, ◌++◌}
use mathlib.Core.Logic.{◌⊎◌, inl, inr}
use Prim.Native.Nat.{ℕ, zero, suc, ◌-◌, ◌≤◌, ◌<◌}
use native.Mathlib.Omega.{arith}
use lib.ListN.{length, take, length-map, length-append}
use lib.Seq.{take_all, length-take-le}
use Rattle.flash.specs.Step.{Step, run}
use Rattle.flash.specs.Did.{Did, Ran, stopped}
use Rattle.flash.proofs.Answer.{ran_le, ran-gt, ran-done, ran-stopped}
use Rattle.flash.proofs.Laws.{did_then, did-stop, did_none, did_all}
use Rattle.flash.proofs.Order.{le-or-gt}
use Rattle.lists.proofs.Parts.{take-map}
use Rattle.answer.specs.declared.Stage.{Stage}
use Rattle.answer.specs.declared.Answer.TheVariants.{Done as DoneAll}
use Rattle.answer.specs.Answer.{number_of}
use Rattle.answer.specs.Staged.{Staged, tag, untag, left, stopped_at, answer_of}
use Rattle.answer.specs.Went.{went_to, went, Made, Making, in_stage, told_of, Went}
use Rattle.answer.proofs.Tagged.{length-tag, left_none}

-- ---- lists

pub untag-only : (x : Stage) (ss : List Step) → untag (tag x ss) ≡ ss
unfolding tag untag
untag-only x [] = refl
untag-only x (s ∷ ss) = ap {B = List Step} (λ (r : List Step). s ∷ r) (untag-only x ss)

pub untag-append : (a b : List Staged) → untag (a ++ b) ≡ untag a ++ untag b
unfolding untag
untag-append [] b = refl
untag-append (t ∷ a) b = ap {B = List Step} (λ (r : List Step). t.step ∷ r) (untag-append a b)

pub untag-take : (n : ℕ) (ts : List Staged) → length (take n ts) ≡ length (take n (untag ts))
unfolding untag
untag-take n ts = sym (ap length (take-map (λ (t : Staged). t.step) n ts) ∙ length-map (take n ts) (λ (t : Staged). t.step))

-- ---- how far steps go

went-le : (n : ℕ) (ts : List Staged) → length ts ≤ n → went n ts ≡ Ok (n - length ts)
unfolding went
went-le n ts h = rw (left_none n ts h)

some_left : (n : ℕ) (ts : List Staged) → n < length ts → (x : Stage) × ((us : List Staged) (k : ℕ) → went_to k (left n (ts ++ us)) ≡ Err x)
unfolding left
some_left zero [] h = absurd (omega arith)
some_left zero (t ∷ ts) h = (t.stage, λ us k. refl)
some_left (suc n) [] h = absurd (omega arith)
some_left (suc n) (t ∷ ts) h = some_left n ts (omega arith)

nothing-behind : (ts : List Staged) → ts ++ [] ≡ ts
nothing-behind [] = refl
nothing-behind (t ∷ ts) = ap {B = List Staged} (λ (us : List Staged). t ∷ us) (nothing-behind ts)

-- behind steps that stop, any others may stand
went-gt : (n : ℕ) (ts us : List Staged) → n < length ts → went n (ts ++ us) ≡ went n ts
unfolding went
went-gt n ts us h =
    let s = some_left n ts h in
    s.1 us (n - length (ts ++ us)) ∙ sym (ap (λ (vs : List Staged). went_to (n - length ts) (left n vs)) (sym (nothing-behind ts)) ∙ s.1 [] (n - length ts))

left_over : (n : ℕ) (ts us : List Staged) → length ts ≤ n → left n (ts ++ us) ≡ left (n - length ts) us
unfolding left
left_over n [] us h = let e : n ≡ n - 0 = omega arith in ap (λ (k : ℕ). left k us) e
left_over zero (t ∷ ts) us h = absurd (omega arith)
left_over (suc n) (t ∷ ts) us h = let e : n - length ts ≡ suc n - suc (length ts) = omega arith in left_over n ts us (omega arith) ∙ ap (λ (k : ℕ). left k us) e

went_over : (n : ℕ) (ts us : List Staged) → length ts ≤ n → went n (ts ++ us) ≡ went (n - length ts) us
unfolding went
went_over n ts us h =
    let e : n - length (ts ++ us) ≡ n - length ts - length us = omega (arith, length-append ts us) in
    rw (left_over n ts us h, e)

pub went_short : (n : ℕ) (ts : List Staged) → n < length ts → (x : Stage) × (went n ts ≡ Err x)
unfolding went
went_short n ts h =
    let s = some_left n ts h in
    (s.0, ap (λ (vs : List Staged). went_to (n - length ts) (left n vs)) (sym (nothing-behind ts)) ∙ s.1 [] (n - length ts))

-- what is said of the end fixes whether the steps fit the allowance
ended-fits : (n k : ℕ) (ts : List Staged) → Ok k ≡ went n ts → (length ts ≤ n) × (k ≡ n - length ts)
ended-fits n k ts e = go (le-or-gt (length ts) n)
  where
    go : (length ts ≤ n) ⊎ (n < length ts) → (length ts ≤ n) × (k ≡ n - length ts)
    go (inl h) = let q = went-le n ts h in (h, cc)
    go (inr h) = let q = (went_short n ts h).1 in let z : ◌≡◌ {A = ℕ} 0 1 = cc in absurd (omega arith)

short_over : (n : ℕ) (x : Stage) (ts : List Staged) → Err x ≡ went n ts → n < length ts
short_over n x ts e = go (le-or-gt (length ts) n)
  where
    go : (length ts ≤ n) ⊎ (n < length ts) → n < length ts
    go (inl h) = let q = went-le n ts h in let z : ◌≡◌ {A = ℕ} 0 1 = cc in omega arith
    go (inr h) = h

tag_short : (n : ℕ) (x : Stage) (ss : List Step) → n < length ss → went n (tag x ss) ≡ Err x
unfolding went left tag
tag_short n x ss h = go n ss (n - length (tag x ss)) h
  where
    go : (n : ℕ) (ss : List Step) (k : ℕ) → n < length ss → went_to k (left n (tag x ss)) ≡ Err x
    go zero [] k h = absurd (omega arith)
    go zero (s ∷ ss) k h = refl
    go (suc n) [] k h = absurd (omega arith)
    go (suc n) (s ∷ ss) k h = go n ss k (omega arith)

short_told : (n : ℕ) (ts : List Staged) → n < length ts → told_of (went n ts) n ≡ stopped_at n (left n ts)
unfolding went left
short_told n ts h = go n ts (n - length ts) n h
  where
    go : (n : ℕ) (ts : List Staged) (k made : ℕ) → n < length ts → told_of (went_to k (left n ts)) made ≡ stopped_at made (left n ts)
    go zero [] k made h = absurd (omega arith)
    go zero (t ∷ ts) k made h = refl
    go (suc n) [] k made h = absurd (omega arith)
    go (suc n) (t ∷ ts) k made h = go n ts k made (omega arith)

-- ---- steps of one stage

pub length-untag : (ts : List Staged) → length (untag ts) ≡ length ts
unfolding untag
length-untag ts = length-map ts (λ (t : Staged). t.step)

module _ {n : ℕ} {l m : List ℕ} where
  -- the steps alone
  ended-did : {ts : List Staged} {k : ℕ} → Made ts n l m (Ok k) → Did (untag ts) n l m (Ok k)
  ended-did {ts} {k} d =
      let h = ended-fits n k ts d.answer in
      record { image = d.image; answer = rw (length-untag ts) (ap Ok h.1 ∙ sym (ran_le n (length ts) h.0)) }

  short_did : {ts : List Staged} {x : Stage} → Made ts n l m (Err x) → Did (untag ts) n l m stopped
  short_did {ts} {x} d = record { image = d.image; answer = rw (length-untag ts) (sym (ran-gt n (length ts) (short_over n x ts d.answer))) }

  -- all were made
  pub made_all : {ts : List Staged} {k : ℕ} → Made ts n l m (Ok k) → m ≡ run (untag ts) l
  made_all d = did_all (ended-did d)

  -- none was, where as many are allowed as at first
  pub made_idle : {ts : List Staged} → Made ts n l m (Ok n) → m ≡ l
  unfolding run
  made_idle {ts} d =
      let h = ended-fits n n ts d.answer in
      made_all d ∙ ap (λ (ss : List Step). run ss l) (sym (take_all 0 (untag ts) (omega (arith, length-untag ts))))

  -- steps of one stage
  pub made_tag : (x : Stage) {ss : List Step} {r : Ran} → Did ss n l m r → Made (tag x ss) n l m (in_stage x r)
  made_tag x {ss} {r = Ok k} d =
      let h = ran-done n (length ss) k d.answer in
      let e = length-tag x ss in
      record { image = rw (untag-only x ss) d.image; answer = ap Ok h.1 ∙ sym (rw e at (went-le n (tag x ss) (omega arith))) }
  made_tag x {ss} {r = Err _} d = record { image = rw (untag-only x ss) d.image; answer = sym (tag_short n x ss (ran-stopped n (length ss) d.answer)) }

-- ---- one after the other

pub made_none : (n : ℕ) (l : List ℕ) → Made [] n l l (Ok n)
unfolding untag
made_none n l = record { image = (did_none n l).image; answer = ap Ok (omega arith) ∙ sym (went-le n [] (omega arith)) }

pub made_then : {a b : List Staged} {n k : ℕ} {l m m' : List ℕ} {r : Went} → Made a n l m (Ok k) → Made b k m m' r → Made (a ++ b) n l m' r
made_then {a} {b} {n} {k} {l} {m} {m'} {r} d e =
    let h = ended-fits n k a d.answer in
    record {
      image = rw (untag-append a b) (did_then (ended-did d) (record { image = e.image; answer = refl })).image;
      answer = e.answer ∙ ap (λ (j : ℕ). went j b) h.1 ∙ sym (went_over n a b h.0);
    }

pub made_stop : {a : List Staged} (b : List Staged) {n : ℕ} {l m : List ℕ} {x : Stage} → Made a n l m (Err x) → Made (a ++ b) n l m (Err x)
made_stop {a} b {n} {l} {m} {x} d =
    record {
      image = rw (untag-append a b) (did-stop (untag b) (short_did d)).image;
      answer = d.answer ∙ sym (went-gt n a b (short_over n x a d.answer));
    }

-- ---- what is left to make

pub making_start : (ts : List Staged) (n : ℕ) (l : List ℕ) → Making ts n l ts n l
making_start ts n l = record { on = λ m r d. d }

module _ {T ts : List Staged} {N n : ℕ} {L l : List ℕ} (g : Making T N L ts n l) where
  -- steps of the stage x that ended, where what is left goes by the image that they left
  pub making-then : (x : Stage) {ss : List Step} {k : ℕ} {m : List ℕ} {r : Ran} (f : List ℕ → List Staged) → ts ≡ tag x ss ++ f (run ss l) → Did ss n l m r → r ≡ Ok k
      → Making T N L (f m) k m
  making-then x f e d q =
      let i = did_all (rw q at d) in
      record { on = λ m' r w. g.on m' r (rw (e, ← i) (made_then (made_tag x (rw q at d)) w)) }

  -- steps that stopped
  pub making-stop : (x : Stage) {ss : List Step} {m : List ℕ} {r : Ran} (us : List Staged) → ts ≡ tag x ss ++ us → Did ss n l m r → r ≡ stopped → Made T N L m (Err x)
  making-stop x us e d q = g.on _ _ (rw e (made_stop us (made_tag x (rw q at d))))

  -- nothing left
  pub making_end : ts ≡ [] → Made T N L l (Ok n)
  making_end e = g.on _ _ (rw e (made_none _ _))

-- ---- a `?` on them

-- where it goes on, steps of the stage x had all been made
pub stage_on : (x : Stage) {r : Ran} {w : Went} {k : ℕ} → w ≡ in_stage x r → w ≡ Ok k → r ≡ Ok k
stage_on x {r = Ok j} e q = cc
stage_on x {r = Err _} e q = absurd (let z : ◌≡◌ {A = ℕ} 0 1 = cc in omega arith)

-- where it goes out, the call above answers with the same stage
pub went_out : {v : Went} {s : Stage} → IsErrAnd v (λ y. y ≡ s) → v ≡ Err s
went_out {v} h = let p = err_from_is_err_and v h in rw (p.1, p.2)

-- and they had stopped
pub stage_out : (x : Stage) {r : Ran} {w v : Went} {s : Stage} → w ≡ in_stage x r → w ≡ Err s → IsErrAnd v (λ y. y ≡ s) → (r ≡ stopped) × (v ≡ Err x)
stage_out x {r = Ok j} e q h = absurd (let z : ◌≡◌ {A = ℕ} 0 1 = cc in omega arith)
stage_out x {r = Err _} e q h = let o = went_out h in (refl, cc)

pub made_out : {a : List Staged} (b : List Staged) {n : ℕ} {l m : List ℕ} {w v : Went} {s : Stage} → Made a n l m w → w ≡ Err s → IsErrAnd v (λ y. y ≡ s) → Made (a ++ b) n l m v
made_out b d q h = let o = went_out h in rw o (made_stop b (rw q at d))

module _ {T ts : List Staged} {N n : ℕ} {L l m : List ℕ} (g : Making T N L ts n l) (x : Stage) {ss : List Step} {r : Ran} {w : Went} where
  pub making_on : {k : ℕ} (f : List ℕ → List Staged) → ts ≡ tag x ss ++ f (run ss l) → Did ss n l m r → w ≡ in_stage x r → w ≡ Ok k → Making T N L (f m) k m
  making_on f e d i q = making-then g x f e d (stage_on x i q)

  pub making_out : {v : Went} {s : Stage} (us : List Staged) → ts ≡ tag x ss ++ us → Did ss n l m r → w ≡ in_stage x r → w ≡ Err s → IsErrAnd v (λ y. y ≡ s) → Made T N L m v
  making_out us e d i q h = let o = stage_out x i q h in rw o.1 (making-stop g x us e d o.0)

-- ---- the answer

pub told_is : (n : ℕ) (ts : List Staged) → told_of (went n ts) n ≡ answer_of n ts
unfolding answer_of
told_is n ts = go (le-or-gt (length ts) n)
  where
    go : (length ts ≤ n) ⊎ (n < length ts) → told_of (went n ts) n ≡ stopped_at (length (take n ts)) (left n ts)
    go (inl h) =
        let e : n - (n - length ts) ≡ length ts = omega arith in
        rw (went-le n ts h, left_none n ts h, take_all n ts h) (ap DoneAll e)
    go (inr h) = rw (length-take-le n ts (omega arith)) (short_told n ts h)

-- a call that ended was allowed all its steps
pub done-fits : (n : ℕ) (ts : List Staged) → number_of (answer_of n ts) ≡ 0 → length ts ≤ n
done-fits n ts e = go (le-or-gt (length ts) n)
  where
    go : (length ts ≤ n) ⊎ (n < length ts) → length ts ≤ n
    go (inl h) = h
    go (inr h) =
        let q = went_short n ts h in
        let z : ◌≡◌ {A = ℕ} 7 0 = sym (ap (λ (v : Went). number_of (told_of v n)) q.1) ∙ ap number_of (told_is n ts) ∙ e in
        absurd (omega arith)
