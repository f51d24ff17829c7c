-- Steps under an allowance, in sequence: the first so many of a ++ b are the first so many of a, or all of a and then some of b. Assumes nothing.
use Rattle.std.specs.Prelude.{Ok, Err, IsErr}
use mathlib.Core.Path.{◌≡◌, refl, sym, ap, ◌∙◌}
use mathlib.Core.Logic.{◌⊎◌, inl, inr, ⊎_elim}
use mathlib.Core.List.{List, [], ◌∷◌, ◌++◌}
use Prim.Native.Nat.{ℕ, zero, suc, ◌+◌, ◌-◌, ◌≤◌, ◌<◌}
use native.Mathlib.Omega.{arith}
use lib.ListN.{length, take, length-append}
use lib.Seq.{take_all, take-nil, take-append-le, take-append-add}
use Rattle.flash.specs.Step.{Step, run, apply}
use Rattle.std.proofs.lemmas.Bool.{false≢true}
use Rattle.flash.specs.declared.Stopped.{Stopped}
use Rattle.flash.specs.Did.{Did, Goes, stopped, Ran}
use Rattle.flash.proofs.Answer.{ran_le, ran-gt, ran-done, ran-stopped, ran-sub}

-- ---- lists of steps

pub run-append : (a b : List Step) (l : List ℕ) → run (a ++ b) l ≡ run b (run a l)
unfolding run
run-append [] b l = refl
run-append (s ∷ a) b l = run-append a b (apply s l)

-- a cut falls into the first list, or past it
pub cut-append : (k : ℕ) (a b : List Step) → (take k (a ++ b) ≡ take k a) ⊎ ((j : ℕ) × (take k (a ++ b) ≡ a ++ take (suc j) b))
cut-append zero a b = inl refl
cut-append (suc k) [] b = inr (k, refl)
cut-append (suc k) (s ∷ a) b =
    ⊎_elim (λ e. inl (ap {B = List Step} (λ (r : List Step). s ∷ r) e)) (λ e. inr (e.0, ap {B = List Step} (λ (r : List Step). s ∷ r) e.1))
    (cut-append k a b)

take_over : (n : ℕ) (a b : List Step) → length a ≤ n → take n (a ++ b) ≡ a ++ take (n - length a) b
take_over n a b h =
    let e : n ≡ length a + (n - length a) = omega arith in
    ap (λ (k : ℕ). take k (a ++ b)) e ∙ take-append-add a b (n - length a)

-- ---- what was done

-- all of a was made: the image is what a makes of it
pub did_all : {a : List Step} {n k : ℕ} {l m : List ℕ} → Did a n l m (Ok k) → m ≡ run a l
did_all {a} {n} {k} d = d.image ∙ rw (take_all n a (ran-done n (length a) k d.answer).0)

pub did_none : (n : ℕ) (l : List ℕ) → Did [] n l l (Ok n)
unfolding run
did_none n l = record { image = rw (take-nil {A = Step} n); answer = sym (ran_le n 0 (omega arith) ∙ ap Ok (omega arith)) }

pub did_one : (s : Step) (n : ℕ) (l m : List ℕ) → 0 < n → m ≡ apply s l → Did (s ∷ []) n l m (Ok (n - 1))
unfolding run
did_one s zero l m h e = absurd (omega arith)
did_one s (suc n) l m h e = record { image = rw (take-nil {A = Step} n) e; answer = sym (ran_le (suc n) 1 (omega arith)) }

pub did-zero : (s : Step) (ss : List Step) (n : ℕ) (l : List ℕ) → n ≡ 0 → Did (s ∷ ss) n l l stopped
unfolding run
did-zero s ss zero l e = record { image = refl; answer = sym (ran-gt 0 (suc (length ss)) (omega arith)) }
did-zero s ss (suc n) l e = absurd (omega arith)

pub did_then : {a b : List Step} {n k : ℕ} {l m m' : List ℕ} {r : Ran} → Did a n l m (Ok k) → Did b k m m' r → Did (a ++ b) n l m' r
did_then {a} {b} {n} {k} {l} d e =
    let h = ran-done n (length a) k d.answer in
    let i = did_all d in
    record {
      image = rw (take_over n a b h.0, run-append a (take (n - length a) b) l, ← i, ← h.1) e.image;
      answer = rw (length-append a b, ← ran-sub n (length a) (length b) h.0, ← h.1) e.answer;
    }

pub did-stop : {a : List Step} (b : List Step) {n : ℕ} {l m : List ℕ} → Did a n l m stopped → Did (a ++ b) n l m stopped
did-stop {a} b {n} d =
    let h = ran-stopped n (length a) d.answer in
    record {
      image = rw (take-append-le n a b (omega arith)) d.image;
      answer = rw (length-append a b, ran-gt n (length a + length b) (omega arith));
    }

-- ---- what is left to do

pub goes_start : (ss : List Step) (n : ℕ) (l : List ℕ) → Goes ss n l ss n l
goes_start ss n l = record { on = λ m r d. d }

-- a call that ended, with more to do
pub goes_on : {S ss a b : List Step} {N n k : ℕ} {L l m : List ℕ} {r : Ran} → Goes S N L ss n l → ss ≡ a ++ b → Did a n l m r → r ≡ Ok k → Goes S N L b k m
goes_on g e d q = record { on = λ m' r d'. g.on m' r (rw e (did_then (rw q at d) d')) }

-- the same, where what is left goes by the image that the call left
pub goes_then : {S ss a : List Step} {N n k : ℕ} {L l m : List ℕ} {r : Ran} (f : List ℕ → List Step)
    → Goes S N L ss n l → ss ≡ a ++ f (run a l) → Did a n l m r → r ≡ Ok k → Goes S N L (f m) k m
goes_then f g e d q =
    let i = did_all (rw q at d) in
    rw i (goes_on g e (rw i at d) q)

-- a call that stopped
pub goes-stop : {S ss a : List Step} (b : List Step) {N n : ℕ} {L l m : List ℕ} {r : Ran} → Goes S N L ss n l → ss ≡ a ++ b → Did a n l m r → r ≡ stopped → Did S N L m stopped
goes-stop b g e d q = g.on _ stopped (rw e (did-stop b (rw q at d)))

-- the same, where the call above stops with it
pub goes_out : {S ss a : List Step} (b : List Step) {N n : ℕ} {L l m : List ℕ} {r x : Ran} {e : Stopped}
    → Goes S N L ss n l → ss ≡ a ++ b → Did a n l m r → r ≡ Err e → IsErr x → Did S N L m x
goes_out b {x = Err _} g e d q h = goes-stop b g e d q
goes_out b {x = Ok _} g e d q h = absurd (false≢true h)

-- nothing left
pub goes_end : {S ss : List Step} {N n : ℕ} {L l : List ℕ} → Goes S N L ss n l → ss ≡ [] → Did S N L l (Ok n)
goes_end g e = g.on _ _ (rw e (did_none _ _))

-- the last call, whose answer is the whole's
pub goes_last : {S ss : List Step} {N n : ℕ} {L l m : List ℕ} {r : Ran} → Goes S N L ss n l → Did ss n l m r → Did S N L m r
goes_last g d = g.on _ _ d

-- no step
pub goes_same : {S ss ss' : List Step} {N n : ℕ} {L l : List ℕ} → Goes S N L ss n l → ss ≡ ss' → Goes S N L ss' n l
goes_same g e = rw e at g

-- ---- what a promise fixes

-- any two outcomes that it allows are the same
pub did_same : {ss : List Step} {n : ℕ} {l m m' : List ℕ} {r r' : Ran} → Did ss n l m r → Did ss n l m' r' → (m ≡ m') × (r ≡ r')
did_same d e = (d.image ∙ sym e.image, d.answer ∙ sym e.answer)
