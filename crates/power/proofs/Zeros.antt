-- A state that is 0 stays 0 while words are programmed, so an entry that was erased on the way is Erased at the end. Assumes nothing.
use mathlib.Core.Path.{◌∙◌, ◌≡◌, ap, refl}
use mathlib.Core.Logic.{inl, inr, ⊎_elim}
use mathlib.Core.Bool.{Bool, false, true}
use mathlib.Core.List.{List, [], ◌∷◌}
use Prim.Native.Nat.{◌%◌, ◌*◌, ◌+◌, ◌/◌, ◌<◌, ◌^◌, ◌≤◌, ℕ}
use native.Mathlib.Omega.{arith}
use lib.Bits.{and_zero_l}
use lib.Dec.{eqb}
use lib.ListN.{drop, get_or, length}
use lib.Seq.{get_or-drop, set_out}
use borrow.Author.Tests.{eqb-false, eqb-true}
use Rattle.entry.specs.States.{state_at}
use Rattle.flash.specs.Step.{Step, and8, and_word, apply, erase, program, put, run}
use Rattle.flash.proofs.And.{and8_none, and8-pair}
use Rattle.flash.proofs.Frame.{length-apply}
use Rattle.flash.proofs.Order.{le-or-gt}
use Rattle.flash.proofs.Bytes.{put_other, put_same_at}
use Rattle.marking.specs.Marking.{state_step}
use Rattle.marking.proofs.States.{state-byte, step_sets}
use Rattle.lists.proofs.Member.{◌∈◌}

and_zero : (x y : ℕ) → x ≡ 0 → and8 x y ≡ 0
unfolding and8
and_zero x y e = rw e (and_zero_l y)

put-zero : (base e i b : ℕ) (l : List ℕ) → state_at (drop base l) e ≡ 0 → state_at (drop base (put l i b)) e ≡ 0
put-zero base e i b l z = go (eqb j i) refl
  where
    j : ℕ
    j = base + (32 + e / 4)

    inside : j ≡ i → i < length l → state_at (drop base (put l i b)) e ≡ 0
    inside q h =
        unfold state_at in (
        ap (λ (v : ℕ). v / 2 ^ (2 * (e % 4)) % 4) (get_or-drop base (put l i b) (32 + e / 4) 0 ∙ ap (λ (k : ℕ). get_or (put l i b) k 0) q ∙ put_same_at l i b h)
        ∙ and8-pair (get_or l i 0) b (2 * (e % 4)) ∙ and_zero _ _ (rw (← q, ← get_or-drop base l (32 + e / 4) 0) z)
        )

    outside : length l ≤ i → state_at (drop base (put l i b)) e ≡ 0
    outside h = unfold put in rw (set_out l i (and8 (get_or l i 0) b) h) z

    go : (c : Bool) → eqb j i ≡ c → state_at (drop base (put l i b)) e ≡ 0
    go true q = ⊎_elim (λ h. outside h) (λ h. inside (eqb-true j i q) h) (le-or-gt (length l) i)
    go false q = state-byte base e l (put l i b) (put_other l i b j (eqb-false j i q)) ∙ z

-- the step programs a word
abbrev pub Prog : Step → Type 0
Prog (program at b0 b1 b2 b3) = Unit {0}
Prog (erase s) = ⊥

apply-zero : (base e : ℕ) (st : Step) (l : List ℕ) → Prog st → state_at (drop base l) e ≡ 0 → state_at (drop base (apply st l)) e ≡ 0
unfolding apply and_word
apply-zero base e (program at b0 b1 b2 b3) l f z = put-zero base e _ b3 _ (put-zero base e _ b2 _ (put-zero base e _ b1 _ (put-zero base e at b0 l z)))
apply-zero base e (erase s) l f z = absurd f

run-zero : (base e : ℕ) (ss : List Step) (l : List ℕ) → ((st : Step) → st ∈ ss → Prog st) → state_at (drop base l) e ≡ 0 → state_at (drop base (run ss l)) e ≡ 0
unfolding run
run-zero base e [] l f z = z
run-zero base e (s ∷ ss) l f z = run-zero base e ss (apply s l) (λ t m. f t (inr m)) (apply-zero base e s l (f s (inl refl)) z)

-- the step that erases the header is among the steps: the entry is Erased at the end
pub hit-zero : (base e : ℕ) (ss : List Step) (l : List ℕ) → base + 4096 ≤ length l → e < 126 → ((st : Step) → st ∈ ss → Prog st)
    → state_step base 3 e ∈ ss → state_at (drop base (run ss l)) e ≡ 0
unfolding run
hit-zero base e [] l h k f m = absurd m
hit-zero base e (s ∷ ss) l h k f (inl q) =
    run-zero base e ss (apply s l) (λ t m. f t (inr m)) (rw (← q) (step_sets base 3 e l h (omega arith) (omega arith) ∙ and8_none (state_at (drop base l) e)))
hit-zero base e (s ∷ ss) l h k f (inr m) = hit-zero base e ss (apply s l) (rw (length-apply s l) h) k (λ t w. f t (inr w)) m
