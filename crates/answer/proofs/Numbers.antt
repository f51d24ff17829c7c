-- A number is given exactly when its condition holds and none before it does. Assumes nothing.
use mathlib.Core.Path.{◌≡◌, refl, sym, ◌∙◌, subst}
use mathlib.Core.Logic.{◌↔◌}
use mathlib.Core.Bool.{Bool, true, false, cond, not}
use mathlib.Core.List.{List, [], ◌∷◌}
use Prim.Native.Nat.{ℕ}
use lib.Dec.{T, eqb, T_not}
use borrow.Author.Tests.{eqb-true, eqb-false}
use Rattle.lists.proofs.Member.{true≢false}
use Rattle.answer.specs.declared.Answer.{Answer}
use Rattle.answer.specs.Answer.{number_of}
use Rattle.answer.specs.Staged.{Staged}
use Rattle.answer.specs.Told.{Line, number_in, before, condition_of, NoneHolds, Told}

-- k is the number of no line, and not 0
unfoldable pub absent : ℕ → List Line → Bool
absent k [] = not (eqb k 0)
absent k (x ∷ xs) = cond (eqb x.number k) false (absent k xs)

-- k is the number of one line, and not 0
unfoldable pub once : ℕ → List Line → Bool
once k [] = false
once k (x ∷ xs) = cond (eqb x.number k) (absent k xs) (once k xs)

-- a number that stands nowhere is not given
never : (k : ℕ) (xs : List Line) → T (absent k xs) → number_in xs ≡ k → ⊥
unfolding number_in absent
never k [] h e = T_not (eqb k 0) h (subst (λ (j : ℕ). T (eqb j 0)) e tt)
never k (x ∷ xs) h e = go (eqb x.number k) refl x.holds h e (never k xs)
  where
    go : (b : Bool) → eqb x.number k ≡ b → (c : Bool) → T (cond b false (absent k xs)) → cond c x.number (number_in xs) ≡ k → (T (absent k xs) → number_in xs ≡ k → ⊥) → ⊥
    go true p c h e ih = h
    go false p true h e ih = eqb-false x.number k p e
    go false p false h e ih = ih h e

exactly : (k : ℕ) (xs : List Line) → T (once k xs) → (number_in xs ≡ k) ↔ (NoneHolds (before k xs) × (condition_of k xs ≡ true))
unfolding number_in before condition_of once
exactly k [] h = absurd h
exactly k (x ∷ xs) h = go (eqb x.number k) refl x.holds refl h (exactly k xs)
  where
    go : (b : Bool) → eqb x.number k ≡ b → (c : Bool) → x.holds ≡ c → T (cond b (absent k xs) (once k xs))
        → (T (once k xs) → (number_in xs ≡ k) ↔ (NoneHolds (before k xs) × (condition_of k xs ≡ true)))
        → (cond c x.number (number_in xs) ≡ k) ↔ (NoneHolds (cond b [] (x ∷ before k xs)) × (cond b x.holds (condition_of k xs) ≡ true))
    go true p true q h ih = (λ e. (tt, q), λ e. eqb-true x.number k p)
    go true p false q h ih = (λ e. absurd (never k xs h e), λ e. absurd (true≢false e.1 q))
    go false p true q h ih = (λ e. absurd (eqb-false x.number k p e), λ e. absurd (true≢false q e.0.0))
    go false p false q h ih = let r = ih h in (λ e. let s = r.0 e in ((q, s.0), s.1), λ e. r.1 (e.0.1, e.1))

-- every number but 0 stands in the table: 0 is given where no condition holds
unfoldable pub positive : List Line → Bool
positive [] = true
positive (x ∷ xs) = cond (eqb x.number 0) false (positive xs)

none_holds : (xs : List Line) → T (positive xs) → (number_in xs ≡ 0) ↔ NoneHolds xs
unfolding number_in positive
none_holds [] h = (λ e. tt, λ e. refl)
none_holds (x ∷ xs) h = go (eqb x.number 0) refl x.holds refl h (none_holds xs)
  where
    go : (b : Bool) → eqb x.number 0 ≡ b → (c : Bool) → x.holds ≡ c → T (cond b false (positive xs)) → (T (positive xs) → (number_in xs ≡ 0) ↔ NoneHolds xs)
        → (cond c x.number (number_in xs) ≡ 0) ↔ ((x.holds ≡ false) × NoneHolds xs)
    go true p c q h ih = absurd h
    go false p true q h ih = (λ e. absurd (eqb-false x.number 0 p e), λ e. absurd (true≢false q e.0))
    go false p false q h ih = let r = ih h in (λ e. (q, r.0 e), λ e. r.1 e.1)

module _ {xs : List Line} {n : ℕ} {ts : List Staged} {r : Answer} (t : Told xs n ts r) where
  pub given : (k : ℕ) → T (once k xs) → (number_of r ≡ k) ↔ (NoneHolds (before k xs) × (condition_of k xs ≡ true))
  given k h = rw t.number (exactly k xs h)

  pub given_last : T (positive xs) → (number_of r ≡ 0) ↔ NoneHolds xs
  given_last h = rw t.number (none_holds xs h)

  pub not-given : (k : ℕ) → T (absent k xs) → number_of r ≡ k → ⊥
  not-given k h e = never k xs h (sym t.number ∙ e)
