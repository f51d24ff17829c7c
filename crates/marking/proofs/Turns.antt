-- A turn of each loop over the entries of a span: the list is its first step and the rest, or empty. Assumes nothing.
use mathlib.Core.Path.{◌≡◌, refl, ap, ◌∙◌}
use mathlib.Core.List.{List, [], ◌∷◌, ◌++◌}
use Prim.Native.Nat.{ℕ, suc, ◌+◌, ◌-◌, ◌≤◌, ◌<◌}
use native.Mathlib.Omega.{arith}
use Rattle.flash.specs.Step.{Step}
use Rattle.marking.specs.Marking.{state_step, state_steps, marking, unmarking}
use Rattle.marking.proofs.Spans.{unmarking-append}

-- one entry
pub unmarking_one : (base e : ℕ) → unmarking base e 1 ≡ state_step base 3 e ∷ []
unfolding unmarking state_steps
unmarking_one base e = refl

module _ (base j end : ℕ) where
  -- ascending, from entry j on
  pub marking_more : j < end → marking base j (end - j) ≡ state_step base 1 j ∷ marking base (j + 1) (end - (j + 1))
  unfolding marking state_steps
  marking_more h =
      let q : end - j ≡ suc (end - (j + 1)) = omega arith in
      rw q

  pub marking_end : end ≤ j → marking base j (end - j) ≡ []
  unfolding marking state_steps
  marking_end h =
      let q : end - j ≡ 0 = omega arith in
      rw q

  -- descending, down to entry j
  pub unmarking_more : j < end → unmarking base j (end - j) ≡ state_step base 3 (end - 1) ∷ unmarking base j (end - 1 - j)
  unmarking_more h =
      let q : end - j ≡ end - 1 - j + 1 = omega arith in
      let p : j + (end - 1 - j) ≡ end - 1 = omega arith in
      ap (unmarking base j) q ∙ unmarking-append base j (end - 1 - j) 1 ∙ ap (λ (e : ℕ). unmarking base e 1 ++ unmarking base j (end - 1 - j)) p
      ∙ ap (λ (x : List Step). x ++ unmarking base j (end - 1 - j)) (unmarking_one base (end - 1))

  pub unmarking_end : end ≤ j → unmarking base j (end - j) ≡ []
  unfolding unmarking state_steps
  unmarking_end h =
      let q : end - j ≡ 0 = omega arith in
      rw q
