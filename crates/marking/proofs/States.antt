-- The step of an entry sets its own state and leaves every other, that of the spare pairs too. The states are those of the page at the address base.
-- Assumes nothing.
use mathlib.Core.Path.{◌≡◌, refl, ap, ◌∙◌}
use mathlib.Core.Logic.{inl, inr, ⊎_elim}
use mathlib.Core.Bool.{Bool, true, false}
use mathlib.Core.List.{List}
use Prim.Native.Nat.{ℕ, ◌+◌, ◌-◌, ◌*◌, ◌/◌, ◌%◌, ◌^◌, ◌≤◌, ◌<◌}
use native.Mathlib.Nat.{mod-eq_of_lt}
use native.Mathlib.Omega.{arith}
use lib.Bits.{and_mask}
use lib.Dec.{eqb}
use lib.ListN.{length, get_or, drop}
use lib.Seq.{get_or-drop}
use borrow.Author.Tests.{eqb-true, eqb-false}
use Rattle.entry.specs.States.{state_at}
use Rattle.flash.specs.Step.{apply, and8}
use Rattle.flash.proofs.Order.{le-or-gt}
use Rattle.flash.proofs.And.{and8-pair}
use Rattle.flash.proofs.Bytes.{word_byte, nth_of}
use Rattle.flash.proofs.Frame.{Outside, apply-other}
use Rattle.marking.specs.Marking.{mask_of, state_step}
use Rattle.marking.proofs.Pairs.{mask-own, mask-other}

-- two bits ANDed with ones
pub and-three : (x : ℕ) → x < 4 → and8 x 3 ≡ x
unfolding and8
and-three x h = and_mask x 2 ∙ mod-eq_of_lt h

-- a state goes by its byte alone
pub state-byte : (base e : ℕ) (l m : List ℕ) → get_or m (base + (32 + e / 4)) 0 ≡ get_or l (base + (32 + e / 4)) 0 → state_at (drop base m) e ≡ state_at (drop base l) e
unfolding state_at
state-byte base e l m h = rw (get_or-drop base m, get_or-drop base l, h)

module _ (base d e : ℕ) (l : List ℕ) (long : base + 4096 ≤ length l) (small : d ≤ 3) (page : e < 128) where
  -- an entry x of the same word
  beside : (x : ℕ) → x / 16 ≡ e / 16 → state_at (drop base (apply (state_step base d e) l)) x ≡ and8 (state_at (drop base l) x) (mask_of d e (x / 4) / 2 ^ (2 * (x % 4)) % 4)
  unfolding state_at apply
  beside x v =
      let w = e / 16 in
      let i = x / 4 - w * 4 in
      let p : base + 32 + w * 4 + i ≡ base + (32 + x / 4) = omega arith in
      let q : w * 4 + i ≡ x / 4 = omega arith in
      let b = word_byte l (base + 32 + w * 4) (mask_of d e (w * 4)) (mask_of d e (w * 4 + 1)) (mask_of d e (w * 4 + 2)) (mask_of d e (w * 4 + 3)) i (omega arith) (omega arith) in
      let byte = rw (p, nth_of (mask_of d e) (w * 4) i (omega arith), q) at b in
      rw (get_or-drop base (apply (state_step base d e) l), get_or-drop base l) (
      ap (λ (r : ℕ). r / 2 ^ (2 * (x % 4)) % 4) byte ∙ and8-pair (get_or l (base + (32 + x / 4)) 0) (mask_of d e (x / 4)) (2 * (x % 4))
      )

  -- its own state
  pub step_sets : state_at (drop base (apply (state_step base d e) l)) e ≡ and8 (state_at (drop base l) e) (3 - d)
  step_sets = beside e refl ∙ ap (and8 (state_at (drop base l) e)) (mask-own d e small)

  -- every other
  pub step_keeps : (x : ℕ) → (x ≡ e → ⊥) → state_at (drop base (apply (state_step base d e) l)) x ≡ state_at (drop base l) x
  step_keeps x ne = go (eqb (x / 16) (e / 16)) refl
    where
      state-lt : state_at (drop base l) x < 4
      state-lt = unfold state_at in omega arith

      go : (b : Bool) → eqb (x / 16) (e / 16) ≡ b → state_at (drop base (apply (state_step base d e) l)) x ≡ state_at (drop base l) x
      go true v = beside x (eqb-true (x / 16) (e / 16) v) ∙ ap (and8 (state_at (drop base l) x)) (mask-other d e small x ne) ∙ and-three _ state-lt
      go false v =
          let k : (x / 16 ≡ e / 16 → ⊥) = eqb-false (x / 16) (e / 16) v in
          let a = base + 32 + e / 16 * 4 in
          let o : Outside a (a + 4) (base + (32 + x / 4)) = ⊎_elim (λ h. inl (omega arith)) (λ h. inr (omega arith)) (le-or-gt (x / 16 + 1) (e / 16)) in
          state-byte base x l _ (apply-other a (a + 4) (state_step base d e) l (base + (32 + x / 4)) (omega arith, omega arith) o)
