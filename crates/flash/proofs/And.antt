-- The AND of two bytes goes digit by digit. Assumes nothing.
use mathlib.Core.Path.{◌≡◌, ap, ◌∙◌}
use Prim.Native.Nat.{ℕ, ◌/◌, ◌%◌, ◌^◌, ◌<◌, ◌≤◌}
use native.Mathlib.Nat.{mod-eq_of_lt}
use lib.Bits.{and_comm, and_self, and_zero_r, and_le_l, and_le_r, and_mask, and_shr, and_mod}
use Rattle.flash.specs.Step.{and8}

pub and8_comm : (x y : ℕ) → and8 x y ≡ and8 y x
unfolding and8
and8_comm x y = and_comm x y

pub and8_none : (x : ℕ) → and8 x 0 ≡ 0
unfolding and8
and8_none x = and_zero_r x

pub and8-self : (x : ℕ) → and8 x x ≡ x
unfolding and8
and8-self x = and_self x

-- it is at most either
pub and8_left : (x y : ℕ) → and8 x y ≤ x
unfolding and8
and8_left x y = and_le_l x y

pub and8_right : (x y : ℕ) → and8 x y ≤ y
unfolding and8
and8_right x y = and_le_r x y

-- a byte ANDed with ones, and ones with a byte
pub and8-full : (x : ℕ) → x < 256 → and8 x 0xFF ≡ x
unfolding and8
and8-full x h = and_mask x 8 ∙ mod-eq_of_lt h

pub and8-blank : (x : ℕ) → x < 256 → and8 0xFF x ≡ x
and8-blank x h = and8_comm 0xFF x ∙ and8-full x h

-- two digits of the AND are the AND of the two digits
pub and8-pair : (x y k : ℕ) → and8 x y / 2 ^ k % 4 ≡ and8 (x / 2 ^ k % 4) (y / 2 ^ k % 4)
unfolding and8
and8-pair x y k = ap (λ (n : ℕ). n % 4) (and_shr x y k) ∙ and_mod (x / 2 ^ k) (y / 2 ^ k) 2
