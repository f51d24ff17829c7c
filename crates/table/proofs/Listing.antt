-- The elements of a list, one at a time, as a loop over what a call lends of it meets them. Assumes nothing.
use mathlib.Core.Path.{◌≡◌, ap}
use mathlib.Core.List.{List, [], ◌∷◌}
use Prim.Native.Nat.{ℕ, ◌+◌, ◌<◌, ◌≤◌}
use native.Mathlib.Omega.{arith}
use native.Mathlib.Numerals.{add-one}
use lib.ListN.{length, drop, get_or, drop_of_length-le}
use lib.Seq.{drop-cons}

-- ys is what is lent of xs
module _ {A : Type 0} (xs ys : List A) (same : ys ≡ xs) where
  pub element : (i : ℕ) (d : A) → i < length ys → drop i xs ≡ get_or ys i d ∷ drop (i + 1) xs
  element i d h =
      rw (← same, add-one i) (drop-cons ys i d h)

  pub listed_end : (i : ℕ) → length ys ≤ i → drop i xs ≡ []
  listed_end i h = drop_of_length-le xs (omega (arith, h, ap length same))
