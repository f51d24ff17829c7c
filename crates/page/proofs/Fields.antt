-- What the scan sees of a sector, field by field. Assumes nothing.
use mathlib.Core.Path.{◌≡◌, refl}
use mathlib.Core.Bool.{Bool, true, false}
use mathlib.Core.List.{List}
use Prim.Native.Nat.{ℕ, ◌≤◌}
use native.Mathlib.Omega.{arith}
use Rattle.entry.specs.States.{count_state, empty, erased, totals_of}
use Rattle.page.specs.Record.{seen_of, used_seen}
use Rattle.page.specs.State.{is_free, sequence_of, state_of}

module _ (t : List ℕ) where
  -- its state is the sector's
  pub seen_state : (seen_of t).state ≡ state_of t
  unfolding seen_of
  seen_state = go (is_free (state_of t)) refl
    where
      go : (b : Bool) → is_free (state_of t) ≡ b → (seen_of t).state ≡ state_of t
      go true e = rw e
      go false e = rw e

  -- of a sector that is not free
  pub seen_page : is_free (state_of t) ≡ false → seen_of t ≡ used_seen (state_of t) t
  unfolding seen_of
  seen_page e = rw e

  pub seen_sequence : is_free (state_of t) ≡ false → (seen_of t).sequence ≡ sequence_of t
  seen_sequence e = rw (seen_page e)

  pub seen_empty : is_free (state_of t) ≡ false → (seen_of t).empty ≡ count_state t empty
  unfolding totals_of
  seen_empty e = rw (seen_page e)

  pub seen_erased : is_free (state_of t) ≡ false → (seen_of t).erased ≡ count_state t erased
  unfolding totals_of
  seen_erased e = rw (seen_page e)

  -- of any sector
  pub sequence-below : (seen_of t).sequence ≤ sequence_of t
  unfolding seen_of
  sequence-below = go (is_free (state_of t)) refl
    where
      go : (b : Bool) → is_free (state_of t) ≡ b → (seen_of t).sequence ≤ sequence_of t
      go true e = rw e (omega arith)
      go false e = rw e (omega arith)
