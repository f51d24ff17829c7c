-- The lists of one sector more, and what was seen of the sector that is listed. Assumes nothing.
use mathlib.Core.Path.{◌≡◌, ap, ◌∙◌}
use mathlib.Core.Bool.{true, false}
use mathlib.Core.List.{List, [], ◌∷◌, ◌++◌, append-nil}
use Prim.Native.Nat.{ℕ, ◌+◌, ◌<◌}
use native.Mathlib.Omega.{arith}
use native.Mathlib.Numerals.{add-one}
use lib.ListN.{get_or, length}
use Rattle.flash.specs.Step.{sector}
use Rattle.page.specs.declared.seen.Seen.{Seen}
use Rattle.page.specs.State.{state_of, is_free}
use Rattle.page.specs.Record.{seen_of}
use Rattle.page.proofs.Fields.{seen_state}
use Rattle.records.specs.Records.{each_to}
use Rattle.records.proofs.Reading.{each_at, length-each}
use Rattle.table.specs.Table.{sectors_of, page_at, pages_to, frees_to}

module _ (l : List ℕ) (n : ℕ) where
  pub pages_free : is_free (state_of (sector n l)) ≡ true → pages_to l (n + 1) ≡ pages_to l n
  unfolding pages_to
  pages_free e = rw (add-one, e) (append-nil (pages_to l n))

  pub pages-used : is_free (state_of (sector n l)) ≡ false → pages_to l (n + 1) ≡ pages_to l n ++ (page_at n l ∷ [])
  unfolding pages_to
  pages-used e = rw (add-one, e)

  pub frees_free : is_free (state_of (sector n l)) ≡ true → frees_to l (n + 1) ≡ frees_to l n ++ (n ∷ [])
  unfolding frees_to
  frees_free e = rw (add-one, e)

  pub frees-used : is_free (state_of (sector n l)) ≡ false → frees_to l (n + 1) ≡ frees_to l n
  unfolding frees_to
  frees-used e = rw (add-one, e) (append-nil (frees_to l n))

-- of what was seen of an image, each is its sector's and tells its state
module _ (l : List ℕ) (xs : List Seen) (e : xs ≡ each_to seen_of l (sectors_of l)) (n : ℕ) (h : n < length xs) (d : Seen) where
  pub seen_at : get_or xs n d ≡ seen_of (sector n l)
  seen_at =
      let long = length-each seen_of l (sectors_of l) in
      ap (λ (ys : List Seen). get_or ys n d) e ∙ each_at seen_of l (sectors_of l) n d (omega (arith, ap length e))

  pub state_at_lem : (get_or xs n d).state ≡ state_of (sector n l)
  state_at_lem = ap (λ (r : Seen). r.state) seen_at ∙ seen_state (sector n l)
