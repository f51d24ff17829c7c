-- Rule. Document 01, Recovery: "2. Finish." A round works on the page list ps and the free list fs as they stand, and on the image l. Assumes nothing.
use Rattle.std.specs.Prelude.{Bool, true, false, cond, ◌&&◌, ℕ, suc, max, eqb, leb, ltb, take}
use Rattle.std.proofs.Math.Option.{Option, none, some}
use mathlib.Core.List.{List, [], ◌∷◌, ◌++◌, get_last?, drop_last}
use Rattle.word.specs.Number.{part}
use Rattle.entry.specs.Fields.{namespace_of, chunk_index_of}
use Rattle.page.specs.Walk.{Laid}
use Rattle.flash.specs.Step.{Step, erase, run}
use Rattle.relocate.specs.Move.{moving}
use Rattle.lists.specs.Lists.{every, some_of, first_of, best, greatest, take_out}
use Rattle.table.specs.declared.Page.{Page}
use Rattle.table.specs.Table.{page_at, items_in, sequence, active_page, in_sector, as_full}

-- two lists of bytes are the same
unfoldable pub same_bytes : List ℕ → List ℕ → Bool
same_bytes [] [] = true
same_bytes [] (y ∷ ys) = false
same_bytes (x ∷ xs) [] = false
same_bytes (x ∷ xs) (y ∷ ys) = cond (eqb x y) (same_bytes xs ys) false

-- "each item header on it equals, in all 32 bytes, some item header on the source"
unfoldable pub copy_of : List Laid → List Laid → Bool
copy_of ys xs = every (λ (y : Laid). some_of (λ (x : Laid). same_bytes (take 32 y.raw) (take 32 x.raw)) xs) ys

-- "holds an item of the same namespace, key and chunk index for each source item"
unfoldable pub name_of : List ℕ → List ℕ
name_of r = namespace_of r ∷ chunk_index_of r ∷ part r 8 16

unfoldable pub holds_all : List Laid → List Laid → Bool
holds_all ys xs = every (λ (x : Laid). some_of (λ (y : Laid). same_bytes (name_of x.raw) (name_of y.raw)) ys) xs

-- y, which stands later, goes before x: "greatest sequence, last among equals"
abbrev pub no_older_page : Page → Page → Bool
no_older_page y x = leb (sequence x) (sequence y)

-- "the newest page (greatest sequence, last among equals)"
unfoldable pub newest : List Page → Option Page
newest ps = best no_older_page ps

-- ".. is newer than the source and holds .."
unfoldable pub newest_holds : Page → List ℕ → Option Page → Bool
newest_holds x l none = false
newest_holds x l (some y) = ltb (sequence x) (sequence y) && holds_all (items_in y.sector l) (items_in x.sector l)

-- what a round leaves
pub record Round : Type 0 where
  pub steps : List Step
  pub list : List Page
  pub free : List ℕ

-- "sequence one above the greatest among the list and the source"
abbrev pub next_sequence : Page → List Page → ℕ
next_sequence x ps = suc (max (greatest sequence ps) (sequence x))

-- "initialise a free sector with sequence one above .., copy the source's items in walk order, append the target, erase the source. With no free sector
-- the source goes to the front and counts as Full for the rest of this stage": the free sector is the last of the free list
unfoldable pub afresh : Page → List Page → List ℕ → List ℕ → Option ℕ → Round
afresh x ps fs l none = record { steps = []; list = as_full x ∷ ps; free = fs }
afresh x ps fs l (some t) =
    let ss = moving x.sector t (next_sequence x ps) (items_in x.sector l) l in
    record { steps = ss; list = ps ++ (page_at t (run ss l) ∷ []); free = drop_last fs ++ (x.sector ∷ []) }

-- the steps ss first, and then a round on what they left
unfoldable pub after : List Step → Round → Round
after ss w = record { steps = ss ++ w.steps; list = w.list; free = w.free }

-- "If there is an Active page, the first: when each item header on it equals .. some item header on the source, it is taken out the same way and erased."
-- "If there was no Active page: when the newest page .., the source is erased and this round ends. Otherwise" it is copied
unfoldable pub round_with : Page → List Page → List ℕ → List ℕ → Option Page → Round
round_with x ps fs l (some y) =
    cond (copy_of (items_in y.sector l) (items_in x.sector l))
    (after (erase y.sector ∷ [])
    (afresh x (take_out (in_sector y.sector) ps) (fs ++ (y.sector ∷ [])) (run (erase y.sector ∷ []) l) (get_last? (fs ++ (y.sector ∷ [])))))
    (afresh x ps fs l (get_last? fs))
round_with x ps fs l none =
    cond (newest_holds x l (newest ps))
    (record { steps = erase x.sector ∷ []; list = ps; free = fs ++ (x.sector ∷ []) })
    (afresh x ps fs l (get_last? fs))

-- "Take out the first Freeing page (the last of the list takes its place)."
unfoldable pub round : Page → List Page → List ℕ → List ℕ → Round
round x ps fs l = round_with x (take_out (in_sector x.sector) ps) fs l (first_of active_page (take_out (in_sector x.sector) ps))
