-- Rule. Document 01, Recovery: "4. Duplicates. Items left that are not chunks and not of namespace 0, grouped by namespace and key, groups ascending: all but
-- the newest are erased, oldest first." It judges by the items fs found as it begins. Assumes nothing.
use Rattle.std.specs.Prelude.{Bool, cond, not, ◌&&◌, ℕ, eqb, leb}
use Rattle.std.proofs.Math.Option.{Option, none, some}
use mathlib.Core.List.{List, [], ◌∷◌, ◌++◌, map, flat_map, get_last?, drop_last}
use Rattle.entry.specs.States.{empty, count_state}
use Rattle.entry.specs.Fields.{namespace_of}
use Rattle.flash.specs.Step.{Step, run, sector}
use Rattle.item.specs.Mark.{mark_full}
use Rattle.lists.specs.Lists.{keep, sort_by, ascending}
use Rattle.table.specs.declared.Page.{Page}
use Rattle.table.specs.Table.{active_page}
use Rattle.found.specs.Found.{Found, found, newer, is_chunk, is_index, start_in, version_of, group_of, chunks, erase_all}

-- "not chunks and not of namespace 0"
abbrev pub ranked : List ℕ → Bool
ranked r = not (is_chunk r) && leb 1 (namespace_of r)

abbrev pub members : ℕ → List Found → List Found
members g fs = keep (λ (x : Found). ranked x.raw && eqb (group_of x.raw) g) fs

-- y, which stands later, is older than x (among equals it is newer)
abbrev pub older_than : Found → Found → Bool
older_than y x = not (newer y x)

-- "A blob index takes its version's chunks with it, unless the kept item is an index of the same start."
unfoldable pub with_chunks : List Found → Option Found → Found → List Found
with_chunks fs none x = x ∷ []
with_chunks fs (some k) x =
    x ∷ cond (is_index x.raw && not (is_index k.raw && eqb (start_in k.raw) (start_in x.raw))) (chunks (version_of x.raw) fs) []

-- "all but the newest are erased, oldest first": the newest is the last of them
unfoldable pub outdated : List Found → ℕ → List Found
outdated fs g = let s = sort_by older_than (members g fs) in flat_map (with_chunks fs (get_last? s)) (drop_last s)

-- "no item is erased twice in a stage"
abbrev pub same_place : Found → Found → Bool
same_place x y = eqb x.sector y.sector && eqb x.entry y.entry

unfoldable pub once_each : List Found → List Found
once_each [] = []
once_each (x ∷ xs) = x ∷ keep (λ (y : Found). not (same_place x y)) (once_each xs)

-- "groups ascending"
unfoldable pub groups : List Found → List ℕ
groups fs = ascending (map (λ (x : Found). group_of x.raw) (keep (λ (x : Found). ranked x.raw) fs))

unfoldable pub duplicate_steps : List Found → List Step
duplicate_steps fs = erase_all (once_each (flat_map (outdated fs) (groups fs)))

-- "Last step of this stage: an Active page that now has no Empty entry is marked Full."
unfoldable pub last_marks : List Page → List ℕ → List Step
last_marks ps l = map (λ (p : Page). mark_full p.sector) (keep (λ (p : Page). active_page p && eqb (count_state (sector p.sector l) empty) 0) ps)

unfoldable pub duplicate_stage : List Page → List ℕ → List Step
duplicate_stage ps l = let d = duplicate_steps (found ps l) in d ++ last_marks ps (run d l)
