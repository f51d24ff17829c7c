-- Stage 4 erases items found, each as a whole, and marks pages Full, so each walk leaves as many entries unread as before. Assumes nothing.
use mathlib.Core.Path.{◌≡◌, ap, sym, ◌∙◌}
use mathlib.Core.List.{List, flat_map}
use Prim.Native.Nat.{ℕ}
use lib.ListN.{length}
use lib.Seq.{take-length}
use Rattle.lists.specs.Each.{Each}
use Rattle.lists.proofs.Each.{each_of}
use Rattle.lists.proofs.Maps.{flat_map_in}
use Rattle.lists.proofs.Member.{◌∈◌}
use Rattle.page.specs.Unread.{unread_from}
use Rattle.flash.specs.Step.{Step, run, sector}
use Rattle.flash.proofs.Laws.{run-append}
use Rattle.table.specs.declared.Page.{Page}
use Rattle.found.specs.Found.{Found, found}
use Rattle.found.specs.Places.{Lies}
use Rattle.found.proofs.Thinning.{Met, erased-unread, found_met}
use Rattle.duplicates.specs.Duplicates.{outdated, once_each, groups, duplicate_steps, last_marks, duplicate_stage}
use Rattle.duplicates.proofs.Once.{once_in}
use Rattle.duplicates.proofs.Lengths.{outdated_in}
use Rattle.duplicates.proofs.MarksUnread.{marks-unread}

-- what is erased was found
erased_in : (fs : List Found) (z : Found) → z ∈ once_each (flat_map (outdated fs) (groups fs)) → z ∈ fs
erased_in fs z m =
    let g = flat_map_in (outdated fs) (groups fs) z (once_in (flat_map (outdated fs) (groups fs)) z m) in
    outdated_in fs g.0 z g.2

-- the erasures
duplicates_unread : (ps : List Page) (l : List ℕ) → Each (Lies l) ps → (u : ℕ)
    → unread_from (sector u (run (duplicate_steps (found ps l)) l)) 126 0 ≡ unread_from (sector u l) 126 0
unfolding duplicate_steps
duplicates_unread ps l h u =
    let fs = found ps l in
    let xs = once_each (flat_map (outdated fs) (groups fs)) in
    erased-unread l xs (each_of (Met l) xs (λ x m. found_met ps l h x (erased_in fs x m))) u

-- and the marks
pub stage-unread : (ps : List Page) (l : List ℕ) → Each (Lies l) ps → (u : ℕ)
    → unread_from (sector u (run (duplicate_stage ps l) l)) 126 0 ≡ unread_from (sector u l) 126 0
unfolding duplicate_stage
stage-unread ps l h u =
    let d = duplicate_steps (found ps l) in
    let ms = last_marks ps (run d l) in
    let all = ap (λ (ss : List Step). unread_from (sector u (run ss (run d l))) 126 0) (take-length ms) in
    rw (run-append d ms l) (sym all ∙ marks-unread ps (run d l) (run d l) (length ms) u ∙ duplicates_unread ps l h u)
