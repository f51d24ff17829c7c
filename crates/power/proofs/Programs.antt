-- All steps of stages 3 and 4 program words. Assumes nothing.
use mathlib.Core.Logic.{inl, inr, ⊎_elim}
use mathlib.Core.Bool.{Bool, ◌&&◌, cond, false, true}
use mathlib.Core.Option.{Option, none, some}
use mathlib.Core.List.{List, [], ◌∷◌, flat_map}
use Prim.Native.Nat.{◌*◌, ℕ}
use lib.Dec.{eqb}
use Rattle.flash.specs.Step.{Step, sector}
use Rattle.flash.proofs.Every.{Every}
use Rattle.marking.specs.Marking.{unmarking}
use Rattle.item.specs.Mark.{mark_full}
use Rattle.item.specs.Erase.{erasing}
use Rattle.marking.proofs.Spans.{unmarking-every}
use Rattle.lists.specs.Lists.{keep}
use Rattle.lists.proofs.Maps.{flat_map_in, map_in}
use Rattle.lists.proofs.Member.{◌∈◌, in_append}
use Rattle.table.specs.declared.Page.{Page}
use Rattle.table.specs.Table.{active_page}
use Rattle.found.specs.Found.{Found, chunks, erase_all, version_of}
use Rattle.versions.specs.Versions.{both_sound, counting, drop_counting, drop_version, judge, judge_with, older, older_with, sound, version_in}
use Rattle.blobs.specs.Blobs.{blob_steps}
use Rattle.duplicates.specs.Duplicates.{duplicate_stage, duplicate_steps, last_marks}
use Rattle.quick.proofs.Idle.{newest_of}
use Rattle.page.proofs.Read.{no_room}
use Rattle.power.proofs.Plain.{stages}
use Rattle.power.proofs.Zeros.{Prog}

every_at : (ss : List Step) → Every Prog ss → (st : Step) → st ∈ ss → Prog st
unfolding Every
every_at [] p st m = absurd m
every_at (s ∷ ss) p st (inl e) = rw e p.0
every_at (s ∷ ss) p st (inr m) = every_at ss p.1 st m

erasing_prog : (s i n : ℕ) (st : Step) → st ∈ erasing s i n → Prog st
unfolding erasing
erasing_prog s i n st m = every_at (unmarking (s * 4096) i n) (unmarking-every (s * 4096) i n Prog (λ e a b. tt)) st m

all_prog : (xs : List Found) (st : Step) → st ∈ erase_all xs → Prog st
unfolding erase_all
all_prog xs st m = let g = flat_map_in _ xs st m in erasing_prog _ _ _ st g.2

drop_prog : (v : ℕ) (i : Found) (fs : List Found) (st : Step) → st ∈ drop_version v i fs → Prog st
unfolding drop_version
drop_prog v i fs st m = ⊎_elim (λ k. erasing_prog _ _ _ st k) (λ k. all_prog _ st k) (in_append st (erasing i.sector i.entry 1) (erase_all (chunks v fs)) m)

judge_prog : (fs : List Found) (v : ℕ) (st : Step) → st ∈ judge fs v → Prog st
unfolding judge
judge_prog fs v st m = go (counting v fs) m
  where
    two : (i : Found) (b : Bool) → st ∈ cond b [] (drop_version v i fs) → Prog st
    two i true k = absurd k
    two i false k = drop_prog v i fs st k

    go : (o : Option Found) → st ∈ judge_with v fs o → Prog st
    go none k = unfold judge_with in all_prog _ st k
    go (some i) k = unfold judge_with in two i (sound v fs i) k

counted_prog : (v : ℕ) (fs : List Found) (o : Option Found) (st : Step) → st ∈ drop_counting v fs o → Prog st
unfolding drop_counting
counted_prog v fs none st m = absurd m
counted_prog v fs (some i) st m = drop_prog v i fs st m

older_prog : (fs : List Found) (g : ℕ) (st : Step) → st ∈ older fs g → Prog st
unfolding older
older_prog fs g st m = one_of (both_sound fs (version_in g 0) (version_in g 0x80)) m
  where
    three : (b : Bool) (v w : ℕ) → st ∈ cond b (drop_counting w fs (counting w fs)) (drop_counting v fs (counting v fs)) → Prog st
    three true v w k = counted_prog w fs (counting w fs) st k
    three false v w k = counted_prog v fs (counting v fs) st k

    two : (o : Option Found) (v w : ℕ) → st ∈ older_with v w fs o → Prog st
    two none v w k = absurd (unfold older_with in k)
    two (some i) v w k = unfold older_with in three (eqb (version_of i.raw) v) v w k

    one_of : (b : Bool) → st ∈ cond b (older_with (version_in g 0) (version_in g 0x80) fs (newest_of g fs)) [] → Prog st
    one_of true k = two (newest_of g fs) (version_in g 0) (version_in g 0x80) k
    one_of false k = absurd k

blobs_prog : (fs : List Found) (st : Step) → st ∈ blob_steps fs → Prog st
unfolding blob_steps
blobs_prog fs st m =
    ⊎_elim (λ k. let g = flat_map_in (judge fs) _ st k in judge_prog fs g.0 st g.2) (λ k. let g = flat_map_in (older fs) _ st k in older_prog fs g.0 st g.2) (in_append st (flat_map (judge fs) _) (flat_map (older fs) _) m)

dup_prog : (fs : List Found) (st : Step) → st ∈ duplicate_steps fs → Prog st
unfolding duplicate_steps
dup_prog fs st m = all_prog _ st m

marks_prog : (ps : List Page) (l : List ℕ) (st : Step) → st ∈ last_marks ps l → Prog st
unfolding last_marks
marks_prog ps l st m = let r = map_in (λ (p : Page). mark_full p.sector) (keep (λ (p : Page). active_page p && no_room (sector p.sector l)) ps) st m in rw r.2 tt

-- all of them
pub stage_prog : (ps : List Page) (l : List ℕ) (st : Step) → st ∈ stages ps l → Prog st
unfolding stages duplicate_stage
stage_prog ps l st m =
    ⊎_elim (λ k. blobs_prog _ st k) (λ k. ⊎_elim (λ w. dup_prog _ st w) (λ w. marks_prog _ _ st w) (in_append st (duplicate_steps _) (last_marks _ _) k))
    (in_append st (blob_steps _) _ m)
