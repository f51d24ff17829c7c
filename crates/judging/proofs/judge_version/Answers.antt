-- `versions::judge_version` meets its contract: the index that counts, and whether it is right, decide the definition's cases. Assumes nothing.
use mathlib.Core.Path.{sym, ap, ◌∙◌}
use Rattle.flash.proofs.Laws.{did_none}
use Rattle.found.specs.Ranks.{rank_number}
use Rattle.found.specs.Places.{items_at}
use Rattle.found.proofs.Alike.{alike_refl}
use Rattle.versions.specs.Versions.{judge_with, judge}
use Rattle.versions.specs.Search.{newest_of}
use Rattle.versions.proofs.Newer.{newest-counts}
use Rattle.judging.proofs.judge_version.Goals as goal

pub returns-in_default : goal.returns-in_default
unfolding judge judge_with
returns-in_default c =
    let l = c.args.image.now in
    let v = rank_number c.args.v in
    let found = c.newest_of.ensures in
    let q = sym (newest-counts v (items_at l c.args.places.now)) ∙ sym found.0 ∙ ap (newest_of l) c.in_default.is in
    rw q c.erase_chunks.ensures

pub is_sound-requires : goal.is_sound-requires
is_sound-requires c =
    (c.requires, rw c.in-Some.is at c.newest_of.ensures.1)

pub returns-then-is_sound : goal.returns-then-is_sound
unfolding judge judge_with
returns-then-is_sound c =
    let l = c.args.image.now in
    let v = rank_number c.args.v in
    let found = c.newest_of.ensures in
    let q = sym (newest-counts v (items_at l c.args.places.now)) ∙ sym found.0 ∙ ap (newest_of l) c.in-Some.is in
    rw (q, sym c.is_sound.ensures ∙ c.if-is_sound.true) (did_none _ _, alike_refl _)

pub drop_version-requires : goal.drop_version-requires
drop_version-requires c =
    (c.requires.each, rw c.in-Some.is at c.newest_of.ensures.1)

pub returns : goal.returns
unfolding judge judge_with
returns c =
    let l = c.args.image.now in
    let v = rank_number c.args.v in
    let found = c.newest_of.ensures in
    let q = sym (newest-counts v (items_at l c.args.places.now)) ∙ sym found.0 ∙ ap (newest_of l) c.in-Some.is in
    rw (q, sym c.is_sound.ensures ∙ c.if-is_sound.false) c.drop_version.ensures
