-- `versions::newest_of` meets its contract: what is found so far is the newest from here on. Assumes nothing.
use mathlib.Core.Path.{◌≡◌, sym, ap, ◌∙◌}
use Prim.Native.Nat.{ℕ}
use mathlib.Core.List.{List}
use Rattle.lists.specs.Lists.{keep, best as bestOf}
use Rattle.found.specs.Ranks.{rank_number}
use Rattle.found.specs.Places.{item_at, items_at, Placed}
use Rattle.found.proofs.Backward.{left_all, left_each, left_more, passed, passed_all, passed_more, passed_none}
use Rattle.versions.specs.Search.{newest_of, newest_index, newest_with}
use Rattle.versions.proofs.Newer.{newest_more}
use Rattle.versions.proofs.sound.newest_of.Goals as goal

pub loop-place-init : goal.loop-place-init
unfolding newest_index keep bestOf
loop-place-init c =
    let places = c.args.places.now in
    rw (c.into_iter-place-iterator.ensures.into_iter_gives, c.rev-place-items.ensures.source, c.iter.ensures.rest) record {
      left = left_all places;
      newest = sym (ap (λ (ps : List ℕ). newest_index (rank_number c.args.v) (rank_number c.args.w) (items_at c.args.image.now ps)) (passed_none places));
      placed = tt;
    }

pub newer_of-best-requires : goal.newer_of-best-requires
newer_of-best-requires c =
    let l = c.loop-place in
    let here = left_each c.args.places.now _ _ _ l.invariant.left c.in-Some.ensures.steps (Placed c.args.image.now) c.requires in
    (rw c.from.ensures here, l.invariant.placed)

pub loop-place-preserved : goal.loop-place-preserved
loop-place-preserved c =
    let l = c.loop-place in
    let image = c.args.image.now in
    let places = c.args.places.now in
    let v = rank_number c.args.v in
    let w = rank_number c.args.w in
    let more = passed_more places _ _ _ l.invariant.left c.in-Some.ensures.steps in record {
      left = left_more places _ _ _ l.invariant.left c.in-Some.ensures.steps;
      newest =
          c.newer_of-best.ensures.0
          ∙ ap (λ (p : ℕ). newest_with v w (item_at image p) (newest_of image l.best)) c.from.ensures
          ∙ ap (newest_with v w _) l.invariant.newest
          ∙ sym (newest_more v w _ (items_at image (passed places l.place-iterator.iter.rest.now)))
          ∙ sym (ap (λ (ps : List ℕ). newest_index v w (items_at image ps)) more);
      placed = c.newer_of-best.ensures.1;
    }

pub returns : goal.returns
returns c =
    let l = c.loop-place in
    let all : passed c.args.places.now l.place-iterator.iter.rest.now ≡ c.args.places.now = passed_all c.args.places.now _ c.in-None.ensures.steps.0 in
    (l.invariant.newest ∙ ap (λ (ps : List ℕ). newest_index (rank_number c.args.v) (rank_number c.args.w) (items_at c.args.image.now ps)) all, l.invariant.placed)
