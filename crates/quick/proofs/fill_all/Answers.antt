-- `quick::fill_all` meets its contract: the table has the items of the pages passed, and what their walks counted is noted. Assumes nothing.
use Rattle.std.proofs.Common.{◌∙◌, ◌+◌, sym, refl, [], map, drop, arith, append-nil}
use mathlib.Core.List.{flat_map}
use Rattle.lists.proofs.Member.{true≢false}
use Rattle.table.specs.Table.{listed}
use Rattle.table.proofs.Listing.{element, listed_end}
use Rattle.found.specs.Places.{place_of}
use Rattle.found.specs.Found.{found}
use Rattle.gathering.proofs.Paging.{page_lies}
use Rattle.slots.proofs.Filling.{none_leads, none_named}
use Rattle.quick.proofs.Pages.{page-filled, page_placed, page-stopped}
use Rattle.quick.proofs.fill_all.Goals as goal

pub loop-p-init : goal.loop-p-init
loop-p-init c =
    let free = c.clear.ensures in
    (refl, none_leads _ c.args.image.now free (omega (arith, c.requires.1, c.clear.auto.slots)), ([], none_named _ c.args.image.now free, refl), c.requires.2)

pub gather_page-k-requires : goal.gather_page-k-requires
gather_page-k-requires c =
    let l = c.loop-p in
    (page_lies c.args.image.now (listed c.args.table.now) _ c.requires.0 c.listed-p-items.ensures l.p-index _ c.loop-p-test.true, omega (arith, l.invariant.0), l.invariant.3)

pub fill-requires : goal.fill-requires
fill-requires c =
    let l = c.loop-p in
    let lies = page_lies c.args.image.now (listed c.args.table.now) _ c.requires.0 c.listed-p-items.ensures l.p-index _ c.loop-p-test.true in
    (rw c.gather_page-k.ensures.0 (page_placed c.args.image.now _ lies), l.invariant.1)

pub returns-then-not-fill : goal.returns-then-not-fill
returns-then-not-fill c =
    let l = c.loop-p in
    let ps = listed c.args.table.now in
    let image = c.args.image.now in
    let stops = rw c.gather_page-k.ensures.0 at (c.fill.ensures.1 c.if-not-fill.true) in
    let rest = element ps _ c.listed-p-items.ensures l.p-index _ c.loop-p-test.true in (
      λ e. absurd (true≢false e refl),
      λ e. page-stopped image _ l.slots _ (drop (l.p-index + 1) ps) (map place_of (found ps image)) stops (rw rest at l.invariant.2),
      c.gather_page-k.ensures.2,
    )

pub loop-p-preserved : goal.loop-p-preserved
loop-p-preserved c =
    let l = c.loop-p in
    let ps = listed c.args.table.now in
    let image = c.args.image.now in
    let filled = rw c.gather_page-k.ensures.0 at (c.fill.ensures.0 c.if-not-fill.false) in
    let rest = element ps _ c.listed-p-items.ensures l.p-index _ c.loop-p-test.true in (
      c.gather_page-k.auto.out ∙ l.invariant.0,
      filled.leads,
      page-filled image _ l.slots _ (drop (l.p-index + 1) ps) (map place_of (found ps image)) filled (rw rest at l.invariant.2),
      c.gather_page-k.ensures.2,
    )

pub returns : goal.returns
unfolding found flat_map
returns c =
    let l = c.loop-p in
    let s = rw (listed_end (listed c.args.table.now) _ c.listed-p-items.ensures l.p-index c.loop-p-test.false) at l.invariant.2 in
    (λ e. (l.invariant.1, rw (sym s.2 ∙ append-nil s.0) s.1), λ e. absurd (true≢false refl e), l.invariant.3)
