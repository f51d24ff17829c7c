-- `gathering::gather` meets its contract: what is stored so far, and the places on the pages from here on, is the whole, and what was counted is noted. Assumes
-- nothing.
use Rattle.std.proofs.Common.{◌∙◌, ◌+◌, ◌++◌, sym, ap, refl, List, length, ℕ, map, take, drop, arith, append-nil}
use mathlib.Core.List.{flat_map}
use Rattle.table.specs.declared.Page.{Page}
use Rattle.table.specs.Table.{listed}
use Rattle.table.proofs.Listing.{element, listed_end}
use Rattle.table.proofs.Held.{few_listed}
use Rattle.found.specs.Places.{place_of}
use Rattle.found.specs.Found.{found}
use Rattle.gathering.proofs.Paging.{page_lies, page_more}
use Rattle.gathering.proofs.gather.Goals as goal

pub loop-p-init : goal.loop-p-init
loop-p-init c = (omega arith, refl, c.requires.2)

pub gather_page-k-requires : goal.gather_page-k-requires
gather_page-k-requires c =
    let l = c.loop-p in
    let ps = listed c.args.table.now in (
      page_lies c.args.image.now ps _ c.requires.0 c.listed-p-items.ensures l.p-index _ c.loop-p-test.true,
      omega (arith, l.invariant.0, l.auto.out, c.requires.1, ap length c.listed-p-items.ensures, few_listed c.args.table.now, c.loop-p-test.true),
      l.invariant.2,
    )

pub loop-p-preserved : goal.loop-p-preserved
loop-p-preserved c =
    let l = c.loop-p in
    let image = c.args.image.now in
    let ps = listed c.args.table.now in
    let rest = drop (l.p-index + 1) ps in
    let made = c.gather_page-k.ensures in (
      omega (arith, made.1, l.invariant.0),
      ap (λ (xs : List ℕ). xs ++ map place_of (found rest image)) made.0
          ∙ page_more image _ rest (take l.k l.out)
          ∙ ap (λ (qs : List Page). take l.k l.out ++ map place_of (found qs image)) (sym (element ps _ c.listed-p-items.ensures l.p-index _ c.loop-p-test.true))
          ∙ l.invariant.1,
      made.2,
    )

pub returns : goal.returns
unfolding found flat_map
returns c =
    let l = c.loop-p in
    let out = take l.k l.out in (
      sym (append-nil out)
          ∙ ap (λ (qs : List Page). out ++ map place_of (found qs c.args.image.now)) (sym (listed_end (listed c.args.table.now) _ c.listed-p-items.ensures l.p-index c.loop-p-test.false))
          ∙ l.invariant.1,
      omega (arith, l.invariant.0, l.auto.p-index-end, ap length c.listed-p-items.ensures, few_listed c.args.table.now),
      l.invariant.2,
    )
