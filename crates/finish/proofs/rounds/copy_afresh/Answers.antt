-- `finish::copy_afresh` meets its contract: the move's steps, and the lists with the target appended and the source's sector in its place.
-- Assumes nothing.
use Rattle.std.specs.Prelude.{Option as Answer}
use Rattle.std.specs.List.{slice_get}
use mathlib.Core.Path.{◌≡◌, refl, sym, ap, ◌∙◌}
use mathlib.Core.Option.{none, some}
use mathlib.Core.Logic.{inl}
use mathlib.Core.List.{List, [], ◌∷◌, ◌++◌, get_last?}
use Prim.Native.Nat.{ℕ, ◌+◌, ◌-◌, ◌*◌, ◌≤◌}
use native.Mathlib.Omega.{arith}
use lib.ListN.{length}
use Rattle.flash.specs.Did.{Did}
use Rattle.flash.proofs.Frame.{length_run}
use Rattle.flash.proofs.Laws.{did_none, did_all}
use Rattle.flash.proofs.Sectors.{lent-sector}
use Rattle.relocate.specs.Move.{moving}
use Rattle.lists.proofs.Member.{◌∈◌}
use Rattle.lists.proofs.Search.{last_in}
use Rattle.table.specs.Table.{items_in, listed, freed}
use Rattle.table.proofs.Found.{last_found, last-none}
use Rattle.table.proofs.Places.{page-fits, free_fits, free_other}
use Rattle.finish.specs.Finish.{next_sequence, afresh}
use Rattle.finish.proofs.Makes.{makes_out}
use Rattle.finish.proofs.rounds.copy_afresh.Goals as goal
use Rattle.finish.proofs.rounds.copy_afresh.Goals.{In-Some, After-move_page}

-- what stands last in the free list, as it was lent
at_end : (fs ys : List ℕ) {o : Answer ℕ} → ys ≡ fs → o ≡ slice_get ys (length ys - 1) → slice_get fs (length fs - 1) ≡ o
at_end fs ys same e = rw (← same) (sym e)

pub returns-in_default : goal.returns-in_default
unfolding afresh
returns-in_default c =
    let fs = freed c.args.table.now in
    let q : get_last? fs ≡ none = last-none fs (at_end fs _ c.freed.ensures (c.copied.ensures ∙ c.last.ensures.value) ∙ c.in_default.is) in
    rw q (record { did = did_none _ _; table = λ k e. rw c.as_full.ensures at c.prepend_page.ensures })

-- the target is the last free sector
last : (c : In-Some) → get_last? (freed c.args.table.now) ≡ some c.in-Some.target
last c =
    let fs = freed c.args.table.now in
    last_found fs _ (at_end fs _ c.freed.ensures (c.copied.ensures ∙ c.last.ensures.value) ∙ c.in-Some.is)

free : (c : In-Some) → c.in-Some.target ∈ freed c.args.table.now
free c = last_in (freed c.args.table.now) c.in-Some.target (last c)

fits : (c : In-Some) → c.in-Some.target * 4096 + 4096 ≤ length c.args.image.now
fits c = free_fits c.args.image.now c.args.image.now c.requires.0 refl _ (free c)

pub move_page-requires : goal.move_page-requires
move_page-requires c =
    let l = c.args.image.now in
    let s = (goal.at.move_page-requires c).In-Some in
    rw (c.from-source.ensures, c.from-place.ensures) (page-fits l l c.requires.0 refl c.args.x (inl refl), fits s, free_other c.requires.0 c.args.x (inl refl) _ (free s))

-- the steps that were made
moved : (c : After-move_page)
    →
    let a = c.args in
    Did (moving a.x.sector c.in-Some.target (next_sequence a.x (listed a.table.now)) (items_in a.x.sector a.image.now) a.image.now) a.allowance a.image.now c.move_page.new.image c.move_page.result
unfolding items_in
moved c =
    let a = c.args in
    let e : c.max-top.result + 1 ≡ next_sequence a.x (listed a.table.now) = omega (arith, c.max-top.ensures, c.greatest_sequence.ensures) in
    rw (e, c.from-source.ensures, c.from-place.ensures) at c.move_page.ensures

pub returns-in_err-left : goal.returns-in_err-left
unfolding afresh
returns-in_err-left c =
    rw (last (goal.at.returns-in_err-left c).In-Some) (makes_out _ _ (moved (goal.at.returns-in_err-left c).After-move_page) c.in_err-left.was c.from_residual.ensures.0)

pub slice_bounds-see-end : goal.slice_bounds-see-end
slice_bounds-see-end c =
    let h = fits (goal.at.slice_bounds-see-end c).In-Some in
    let m = moved (goal.at.slice_bounds-see-end c).After-move_page in
    let kept : length c.move_page.new.image ≡ length c.args.image.now = ap length m.image ∙ length_run _ _ in
    omega (arith, c.from-place.ensures)

pub returns : goal.returns
unfolding afresh
returns c =
    let m = moved (goal.at.returns c).After-move_page in
    let t = c.in-Some.target in
    let d = rw c.in_ok-left.was at m in
    rw (last (goal.at.returns c).In-Some) (
    record {
      did = d;
      table = λ k e.
          let i = did_all d in
          let j = c.join_free.ensures in
          let f = c.append_page.ensures in
          let g = c.drop_free.ensures.0 in
          record {
            list = j.list ∙ f.list ∙ rw (g.list, c.see-seen.ensures, c.from-place.ensures, lent-sector t c.move_page.new.image, i);
            free = j.free ∙ ap (λ (r : List ℕ). r ++ (c.args.x.sector ∷ [])) (f.free ∙ g.free);
          };
    })
