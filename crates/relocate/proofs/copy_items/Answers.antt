-- `relocate::copy_items` meets its contract: the copies of the items that the walk has yet to meet, made on the image as it is, are the whole; the
-- source stays as it was. Assumes nothing.
use Rattle.std.specs.Prelude.{None}
use mathlib.Core.Path.{◌≡◌, refl, sym, ◌∙◌}
use mathlib.Core.Bool.{true}
use Prim.Native.Nat.{◌+◌, ◌*◌, ◌≤◌}
use native.Mathlib.Omega.{arith}
use Rattle.entry.specs.Fields.{entry_at, span_of}
use Rattle.page.specs.Walk.{is_item, reading_of}
use Rattle.page.proofs.Walking.{reading_none}
use Rattle.flash.specs.Step.{sector}
use Rattle.flash.proofs.Laws.{goes_start, goes_on, goes_out, goes_end, goes_same}
use Rattle.flash.proofs.Frame.{apart, did-sector}
use Rattle.flash.proofs.Sectors.{lent-sector}
use Rattle.item.proofs.Safe.{copying_in}
use Rattle.relocate.proofs.Turns.{met, turn-span, turn_item, turn_skip, turn_end}
use borrow.Author.Rules.{rules}
use Rattle.relocate.proofs.copy_items.Goals as goal
use Rattle.relocate.proofs.copy_items.Goals.{In-Some}

pub loop-i-init : goal.loop-i-init
loop-i-init c = (omega arith, omega arith, refl, refl, goes_start _ _ _)

pub loop-i-preserved-in_default : goal.loop-i-preserved-in_default
loop-i-preserved-in_default c =
    let a = c.args in
    let v = c.loop-i in
    let t = sector a.s a.image.now in
    let e : reading_of t v.i ≡ None = sym (rw (lent-sector a.s v.image, v.invariant.3) at c.read_entry.ensures) ∙ c.in_default.is in
    (omega arith, omega arith, v.invariant.2, v.invariant.3, goes_same v.invariant.4 (turn_skip t (a.target * 4096) v.j v.i (reading_none t v.i e)))

-- the item that is read is one of the source's
here : (c : In-Some)
    →
    let t = sector c.args.s c.args.image.now in
    let n = c.in-Some.header.span in
    (is_item t c.loop-i.i ≡ true) × (n ≡ span_of (entry_at t c.loop-i.i)) × (1 ≤ n) × (c.loop-i.i + n ≤ 126)
here c =
    let v = c.loop-i in
    met _ v.i _ (sym (rw (lent-sector c.args.s v.image, v.invariant.3) at c.read_entry.ensures) ∙ c.in-Some.is)

pub copy_item-requires : goal.copy_item-requires
copy_item-requires c =
    let a = c.args in
    let v = c.loop-i in
    let m = here (goal.at.copy_item-requires c).In-Some in (
      omega arith,
      omega arith,
      apart a.s a.target c.requires.2,
      omega arith,
      omega arith,
      turn-span a.s v.image (sector a.s a.image.now) v.invariant.3 v.i _ m.0 m.1,
    )

pub returns-in_err-left : goal.returns-in_err-left
returns-in_err-left c =
    let a = c.args in
    let v = c.loop-i in
    let m = here (goal.at.returns-in_err-left c).In-Some in
    goes_out _ v.invariant.4 (turn_item a.s v.image (sector a.s a.image.now) v.invariant.3 v.i _ m.0 m.1 (a.target * 4096) v.j)
    c.copy_item.ensures c.in_err-left.was c.from_residual.ensures.0

pub overflow_add-i-in-loop-i : goal.overflow_add-i-in-loop-i
overflow_add-i-in-loop-i c =
    let m = here (goal.at.overflow_add-i-in-loop-i c).In-Some in omega arith

pub overflow_add-j : goal.overflow_add-j
overflow_add-j c =
    let m = here (goal.at.overflow_add-j c).In-Some in
    let h = c.loop-i.invariant in
    omega arith

pub loop-i-smaller : goal.loop-i-smaller
loop-i-smaller c =
    let m = here (goal.at.loop-i-smaller c).In-Some in omega arith

pub loop-i-preserved : goal.loop-i-preserved
loop-i-preserved c =
    let a = c.args in
    let v = c.loop-i in
    let h = v.invariant in
    let m = here (goal.at.loop-i-preserved c).In-Some in
    let t = sector a.s a.image.now in
    let n = turn-span a.s v.image t h.3 v.i _ m.0 m.1 in (
      omega arith,
      omega arith,
      search rules,
      did-sector a.s a.target c.requires.2 (copying_in (a.target * 4096) v.j _ (omega arith)) c.copy_item.ensures ∙ h.3,
      goes_on h.4 (turn_item a.s v.image t h.3 v.i _ m.0 m.1 (a.target * 4096) v.j) c.copy_item.ensures c.in_ok-left.was,
    )

pub returns : goal.returns
returns c =
    let a = c.args in
    goes_end c.loop-i.invariant.4 (turn_end (sector a.s a.image.now) (a.target * 4096) c.loop-i.j c.loop-i.i (omega arith))
