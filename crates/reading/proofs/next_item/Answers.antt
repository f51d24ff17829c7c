-- `reader::next_item` meets its contract: the walk from here on meets what it meets from the first place on, and what is passed over from here on is what is
-- passed over from the first place on but for the count so far. Assumes nothing.
use Rattle.std.specs.Prelude.{Some}
use mathlib.Core.Path.{◌≡◌, sym, ap, ◌∙◌}
use mathlib.Core.Bool.{true}
use Prim.Native.Nat.{◌+◌, ◌≤◌}
use native.Mathlib.Omega.{arith}
use Rattle.entry.specs.Fields.{entry_at, span_of}
use Rattle.page.specs.Walk.{is_item, header_of, reading_of}
use Rattle.page.specs.Unread.{passed_from}
use Rattle.page.proofs.Walking.{item_span, walk_skip, reading_none, reading_item, reading_span}
use Rattle.page.proofs.Passed.{passed-past, passed_item, passed_skip}
use Rattle.reading.specs.declared.Handed.TheVariants.{Item as ItemOf, End}
use Rattle.reading.specs.Reading.{counted_on, read_of}
use Rattle.reading.proofs.Told.{read_item, read_end}
use Rattle.reading.proofs.next_item.Goals as goal
use Rattle.reading.proofs.next_item.Goals.{In-Some}

-- what is known once the item is taken out of the reading
told : (c : In-Some)
    →
    let s = c.args.s.now in
    let h = c.in-Some.item in
    (is_item s c.loop-i.i ≡ true) × (h ≡ header_of c.loop-i.i (entry_at s c.loop-i.i)) × (h.span ≡ span_of (entry_at s c.loop-i.i)) × (c.loop-i.i + h.span ≤ 126)
told c =
    let s = c.args.s.now in
    let i = c.loop-i.i in
    let h = c.in-Some.item in
    let q : reading_of s i ≡ Some h = sym c.read_entry.ensures ∙ c.in-Some.is in
    let e = reading_item s i h q in
    let n = reading_span s i h q in
    let f = item_span s i e.0 in
    (e.0, e.1, n, omega arith)

pub loop-i-preserved : goal.loop-i-preserved
loop-i-preserved c =
    let s = c.args.s.now in
    let i = c.loop-i.i in
    let none = reading_none s i (sym c.read_entry.ensures ∙ c.in_default.is) in
    let turn = passed_skip s i none c.loop-i-test.true in
    (sym (walk_skip s i none) ∙ c.loop-i.invariant.0, omega arith, omega arith)

pub overflow_add-result : goal.overflow_add-result
overflow_add-result c = let e = told (goal.at.overflow_add-result c).In-Some in omega arith

pub returns-in-loop-i : goal.returns-in-loop-i
returns-in-loop-i c =
    let a = c.args in
    let s = a.s.now in
    let i = c.loop-i.i in
    let e = told (goal.at.returns-in-loop-i c).In-Some in
    let zero = passed_item s i e.0 in
    let all : c.loop-i.passed ≡ passed_from s 126 a.from = omega arith in
    let counted = c.counted_on.ensures ∙ ap (counted_on a.unread) all in
    (λ k. record { handed = ItemOf (e.1 k); next = i + e.2 k; unread = counted k }) ∙ sym (read_item s i _ e.0) ∙ ap (read_of _) c.loop-i.invariant.0

pub returns : goal.returns
unfolding read_of
returns c =
    let a = c.args in
    let s = a.s.now in
    let zero = passed-past s 126 c.loop-i.i c.loop-i-test.false in
    let all : c.loop-i.passed ≡ passed_from s 126 a.from = omega arith in
    let counted = c.counted_on-counted.ensures ∙ ap (counted_on a.unread) all in
    (λ k. record { handed = End (counted k); next = 126; unread = counted k }) ∙ sym (read_end s c.loop-i.i _ c.loop-i-test.false) ∙ ap (read_of _) c.loop-i.invariant.0
