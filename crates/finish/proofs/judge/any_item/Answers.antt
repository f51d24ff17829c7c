-- `finish::any_item` meets its contract: none of the items passed passes the test, so those from here on decide. Assumes nothing.
use Rattle.std.specs.Prelude.{None, Some}
use mathlib.Core.Bool.{true}
use mathlib.Core.List.{List}
use Rattle.entry.specs.Fields.{entry_at, span_of}
use Rattle.page.specs.declared.walk.ItemHeader.{ItemHeader}
use Rattle.page.specs.Walk.{is_item, reading_of}
use Rattle.page.proofs.Walking.{item_span, reading_none, reading_item, reading_span}
use Rattle.finish.proofs.Likeness.{lent-entry, item_here, item_on, item_skip, item_end}
use mathlib.Core.Path.{◌≡◌, refl, sym, ap, ◌∙◌}
use Prim.Native.Nat.{ℕ, ◌+◌, ◌≤◌}
use native.Mathlib.Omega.{arith}
use borrow.Author.Rules.{rules}
use Rattle.finish.proofs.judge.any_item.Goals as goal

-- what is known of the item that was read: it begins at the entry, and its span, which is not 0, ends on the page
met : (s : List ℕ) (i : ℕ) (h : ItemHeader) → reading_of s i ≡ Some h → (is_item s i ≡ true) × (h.span ≡ span_of (entry_at s i)) × (1 ≤ h.span) × (i + h.span ≤ 126)
met s i h q =
    let e = (reading_item s i h q).0 in
    let n = reading_span s i h q in
    let f = item_span s i e in
    (e, n, omega arith, omega arith)

pub loop-i-init : goal.loop-i-init
loop-i-init g c = (omega arith, λ p q. refl)

pub loop-i-preserved-in_default : goal.loop-i-preserved-in_default
loop-i-preserved-in_default g c =
    let s = c.args.s.now in
    let e : reading_of s c.loop-i.i ≡ None = sym c.read_entry.ensures ∙ c.in_default.is in
    (omega arith, λ p q. sym (item_skip p s c.loop-i.i (reading_none s c.loop-i.i e)) ∙ c.loop-i.invariant.1 p q)

pub returns-then-test : goal.returns-then-test
returns-then-test g c =
    let s = c.args.s.now in
    let i = c.loop-i.i in
    let m = met s i c.in-Some.item (sym c.read_entry.ensures ∙ c.in-Some.is) in
    λ p q. sym (sym (c.loop-i.invariant.1 p q) ∙ item_here p s i m.0 (sym (q _ _ (search rules) c.test.ensures ∙ ap p (lent-entry s i)) ∙ c.if-test.true))

pub overflow_add-i-in-loop-i : goal.overflow_add-i-in-loop-i
overflow_add-i-in-loop-i g c = let m = met c.args.s.now c.loop-i.i c.in-Some.item (sym c.read_entry.ensures ∙ c.in-Some.is) in omega arith

pub loop-i-smaller : goal.loop-i-smaller
loop-i-smaller g c = let m = met c.args.s.now c.loop-i.i c.in-Some.item (sym c.read_entry.ensures ∙ c.in-Some.is) in omega arith

pub loop-i-preserved : goal.loop-i-preserved
loop-i-preserved g c =
    let s = c.args.s.now in
    let i = c.loop-i.i in
    let m = met s i c.in-Some.item (sym c.read_entry.ensures ∙ c.in-Some.is) in (
      omega arith,
      λ p q. rw m.1 (sym (item_on p s i m.0 (sym (q _ _ (search rules) c.test.ensures ∙ ap p (lent-entry s i)) ∙ c.if-test.false)) ∙ c.loop-i.invariant.1 p q),
    )

pub returns : goal.returns
returns g c = λ p q. sym (sym (c.loop-i.invariant.1 p q) ∙ item_end p c.args.s.now c.loop-i.i (omega arith))
