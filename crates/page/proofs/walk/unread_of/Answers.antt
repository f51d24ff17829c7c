-- `page::unread_of` meets its contract: what is counted so far, and the unread entries from here on, is the whole. Assumes nothing.
use mathlib.Core.Path.{◌≡◌, sym, ap, ◌∙◌}
use mathlib.Core.Bool.{Bool, true, false}
use mathlib.Core.List.{List}
use Prim.Native.Nat.{ℕ, ◌+◌, ◌*◌, ◌≤◌}
use native.Mathlib.Omega.{arith}
use borrow.Author.Rules.{rules}
use lib.Dec.{lit<}
use lib.ListN.{get_or}
use Rattle.word.proofs.Bytes.{part-byte}
use Rattle.entry.specs.Fields.{entry_at, span_of}
use Rattle.page.specs.Walk.{is_item}
use Rattle.page.specs.Unread.{unread_from}
use Rattle.page.proofs.Walking.{item_span}
use Rattle.page.proofs.Unread.{unread-past, unread_item, unread_skip}
use Rattle.page.proofs.walk.unread_of.Goals as goal

-- an item begins here: its span, which is not 0, ends on the page
fits_on : (s : List ℕ) (i n : ℕ) (b : Bool) → b ≡ is_item s i → b ≡ true → n ≡ get_or s (64 + i * 32 + 2) 0 → (is_item s i ≡ true) × (n ≡ span_of (entry_at s i)) × (1 ≤ n) × (i + n ≤ 126)
fits_on s i n b q h k =
    let e : is_item s i ≡ true = sym q ∙ h in
    let m : n ≡ span_of (entry_at s i) = k ∙ sym (part-byte s (64 + i * 32) 32 2 (lit< tt)) in
    let f = item_span s i e in
    (e, m, omega arith, omega arith)

pub overflow_add-i-then-is_item-2 : goal.overflow_add-i-then-is_item-2
overflow_add-i-then-is_item-2 c = let e = fits_on c.args.s.now c.loop-i.i c.from-i.result c.is_item.result c.is_item.ensures c.if-is_item.true c.from-i.ensures in omega arith

pub loop-i-smaller-then-is_item : goal.loop-i-smaller-then-is_item
loop-i-smaller-then-is_item c = let e = fits_on c.args.s.now c.loop-i.i c.from-i.result c.is_item.result c.is_item.ensures c.if-is_item.true c.from-i.ensures in omega arith

pub loop-i-preserved-then-is_item : goal.loop-i-preserved-then-is_item
loop-i-preserved-then-is_item c =
    let s = c.args.s.now in
    let e = fits_on c.args.s.now c.loop-i.i c.from-i.result c.is_item.result c.is_item.ensures c.if-is_item.true c.from-i.ensures in
    let passed = unread_item s c.loop-i.i e.0 in
    (omega arith, omega arith, rw e.1 (omega (arith, passed)))

pub overflow_add-unread : goal.overflow_add-unread
overflow_add-unread c = let h = c.one_written-unread.ensures.1 in search rules

pub loop-i-preserved : goal.loop-i-preserved
loop-i-preserved c =
    let l = c.loop-i in
    let s = c.args.s.now in
    let none : is_item s l.i ≡ false = sym c.is_item.ensures ∙ c.if-is_item.false in
    let counted = unread_skip s l.i none (omega arith) ∙ ap (λ (k : ℕ). k + unread_from s 126 (l.i + 1)) (sym c.one_written-unread.ensures.0) in
    (omega arith, omega (arith, c.one_written-unread.ensures.1), omega (arith, counted))

pub returns : goal.returns
returns c =
    let l = c.loop-i in
    let none = unread-past c.args.s.now 126 l.i c.loop-i-test.false in
    omega arith
