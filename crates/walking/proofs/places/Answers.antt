-- `page::places` meets its contract: what is stored and counted so far, and the places and the unread entries from here on, is the whole. Assumes nothing.
use mathlib.Core.Path.{◌≡◌, sym, ap, ◌∙◌}
use mathlib.Core.Bool.{true, false}
use mathlib.Core.List.{List, ◌++◌, append-nil}
use Prim.Native.Nat.{ℕ, ◌+◌, ◌*◌, ◌<◌, ◌≤◌}
use native.Mathlib.Omega.{arith}
use borrow.Author.Rules.{rules}
use lib.Dec.{lit<}
use lib.ListN.{length, take, length-set}
use Rattle.word.proofs.Bytes.{part-byte}
use Rattle.entry.specs.Fields.{entry_at, span_of}
use Rattle.page.specs.Walk.{is_item}
use Rattle.page.specs.Unread.{unread_from}
use Rattle.page.proofs.Walking.{item_span}
use Rattle.page.proofs.Unread.{unread-past, unread_item, unread_skip}
use Rattle.page.proofs.Placing.{place_more, place_same, place_end}
use Rattle.walking.proofs.places.Goals as goal
use Rattle.walking.proofs.places.Goals.{After-one_written-unread, After-from-i}

-- what is known once the span is read: an item begins here, and its span, which is not 0, ends on the page
fits_on : (c : After-from-i)
    → let s = c.args.s.now in
    let i = c.loop-i.i in
    (is_item s i ≡ true) × (c.from-i.result ≡ span_of (entry_at s i)) × (1 ≤ c.from-i.result) × (i + c.from-i.result ≤ 126)
fits_on c =
    let s = c.args.s.now in
    let i = c.loop-i.i in
    let e : is_item s i ≡ true = sym c.is_item.ensures ∙ c.if-not-is_item.false in
    let n : c.from-i.result ≡ span_of (entry_at s i) = c.from-i.ensures ∙ sym (part-byte s (64 + i * 32) 32 2 (lit< tt)) in
    let f = item_span s i e in
    (e, n, omega arith, omega arith)

-- no item begins here: the entry counts if it is Written
no_item_here : (c : After-one_written-unread) →
    let s = c.args.s.now in
    (is_item s c.loop-i.i ≡ false) × (unread_from s 126 c.loop-i.i ≡ c.one_written-unread.result + unread_from s 126 (c.loop-i.i + 1))
no_item_here c =
    let l = c.loop-i in
    let s = c.args.s.now in
    let none : is_item s l.i ≡ false = sym c.is_item.ensures ∙ c.if-not-is_item.true in
    (none, unread_skip s l.i none (omega arith) ∙ ap (λ (k : ℕ). k + unread_from s 126 (l.i + 1)) (sym c.one_written-unread.ensures.0))

pub overflow_add-unread : goal.overflow_add-unread
overflow_add-unread c = let h = c.one_written-unread.ensures.1 in search rules

pub loop-i-preserved-then-not-is_item : goal.loop-i-preserved-then-not-is_item
loop-i-preserved-then-not-is_item c =
    let l = c.loop-i in
    let a = c.args in
    let none = no_item_here c in (
      l.invariant.0,
      omega arith,
      omega arith,
      ap (λ (r : List ℕ). take l.end l.out ++ r) (place_same a.s.now a.base l.i none.0) ∙ l.invariant.3,
      omega (arith, c.one_written-unread.ensures.1),
      omega (arith, none.1),
    )

pub overflow_add-i-in-loop-i-3 : goal.overflow_add-i-in-loop-i-3
overflow_add-i-in-loop-i-3 c = let e = fits_on c in omega arith

pub loop-i-smaller : goal.loop-i-smaller
loop-i-smaller c = let e = fits_on c in omega arith

pub loop-i-preserved : goal.loop-i-preserved
loop-i-preserved c =
    let l = c.loop-i in
    let a = c.args in
    let e = fits_on c in
    let k : l.end < length l.out = omega arith in
    let passed = unread_item a.s.now l.i e.0 in (
      simp length-set l.invariant.0,
      omega arith,
      omega arith,
      rw e.1 (place_more a.s.now a.base l.i e.0 l.out l.end k ∙ l.invariant.3),
      omega arith,
      rw e.1 (omega (arith, passed)),
    )

pub returns : goal.returns
returns c =
    let l = c.loop-i in
    let a = c.args in
    let out = take l.end l.out in
    let none = unread-past a.s.now 126 l.i c.loop-i-test.false in (
      sym (append-nil out) ∙ ap (λ (r : List ℕ). out ++ r) (sym (place_end a.s.now a.base l.i c.loop-i-test.false)) ∙ l.invariant.3,
      omega arith,
      omega arith,
    )
