-- `page::read_entry` meets its contract: a field of the entry is read at its place in the sector. Assumes nothing.
use mathlib.Core.Path.{◌≡◌, sym, ap, ◌∙◌}
use mathlib.Core.Bool.{true, false}
use Prim.Native.Nat.{ℕ, ◌+◌, ◌*◌}
use native.Mathlib.Nat.{add-zero}
use lib.Dec.{lit<, lit≤}
use lib.ListN.{get_or}
use Rattle.word.proofs.Bytes.{part-byte, le-part}
use Rattle.entry.specs.Kinds.{kind_of}
use Rattle.entry.specs.Fields.{entry_at, kind_in, span_of}
use Rattle.page.specs.Walk.{is_item, reading_of, header_of}
use Rattle.page.proofs.walk.read_entry.Goals as goal

pub returns-then-not-is_item : goal.returns-then-not-is_item
unfolding reading_of
returns-then-not-is_item c =
    let none : is_item c.args.s.now c.args.i ≡ false = sym c.is_item.ensures ∙ c.if-not-is_item.true in
    rw none

pub returns : goal.returns
unfolding reading_of header_of
returns c =
    let s = c.args.s.now in
    let i = c.args.i in
    let h = entry_at s i in
    let is : is_item s i ≡ true = sym c.is_item.ensures ∙ c.if-not-is_item.false in
    let kind : kind_in h ≡ c.kind_of.result = ap kind_of (part-byte s (64 + i * 32) 32 1 (lit< tt)) ∙ sym c.kind_of.ensures in
    let span : span_of h ≡ c.from.result = part-byte s (64 + i * 32) 32 2 (lit< tt) ∙ sym c.from.ensures in
    let low : get_or h 0 0 ≡ get_or s (64 + i * 32) 0 = part-byte s (64 + i * 32) 32 0 (lit< tt) ∙ ap (λ (x : ℕ). get_or s x 0) (add-zero (64 + i * 32)) in
    let third : get_or h 3 0 ≡ get_or s (64 + i * 32 + 3) 0 = part-byte s (64 + i * 32) 32 3 (lit< tt) in
    rw (is, ← kind, ← span, low, third, c.key_at.ensures, c.le64.ensures, le-part s (64 + i * 32) 32 24 8 (lit≤ tt))
