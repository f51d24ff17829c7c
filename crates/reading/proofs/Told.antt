-- An item's header tells the same whether it is read from the entry's 32 bytes or from all of the item's. Assumes nothing.
use mathlib.Core.Path.{◌≡◌, sym, ap, ◌∙◌}
use mathlib.Core.Bool.{true}
use mathlib.Core.List.{List, []}
use Prim.Native.Nat.{ℕ, ◌+◌, ◌*◌, ◌<◌, ◌≤◌}
use native.Mathlib.Omega.{arith}
use lib.ListN.{get_or}
use Rattle.word.specs.Number.{part, le, be}
use Rattle.word.proofs.Bytes.{part-byte, le-part, be-part}
use Rattle.entry.specs.Fields.{entry_at, span_of, key_of}
use Rattle.page.specs.Walk.{is_item, walk, header_of}
use Rattle.page.proofs.Walking.{item_span, walk-past, walk_item}
use Rattle.reading.specs.declared.Handed.TheVariants.{Item}
use Rattle.reading.specs.Reading.{read_of}

module _ (t : List ℕ) (at n : ℕ) (h : 1 ≤ n) where
  byte : (k : ℕ) → k < 32 → get_or (part t at (n * 32)) k 0 ≡ get_or (part t at 32) k 0
  byte k l = part-byte t at (n * 32) k (omega arith) ∙ sym (part-byte t at 32 k l)

  pub span_told : span_of (part t at (n * 32)) ≡ span_of (part t at 32)
  span_told = byte 2 (omega arith)

  pub header_told : (i : ℕ) → header_of i (part t at (n * 32)) ≡ header_of i (part t at 32)
  unfolding header_of key_of
  header_told i =
      let e : 32 ≤ n * 32 = omega arith in
      let high : be (part t at (n * 32)) 8 8 ≡ be (part t at 32) 8 8 = be-part t at (n * 32) 8 8 (omega arith) ∙ sym (be-part t at 32 8 8 (omega arith)) in
      let low : be (part t at (n * 32)) 16 8 ≡ be (part t at 32) 16 8 = be-part t at (n * 32) 16 8 (omega arith) ∙ sym (be-part t at 32 16 8 (omega arith)) in
      let value : le (part t at (n * 32)) 24 8 ≡ le (part t at 32) 24 8 = le-part t at (n * 32) 24 8 (omega arith) ∙ sym (le-part t at 32 24 8 (omega arith)) in
      rw (byte 0 (omega arith), byte 1 (omega arith), byte 2 (omega arith), byte 3 (omega arith), high, low, value)

module _ (t : List ℕ) (i u : ℕ) where
  -- what is handed out where an item begins, and past the last entry
  pub read_item : is_item t i ≡ true → read_of u (walk t 126 i) ≡ record { handed = Item (header_of i (entry_at t i)); next = i + span_of (entry_at t i); unread = u }
  unfolding read_of
  read_item e =
      let n = span_of (entry_at t i) in
      let s = (item_span t i e).0 in
      rw (walk_item t i e, header_told t (64 + i * 32) n s i, span_told t (64 + i * 32) n s)

  pub read_end : 126 ≤ i → read_of u (walk t 126 i) ≡ read_of u []
  read_end h = ap (read_of u) (walk-past t 126 i h)
