-- What an item says is read off the 32 bytes at its place, with which its bytes begin. Assumes nothing.
use mathlib.Core.Path.{◌≡◌, refl, sym, ap, ◌∙◌}
use mathlib.Core.Bool.{Bool, true, false}
use mathlib.Core.List.{List, [], ◌∷◌, ◌++◌, map-append}
use Prim.Native.Nat.{ℕ, ◌+◌, ◌-◌, ◌*◌, ◌%◌, ◌<◌, ◌≤◌}
use native.Mathlib.Omega.{arith}
use native.Mathlib.Numerals.{add-one}
use lib.Dec.{lit≤, leb}
use lib.ListN.{length, take, drop, get_or, drop_of_length-le}
use lib.Seq.{take-suc, drop-cons}
use borrow.Author.Tests.{leb-true, leb-false, le-leb, lt-leb}
use Rattle.word.specs.Number.{part, le}
use Rattle.word.proofs.Bytes.{part-byte, le-part, be-part}
use Rattle.entry.specs.Fields.{span_of, key_of}
use Rattle.found.specs.Places.{item_at, items_at, Placed}

module _ (l : List ℕ) (p : ℕ) (here : Placed l p) where
  pub byte_at : (i : ℕ) → i < 32 → get_or (item_at l p).raw i 0 ≡ get_or l (p * 32 + i) 0
  unfolding item_at
  byte_at i h = part-byte l (p * 32) (span_of (part l (p * 32) 32) * 32) i (omega (arith, here.some))

  pub le_at : (k m : ℕ) → k + m ≤ 32 → le (item_at l p).raw k m ≡ le (part l (p * 32) 32) k m
  unfolding item_at
  le_at k m h = le-part l (p * 32) (span_of (part l (p * 32) 32) * 32) k m (omega (arith, here.some)) ∙ sym (le-part l (p * 32) 32 k m h)

  pub key_here : key_of (item_at l p).raw ≡ key_of (part l (p * 32) 32)
  unfolding item_at key_of
  key_here =
      let n = span_of (part l (p * 32) 32) * 32 in
      rw (be-part l (p * 32) n 8 8 (omega (arith, here.some)), be-part l (p * 32) n 16 8 (omega (arith, here.some)), be-part l (p * 32) 32 8 8 (lit≤ tt), be-part l (p * 32) 32 16 8 (lit≤ tt))

  pub byte-here : (i : ℕ) → i < 32 → get_or (item_at l p).raw i 0 ≡ get_or (part l (p * 32) 32) i 0
  byte-here i h = byte_at i h ∙ sym (part-byte l (p * 32) 32 i h)

-- entries are in the order of their places on the page
pub entry_order : (l : List ℕ) (p q : ℕ) → Placed l p → Placed l q → leb (p % 128) (q % 128) ≡ leb (item_at l p).entry (item_at l q).entry
unfolding item_at
entry_order l p q a b = go (leb (p % 128) (q % 128)) refl
  where
    go : (t : Bool) → leb (p % 128) (q % 128) ≡ t → leb (p % 128) (q % 128) ≡ leb (p % 128 - 2) (q % 128 - 2)
    go true e = let h = leb-true (p % 128) (q % 128) e in e ∙ sym (le-leb (p % 128 - 2) (q % 128 - 2) (omega arith))
    go false e = let h = leb-false (p % 128) (q % 128) e in e ∙ sym (lt-leb (p % 128 - 2) (q % 128 - 2) (omega (arith, a.entries, b.entries)))

-- ---- a list of places

module _ (l ps : List ℕ) where
  pub items_more : (i : ℕ) → i < length ps → items_at l (drop i ps) ≡ item_at l (get_or ps i 0) ∷ items_at l (drop (i + 1) ps)
  items_more i h = rw (add-one i) (ap (items_at l) (drop-cons ps i 0 h))

  pub items_end : (i : ℕ) → length ps ≤ i → items_at l (drop i ps) ≡ []
  items_end i h = ap (items_at l) (drop_of_length-le ps h)

  -- one place more at the end of the front
  pub items-front : (i : ℕ) → i < length ps → items_at l (take (i + 1) ps) ≡ items_at l (take i ps) ++ (item_at l (get_or ps i 0) ∷ [])
  items-front i h = rw (add-one i) (ap (items_at l) (take-suc ps i 0 h) ∙ map-append (item_at l) (take i ps) (get_or ps i 0 ∷ []))
