-- Ranks are compared as their numbers are: what the derived `==` and `<` answer. Assumes nothing.
use Rattle.std.specs.Ordering.{partial_lt}
use mathlib.Core.Path.{◌≡◌, refl, sym, ◌∙◌}
use mathlib.Core.Bool.{Bool, true, false, cond, ◌&&◌, ◌||◌}
use mathlib.Core.List.{List}
use Prim.Native.Nat.{ℕ, ◌^◌, ◌<◌, ◌≤◌}
use native.Mathlib.Nat.{le_of_lt}
use native.Mathlib.Omega.{arith}
use lib.Dec.{eqb, ltb}
use borrow.Author.Tests.{ltb-true, ltb-false, lt-ltb, le-ltb, eqb-true, eqb-false}
use Rattle.entry.specs.declared.fields.Key.{Key}
use Rattle.entry.specs.Fields.{key_number, chunk_index_of, index_start}
use Rattle.entry.proofs.Keys.{two-lt, ltb_agree}
use Rattle.entry.proofs.Order.{two-eqb, two-ltb, key-eqb, key-ltb}
use Rattle.found.specs.declared.ranks.Rank.{Rank}
use Rattle.found.specs.Found.{is_chunk, start_in}
use Rattle.found.specs.Ranks.{rank_number}
use Rattle.found.specs.contracts.ranks.RankPartialEq.TheImpl as same
use Rattle.found.specs.contracts.ranks.RankPartialOrd.TheImpl as order

-- a key's number has 128 bits
pub key_below : (k : Key) → k.high < 2 ^ 64 → k.low < 2 ^ 64 → key_number k < 2 ^ 128
key_below k p q = two-lt 64 {h' = 2 ^ 64} 0 p q

module _ (a b : Rank) (ah : a.key.high < 2 ^ 64) (al : a.key.low < 2 ^ 64) (bh : b.key.high < 2 ^ 64) (bl : b.key.low < 2 ^ 64) where
  pub rank-eqb : (same.eq-value).it a b ≡ eqb (rank_number a) (rank_number b)
  rank-eqb =
      two-eqb 128 a.high b.high (key_number a.key) (key_number b.key) (key_below a.key ah al) (key_below b.key bh bl) _
      (key-eqb a.key b.key al bl)

  pub rank-ltb : partial_lt (order.partial_cmp-value).it a b ≡ ltb (rank_number a) (rank_number b)
  rank-ltb =
      two-ltb 128 a.high b.high (key_number a.key) (key_number b.key) (key_below a.key ah al) (key_below b.key bh bl) _
      (key-ltb a.key b.key al bl)

  -- what compares what stands in front, and then the keys
  pub rank_less_is : (r : Bool) → r ≡ ltb a.high b.high || (eqb a.high b.high && ltb (key_number a.key) (key_number b.key)) → r ≡ ltb (rank_number a) (rank_number b)
  rank_less_is r e = e ∙ go (ltb a.high b.high) (eqb a.high b.high) refl refl
    where
      keyed : key_number a.key < 2 ^ 128
      keyed = key_below a.key ah al

      other : key_number b.key < 2 ^ 128
      other = key_below b.key bh bl

      go : (s t : Bool) → ltb a.high b.high ≡ s → eqb a.high b.high ≡ t → s || (t && ltb (key_number a.key) (key_number b.key)) ≡ ltb (rank_number a) (rank_number b)
      go true t f g = sym (lt-ltb _ _ (two-lt 128 (key_number b.key) (ltb-true _ _ f) keyed))
      go false true f g =
          let same = eqb-true a.high b.high g in
          ltb_agree (key_number a.key) (key_number b.key) (rank_number a) (rank_number b) (λ h. rw same (omega arith)) (λ h. rw same (omega arith))
      go false false f g =
          let more = ltb-false a.high b.high f in
          let apart = eqb-false a.high b.high g in
          sym (le-ltb _ _ (le_of_lt (two-lt 128 (key_number a.key) (omega arith) other)))

-- "start 0 for a byte below 0x80, else 0x80"
pub start_le : (r : List ℕ) → start_in r ≤ 128
unfolding start_in
start_le r = go (ltb (cond (is_chunk r) (chunk_index_of r) (index_start r)) 0x80)
  where
    go : (b : Bool) → cond b 0 0x80 ≤ 128
    go true = omega arith
    go false = omega arith
