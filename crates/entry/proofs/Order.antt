-- Keys are compared as their numbers are: what the derived `==` and `<` answer. Assumes nothing.
use Rattle.std.proofs.Common.{Ordering, Option, Some, Less, Equal, Greater}
use Rattle.std.specs.Ordering.{nat_cmp, partial_ordering_then, is_some_and, is_lt, is_le, partial_lt, partial_le}
use mathlib.Core.Bool.{Bool, true, false, cond, ◌&&◌}
use mathlib.Core.Path.{◌≡◌, refl, sym, ◌∙◌}
use Prim.Native.Nat.{ℕ, ◌+◌, ◌*◌, ◌^◌, ◌<◌}
use native.Mathlib.Nat.{le_of_lt}
use native.Mathlib.Omega.{arith}
use Rattle.std.proofs.lemmas.Bool.Decides.{nat_tests}
use lib.Dec.{ltb, leb, eqb}
use borrow.Author.Tests.{ltb-true, ltb-false, lt-ltb, le-ltb, le-leb, lt-leb, eqb-true, eqb-false, ne_eqb}
use Rattle.entry.specs.declared.fields.Key.{Key}
use Rattle.entry.specs.Fields.{key_number}
use Rattle.entry.specs.contracts.fields.KeyPartialEq.TheImpl as same
use Rattle.entry.specs.contracts.fields.KeyPartialOrd.TheImpl as order
use Rattle.entry.proofs.Keys.{ltb_agree, leb_agree, eqb_agree, two-lt, two-high, two-low}

-- numbers of two digits to the base 2 ^ k: the high digit decides, and then the low one
module _ (k : ℕ) (h h' l l' : ℕ) (p : l < 2 ^ k) (q : l' < 2 ^ k) where
  pub two-eqb : (b : Bool) → b ≡ eqb l l' → eqb h h' && b ≡ eqb (h * 2 ^ k + l) (h' * 2 ^ k + l')
  two-eqb b e = go (eqb h h') refl
    where
      go : (t : Bool) → eqb h h' ≡ t → t && b ≡ eqb (h * 2 ^ k + l) (h' * 2 ^ k + l')
      go true f =
          let same = eqb-true h h' f in
          e ∙ eqb_agree l l' (h * 2 ^ k + l) (h' * 2 ^ k + l') (λ g. rw (same, g)) (two-low k h h' p q)
      go false f = sym (ne_eqb _ _ (λ g. eqb-false h h' f (two-high k p q g)))

  pub two-ltb : (o : Option Ordering) → is_some_and is_lt o ≡ ltb l l' → is_some_and is_lt (partial_ordering_then (Some (nat_cmp h h')) o) ≡ ltb (h * 2 ^ k + l) (h' * 2 ^ k + l')
  two-ltb o e = go (ltb h h') refl
    where
      low : (t : Bool) → eqb h h' ≡ t → ltb h h' ≡ false → is_some_and is_lt (partial_ordering_then (Some (nat_cmp h h')) o) ≡ ltb (h * 2 ^ k + l) (h' * 2 ^ k + l')
      low true f n =
          let same = eqb-true h h' f in
          rw (n, f) (e ∙ ltb_agree l l' (h * 2 ^ k + l) (h' * 2 ^ k + l') (λ g. rw same (omega arith)) (λ g. rw same (omega arith)))
      low false f n =
          let more = ltb-false h h' n in
          let other = eqb-false h h' f in
          rw (n, f) (sym (le-ltb _ _ (le_of_lt (two-lt k l (omega arith) q))))

      go : (t : Bool) → ltb h h' ≡ t → is_some_and is_lt (partial_ordering_then (Some (nat_cmp h h')) o) ≡ ltb (h * 2 ^ k + l) (h' * 2 ^ k + l')
      go true f = rw f (sym (lt-ltb _ _ (two-lt k l' (ltb-true h h' f) p)))
      go false f = low (eqb h h') refl f

  -- likewise where the two may be equal
  pub two-leb : (o : Option Ordering) → is_some_and is_le o ≡ leb l l' → is_some_and is_le (partial_ordering_then (Some (nat_cmp h h')) o) ≡ leb (h * 2 ^ k + l) (h' * 2 ^ k + l')
  two-leb o e = go (ltb h h') refl
    where
      low : (t : Bool) → eqb h h' ≡ t → ltb h h' ≡ false → is_some_and is_le (partial_ordering_then (Some (nat_cmp h h')) o) ≡ leb (h * 2 ^ k + l) (h' * 2 ^ k + l')
      low true f n =
          let same = eqb-true h h' f in
          rw (n, f) (e ∙ leb_agree l l' (h * 2 ^ k + l) (h' * 2 ^ k + l') (λ g. rw same (omega arith)) (λ g. rw same (omega arith)))
      low false f n =
          let more = ltb-false h h' n in
          let other = eqb-false h h' f in
          rw (n, f) (sym (lt-leb _ _ (two-lt k l (omega arith) q)))

      go : (t : Bool) → ltb h h' ≡ t → is_some_and is_le (partial_ordering_then (Some (nat_cmp h h')) o) ≡ leb (h * 2 ^ k + l) (h' * 2 ^ k + l')
      go true f = rw f (sym (le-leb _ _ (le_of_lt (two-lt k l' (ltb-true h h' f) p))))
      go false f = low (eqb h h') refl f

-- one number
nat-leb : (x y : ℕ) → is_some_and is_le (Some (nat_cmp x y)) ≡ leb x y
nat-leb x y = grind (arith, nat_tests)

nat-ltb : (x y : ℕ) → is_some_and is_lt (Some (nat_cmp x y)) ≡ ltb x y
nat-ltb x y = go (ltb x y) refl (eqb x y)
  where
    go : (t : Bool) → ltb x y ≡ t → (e : Bool) → is_lt (cond t Less (cond e Equal Greater)) ≡ t
    go true f e = refl
    go false f true = refl
    go false f false = refl

module _ (a b : Key) (p : a.low < 2 ^ 64) (q : b.low < 2 ^ 64) where
  pub key-eqb : (same.eq-value).it a b ≡ eqb (key_number a) (key_number b)
  key-eqb = two-eqb 64 a.high b.high a.low b.low p q _ refl

  pub key-ltb : partial_lt (order.partial_cmp-value).it a b ≡ ltb (key_number a) (key_number b)
  key-ltb = two-ltb 64 a.high b.high a.low b.low p q _ (nat-ltb a.low b.low)

  pub key-leb : partial_le (order.partial_cmp-value).it a b ≡ leb (key_number a) (key_number b)
  key-leb = two-leb 64 a.high b.high a.low b.low p q _ (nat-leb a.low b.low)
