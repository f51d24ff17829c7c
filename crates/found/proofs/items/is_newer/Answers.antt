-- `found::is_newer` meets its contract: the sequences decide, and among equals the entries. Assumes nothing.
use Rattle.std.proofs.Common.{Some}
use Rattle.std.specs.Ordering.{nat_cmp, partial_ordering_then, is_some_and, is_le}
use mathlib.Core.Bool.{Bool, true, false, cond}
use mathlib.Core.Path.{◌≡◌, refl, sym, ◌∙◌}
use Prim.Native.Nat.{ℕ, ◌%◌}
use native.Mathlib.Omega.{arith}
use lib.Dec.{eqb, leb, ltb}
use borrow.Author.Tests.{ltb-true, ltb-false, lt-leb, le-leb, eqb-true, eqb-false, eq-eqb, ne_eqb}
use Rattle.found.specs.Found.{newer}
use Rattle.found.proofs.Reading.{entry_order}
use Rattle.found.proofs.items.is_newer.Goals as goal

-- one number
nat-leb : (x y : ℕ) → is_some_and is_le (Some (nat_cmp x y)) ≡ leb x y
nat-leb x y = go (ltb x y) refl
  where
    same : (q : Bool) → eqb x y ≡ q → ltb x y ≡ false → is_le (nat_cmp x y) ≡ leb x y
    same true h n = let e = eqb-true x y h in rw (n, h) (sym (le-leb x y (omega arith)))
    same false h n =
        let more = ltb-false x y n in
        let other = eqb-false x y h in
        rw (n, h) (sym (lt-leb x y (omega arith)))

    go : (q : Bool) → ltb x y ≡ q → is_le (nat_cmp x y) ≡ leb x y
    go true h = let less = ltb-true x y h in rw h (sym (le-leb x y (omega arith)))
    go false h = same (eqb x y) refl h

-- the pair's order is that of the first numbers, and among equals that of the second
pair-leb : (s t e f : ℕ) → is_some_and is_le (partial_ordering_then (Some (nat_cmp s t)) (Some (nat_cmp e f))) ≡ cond (eqb t s) (leb e f) (ltb s t)
pair-leb s t e f = go (ltb s t) refl
  where
    same : (q : Bool) → eqb s t ≡ q → ltb s t ≡ false → is_some_and is_le (partial_ordering_then (Some (nat_cmp s t)) (Some (nat_cmp e f))) ≡ cond (eqb t s) (leb e f) (ltb s t)
    same true h n = rw (n, h, eq-eqb t s (sym (eqb-true s t h))) (nat-leb e f)
    same false h n = rw (n, h, ne_eqb t s (λ g. eqb-false s t h (sym g)))

    go : (q : Bool) → ltb s t ≡ q → is_some_and is_le (partial_ordering_then (Some (nat_cmp s t)) (Some (nat_cmp e f))) ≡ cond (eqb t s) (leb e f) (ltb s t)
    go true h = let less = ltb-true s t h in rw (h, ne_eqb t s (λ g. omega arith))
    go false h = same (eqb s t) refl h

pub returns : goal.returns
unfolding newer
returns c =
    let image = c.args.image.now in
    let entries = entry_order image c.args.place c.args.later c.requires.1 c.requires.0 in
    rw (← c.sequence_at.ensures, ← c.sequence_at-2.ensures, ← entries) (c.le.ensures ∙ pair-leb c.sequence_at.result c.sequence_at-2.result (c.args.place % 128) (c.args.later % 128))
