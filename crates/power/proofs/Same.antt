-- Items compared: by all their bytes, by their headers, and by their names. Assumes nothing.
use mathlib.Core.Path.{◌≡◌, refl}
use mathlib.Core.Bool.{Bool, cond, false, true}
use mathlib.Core.List.{List, [], ◌∷◌}
use Prim.Native.Nat.{ℕ}
use lib.Dec.{eqb}
use lib.ListN.{take}
use borrow.Author.Tests.{eq-eqb, eqb-true}
use Rattle.page.specs.Walk.{Laid}
use Rattle.lists.proofs.Search.{every_is, some_is}
use Rattle.lists.proofs.Maps.{in_map, map_in}
use Rattle.lists.proofs.Member.{◌∈◌, true≢false}
use Rattle.finish.specs.Finish.{copy_of, holds_all, name_of, same_bytes}
use Rattle.item.proofs.Shape.{raws}

-- the test of equal bytes, both ways
pub same_refl : (xs : List ℕ) → same_bytes xs xs ≡ true
unfolding same_bytes
same_refl [] = refl
same_refl (x ∷ xs) = rw (eq-eqb x x refl) (same_refl xs)

pub same_eq : (xs ys : List ℕ) → same_bytes xs ys ≡ true → xs ≡ ys
unfolding same_bytes
same_eq [] [] e = refl
same_eq [] (y ∷ ys) e = absurd (true≢false e refl)
same_eq (x ∷ xs) [] e = absurd (true≢false e refl)
same_eq (x ∷ xs) (y ∷ ys) e = go (eqb x y) refl e (same_eq xs ys)
  where
    go : (b : Bool) → eqb x y ≡ b → cond b (same_bytes xs ys) false ≡ true → (same_bytes xs ys ≡ true → xs ≡ ys) → x ∷ xs ≡ y ∷ ys
    go true q k ih = let a = eqb-true x y q in let b = ih k in cc
    go false q k ih = absurd (true≢false k refl)

same_of : (f : List ℕ → List ℕ) (a b : List ℕ) → a ≡ b → same_bytes (f a) (f b) ≡ true
same_of f a b e = rw e (same_refl (f b))

-- the items of the copy are the source's
pub copy_is : (ys xs : List Laid) → ((y : Laid) → y ∈ ys → (x : Laid) × (x ∈ xs) × (y.raw ≡ x.raw)) → copy_of ys xs ≡ true
unfolding copy_of
copy_is ys xs h = every_is _ ys (λ y m. let r = h y m in some_is _ xs r.0 r.1 (same_of (take 32) y.raw r.0.raw r.2))

-- a page with the same items holds each of them
pub holds_is : (ys xs : List Laid) → raws ys ≡ raws xs → holds_all ys xs ≡ true
unfolding holds_all
holds_is ys xs e = every_is _ xs (λ x m. let k : x.raw ∈ raws ys = rw e (in_map (λ (i : Laid). i.raw) xs x m) in let r = map_in (λ (i : Laid). i.raw) ys x.raw k in
    some_is _ ys r.0 r.1 (same_of name_of x.raw r.0.raw r.2))
