-- What `reduce` finds in a page list: the best by a test of two pages, where the later one goes before the other or does not. Assumes nothing.
use Rattle.std.specs.Prelude.{Some, None}
use Rattle.std.specs.Prelude.{Option as Answer}
use Rattle.std.specs.Option.{option_map}
use Rattle.std.specs.Fn.{Called}
use Rattle.std.specs.List.{FoldsTo, fold, reduce}
use Rattle.std.specs.Iterator.{FoldTurn, ReducesItems}
use Rattle.std.proofs.lemmas.Iterator.{YieldsList, items_from_drains}
use denote.Param.Members.{Mut}
use mathlib.Core.Path.{◌≡◌, refl, sym, ap, subst, ◌∙◌}
use mathlib.Core.Bool.{Bool, true, false, cond}
use mathlib.Core.Option.{Option, none, some}
use mathlib.Core.List.{List, [], ◌∷◌, map}
use Prim.Native.Nat.{ℕ}
use native.Mathlib.Omega.{arith}
use lib.Dec.{leb, ltb}
use borrow.Author.Tests.{le-leb, lt-leb, le-ltb, lt-ltb, leb-true, leb-false, ltb-true, ltb-false}
use Rattle.lists.specs.Lists.{better, best}
use Rattle.table.specs.declared.Page.{Page}
use Rattle.table.specs.Sought.{sought_of}

-- ---- from the calls to the list

-- each call gives what h makes of the two pages that v reads
module _ {X F : Type 0} (v : X → Page) (g : Mut F (X × (X × Unit {0})) X) (h : Page → Page → Page) (f : F)
    (k : (x y r : X) (q : F) → Called g f (x, (y, tt)) r q → (q ≡ f) × (v r ≡ h (v x) (v y))) where
  turns : (xs : List X) (p q : F × X) → p.0 ≡ f → FoldsTo {P = F × X} (FoldTurn g) p xs q → v q.1 ≡ fold h (v p.1) (map v xs)
  turns [] p q a c = ap (λ w. v w.1) (sym c)
  turns (x ∷ xs) p q a c =
      let j = c.0 in
      let m = k p.1 x j.1 j.0 (subst (λ w. Called g w (p.1, (x, tt)) j.1 j.0) a c.1) in
      turns xs j q m.0 c.2 ∙ ap (λ w. fold h w (map v xs)) m.1

  -- the clause `ran` of `reduce`
  pub reduced : {S : Type 0} {steps : S → Answer X → S → Type 0} {s : S} {all : List Page} (r : Answer X) → ReducesItems steps g s f r → YieldsList steps v s all → option_map v r ≡ reduce h all
  reduced None d e = ap (reduce h) (items_from_drains [] (d.1.0, d.1.1, λ _. (d.0, d.1.2)) e)
  reduced (Some y) t e =
      let d = t.3 in
      ap Some (turns t.1 (f, t.0) (t.2, y) refl t.4) ∙ ap (reduce h) (items_from_drains (t.0 ∷ t.1) (d.1.0, d.1.1, λ _. (d.0, d.1.2)) e)

-- ---- from the list to the definition

-- of two pages the second, if it goes before the first
abbrev pub pick : (Page → Page → Bool) → Page → Page → Page
pick over x y = cond (over y x) y x

module _ (over : Page → Page → Bool) (on : (x y z : Page) → over y x ≡ true → over z y ≡ true → over z x ≡ true)
    (off : (x y z : Page) → over y x ≡ false → over z y ≡ false → over z x ≡ false) where
  step : (x y : Page) (o : Option Page) → better over x (some (better over y o)) ≡ better over (pick over x y) o
  unfolding better
  step x y none = refl
  step x y (some z) = go (over y x) refl (over z y) refl
    where
      go : (a : Bool) → over y x ≡ a → (b : Bool) → over z y ≡ b → cond (over (cond b z y) x) (cond b z y) x ≡ cond (over z (cond a y x)) z (cond a y x)
      go true p true q = rw (q, on x y z p q)
      go true p false q = rw (p, q)
      go false p true q = refl
      go false p false q = rw (p, off x y z p q)

  front : (x : Page) (xs : List Page) → best over (x ∷ xs) ≡ some (fold (pick over) x xs)
  unfolding best
  front x [] = unfold better in refl
  front x (y ∷ ys) = ap some (step x y (best over ys)) ∙ front (pick over x y) ys

  picked : (xs : List Page) → reduce (pick over) xs ≡ sought_of (best over xs)
  picked [] = unfold best in refl
  picked (x ∷ xs) = ap sought_of (sym (front x xs))

module _ (n : Page → ℕ) where
  -- the first among equals
  pub picked_first : (xs : List Page) → reduce (pick (λ y x. ltb (n x) (n y))) xs ≡ sought_of (best (λ y x. ltb (n x) (n y)) xs)
  picked_first =
      picked (λ y x. ltb (n x) (n y)) (λ x y z p q. lt-ltb (n x) (n z) (omega (arith, ltb-true (n x) (n y) p, ltb-true (n y) (n z) q)))
      (λ x y z p q. le-ltb (n x) (n z) (omega (arith, ltb-false (n x) (n y) p, ltb-false (n y) (n z) q)))

  -- the last
  pub picked_last : (xs : List Page) → reduce (pick (λ y x. leb (n x) (n y))) xs ≡ sought_of (best (λ y x. leb (n x) (n y)) xs)
  picked_last =
      picked (λ y x. leb (n x) (n y)) (λ x y z p q. le-leb (n x) (n z) (omega (arith, leb-true (n x) (n y) p, leb-true (n y) (n z) q)))
      (λ x y z p q. lt-leb (n x) (n z) (omega (arith, leb-false (n x) (n y) p, leb-false (n y) (n z) q)))
