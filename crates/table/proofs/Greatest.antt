-- What `max_by_key` finds: the best of a page list by a number of each page, the last among equals of the items that it meets. Assumes nothing.
use Rattle.std.specs.Prelude.{Some, None}
use Rattle.std.specs.Prelude.{Option as Answer}
use Rattle.std.proofs.Common.{Ordering}
use Rattle.std.specs.Ordering.{nat_cmp, max_by_ordering}
use Rattle.std.proofs.Common.{Less, Equal, Greater}
use Rattle.std.specs.Option.{option_map}
use Rattle.std.specs.Fn.{CalledAt}
use Rattle.std.specs.List.{FoldsTo, fold, reduce, filter}
use Rattle.std.specs.Iterator.{KeyTurn, PicksMaxByKey}
use Rattle.std.proofs.lemmas.Cmp.{ranked}
use Rattle.std.proofs.lemmas.Iterator.{YieldsList, items_from_drains}
use Rattle.std.proofs.lemmas.List.{reverse-append, append-nil}
use Rattle.std.proofs.lemmas.List.Elements.{filter-append}
use Rattle.std.proofs.lemmas.List.Sums.{fold-append}
use denote.Param.Members.{Mut}
use denote.Ref.{Bor}
use mathlib.Core.Path.{◌≡◌, refl, sym, ap, ap₂, subst, ◌∙◌}
use mathlib.Core.Bool.{Bool, true, false, cond}
use mathlib.Core.Option.{Option, none, some}
use mathlib.Core.List.{List, [], ◌∷◌, ◌++◌, map, reverse}
use Prim.Native.Nat.{ℕ}
use native.Mathlib.Omega.{arith}
use lib.Dec.{leb, ltb}
use borrow.Author.Tests.{le-leb, lt-leb, le-ltb, lt-ltb, leb-true, leb-false}
use Rattle.lists.specs.Lists.{keep, better, best}
use Rattle.table.specs.declared.Page.{Page}
use Rattle.table.specs.Sought.{sought_of, better_of}
use Rattle.table.proofs.Seeking.{best_more}

-- of two pages that with the greater number, the second where they are equal
abbrev pub greater : (Page → ℕ) → Page → Page → Page
greater n x y = max_by_ordering (nat_cmp (n x) (n y)) x y

-- ---- from the calls to the list

view_of : {X Y : Type 0} (h : X → Y) (o : Ordering) (a b : X) → h (max_by_ordering o a b) ≡ max_by_ordering o (h a) (h b)
view_of h Less a b = refl
view_of h Equal a b = refl
view_of h Greater a b = refl

module _ {X F : Type 0} (v : X → Page) (g : Mut F (Bor X × Unit {0}) ℕ) (n : Page → ℕ) (f : F)
    (k : (x : X) (r : ℕ) (q : F) → CalledAt g f x r q → (q ≡ f) × (r ≡ n (v x))) where
  turn : (p : (F × ℕ) × X) (x : X) (q : (F × ℕ) × X) → p.0.0 ≡ f → p.0.1 ≡ n (v p.1) → KeyTurn max_by_ordering max_by_ordering g nat_cmp p x q
      → (q.0.0 ≡ f) × (q.0.1 ≡ n (v q.1)) × (v q.1 ≡ greater n (v p.1) (v x))
  turn p x q a b t =
      let m = k x t.0 q.0.0 (subst (λ w. CalledAt g w x t.0 q.0.0) a t.2) in
      let o = t.1 in
      let is : o ≡ nat_cmp (n (v p.1)) (n (v x)) = sym t.3 ∙ ap₂ nat_cmp b m.1 in (
        m.0,
        t.4 ∙ ap₂ (λ i j. max_by_ordering o i j) b m.1 ∙ sym (ap (λ y. n (v y)) t.5 ∙ view_of (λ y. n (v y)) o p.1 x),
        ap v t.5 ∙ view_of v o p.1 x ∙ ap (λ (w : Ordering). max_by_ordering w (v p.1) (v x)) is,
      )

  turns : (xs : List X) (p q : (F × ℕ) × X) → p.0.0 ≡ f → p.0.1 ≡ n (v p.1) → FoldsTo {P = (F × ℕ) × X} (KeyTurn max_by_ordering max_by_ordering g nat_cmp) p xs q
      → v q.1 ≡ fold (greater n) (v p.1) (map v xs)
  turns [] p q a b c = ap (λ w. v w.1) (sym c)
  turns (x ∷ xs) p q a b c =
      let m = turn p x c.0 a b c.1 in
      turns xs c.0 q m.0 m.1 c.2 ∙ ap (λ w. fold (greater n) w (map v xs)) m.2

-- the clause `ran` of `max_by_key`, where each call gives the number n of the page that v reads
pub max_by_key_from_yields_List : {S X F : Type 0} {steps : S → Answer X → S → Type 0} {v : X → Page} {s : S} {all : List Page} (g : Mut F (Bor X × Unit {0}) ℕ) (n : Page → ℕ) {f : F}
    (r : Answer X) → PicksMaxByKey steps g nat_cmp s f r → YieldsList steps v s all
    → ((x : X) (r : ℕ) (q : F) → CalledAt g f x r q → (q ≡ f) × (r ≡ n (v x))) → option_map v r ≡ reduce (greater n) all
max_by_key_from_yields_List g n None h e k = ap (reduce (greater n)) (items_from_drains [] (h.1.0, h.1.1, λ _. (h.0, h.1.2)) e)
max_by_key_from_yields_List {v = v} g n {f} (Some y) h e k =
    let d = h.5 in
    let m = k h.0 h.2 h.3 h.6 in
    ap Some (turns v g n f k h.1 ((h.3, h.2), h.0) (h.4, y) m.0 m.1 h.7)
    ∙ ap (reduce (greater n)) (items_from_drains (h.0 ∷ h.1) (d.1.0, d.1.1, λ _. (d.0, d.1.2)) e)

-- ---- from the list to the definition

module _ (n : Page → ℕ) where
  greater_is : (x y : Page) → greater n x y ≡ cond (leb (n x) (n y)) y x
  greater_is x y = go (nat_cmp (n x) (n y)) refl
    where
      go : (o : Ordering) → o ≡ nat_cmp (n x) (n y) → max_by_ordering o x y ≡ cond (leb (n x) (n y)) y x
      go Less e = let h = ranked (n x) (n y) Less e in rw (le-leb (n x) (n y) (omega (arith, h)))
      go Equal e = let h = ranked (n x) (n y) Equal e in rw (le-leb (n x) (n y) (omega (arith, h)))
      go Greater e = let h = ranked (n x) (n y) Greater e in rw (lt-leb (n x) (n y) h)

  -- y, which stands later, goes before x: the last among equals
  no_less : Page → Page → Bool
  no_less y x = leb (n x) (n y)

  better_step : (x y : Page) (o : Option Page) → better no_less x (some (better no_less y o)) ≡ better no_less (greater n x y) o
  unfolding better no_less
  better_step x y none = sym (greater_is x y)
  better_step x y (some z) = rw (greater_is x y) (go (leb (n x) (n y)) refl (leb (n y) (n z)) refl (leb (n x) (n z)) refl)
    where
      go : (a : Bool) → leb (n x) (n y) ≡ a → (b : Bool) → leb (n y) (n z) ≡ b → (c : Bool) → leb (n x) (n z) ≡ c
          → cond (leb (n x) (n (cond b z y))) (cond b z y) x ≡ cond (leb (n (cond a y x)) (n z)) z (cond a y x)
      go true p true q c r = rw (q, le-leb (n x) (n z) (omega (arith, leb-true (n x) (n y) p, leb-true (n y) (n z) q)))
      go true p false q c r = rw (p, q)
      go false p true q c r = refl
      go false p false q c r = rw (p, lt-leb (n x) (n z) (omega (arith, leb-false (n x) (n y) p, leb-false (n y) (n z) q)))

  front : (x : Page) (xs : List Page) → best no_less (x ∷ xs) ≡ some (fold (greater n) x xs)
  unfolding best
  front x [] = unfold better in refl
  front x (y ∷ ys) = ap some (better_step x y (best no_less ys)) ∙ front (greater n x y) ys

  -- met from the front, the last among equals stands
  pub last_best : (xs : List Page) → reduce (greater n) xs ≡ sought_of (best (λ y x. leb (n x) (n y)) xs)
  unfolding no_less
  last_best [] = unfold best in refl
  last_best (x ∷ xs) = ap sought_of (sym (front x xs))

  -- met from the end, the first
  one_more : (ys : List Page) (x : Page) → reduce (greater n) (ys ++ (x ∷ [])) ≡ better_of (λ z y. ltb (n y) (n z)) x (reduce (greater n) ys)
  one_more [] x = refl
  one_more (y ∷ ys) x = ap Some (fold-append (greater n) y ys (x ∷ [])) ∙ go (fold (greater n) y ys) (nat_cmp (n (fold (greater n) y ys)) (n x)) refl
    where
      go : (z : Page) (o : Ordering) → o ≡ nat_cmp (n z) (n x) → Some (max_by_ordering o z x) ≡ cond {A = Answer Page} (ltb (n x) (n z)) (Some z) (Some x)
      go z Less e = let h = ranked (n z) (n x) Less e in rw (le-ltb (n x) (n z) (omega (arith, h)))
      go z Equal e = let h = ranked (n z) (n x) Equal e in rw (le-ltb (n x) (n z) (omega (arith, h)))
      go z Greater e = let h = ranked (n z) (n x) Greater e in rw (lt-ltb (n x) (n z) h)

  pub first_best : (p : Page → Bool) (xs : List Page) → reduce (greater n) (filter p (reverse xs)) ≡ sought_of (best (λ y x. ltb (n x) (n y)) (keep p xs))
  unfolding keep
  first_best p [] = unfold best in refl
  first_best p (x ∷ xs) = ap (reduce (greater n)) (ap (filter p) (reverse-append (x ∷ []) xs) ∙ filter-append p (reverse xs) (x ∷ [])) ∙ go (p x) (first_best p xs)
    where
      over : Page → Page → Bool
      over y x = ltb (n x) (n y)

      go : (b : Bool) → reduce (greater n) (filter p (reverse xs)) ≡ sought_of (best over (keep p xs))
          → reduce (greater n) (filter p (reverse xs) ++ cond b (x ∷ []) []) ≡ sought_of (best over (cond b (x ∷ keep p xs) (keep p xs)))
      go true ih = one_more (filter p (reverse xs)) x ∙ ap (better_of over x) ih ∙ best_more over x (keep p xs)
      go false ih = ap (reduce (greater n)) (append-nil _) ∙ ih
