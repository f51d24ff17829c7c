-- The runs of a sorted list are the groups of the list, ascending, each with its members in the list's order. Assumes nothing.
use mathlib.Core.Path.{◌≡◌, refl, sym, ap, ap₂, ◌∙◌}
use mathlib.Core.Logic.{◌⊎◌, inl, inr, ⊎_elim}
use mathlib.Core.Bool.{Bool, true, false, cond}
use mathlib.Core.List.{List, [], ◌∷◌, map}
use Prim.Native.Nat.{ℕ, zero, suc, ◌≤◌, ◌<◌}
use native.Mathlib.Omega.{arith}
use lib.Dec.{eqb, ltb}
use lib.ListN.{length, take, drop}
use borrow.Author.Tests.{ltb-true, ltb-false, eqb-true, eqb-false, eq-eqb}
use Rattle.lists.specs.Lists.{keep, insert_by, sort_by, ascend_from, ascending}
use Rattle.lists.proofs.Member.{◌∈◌, refuted, nil≢}
use Rattle.lists.proofs.Maps.{map_ext, in_map, map_in}
use Rattle.lists.proofs.Search.{keep_in, keep_none}
use Rattle.lists.proofs.Sorting.{insert_in, sort_in, in_sort}
use Rattle.lists.proofs.Ascending.{ascending_in}
use Rattle.lists.specs.Each.{Each}
use Rattle.lists.proofs.Each.{each-rest, of_each}
use Rattle.lists.specs.Runs.{run_with, runs}
use Rattle.lists.specs.Merge.{below}
use Rattle.lists.proofs.Climbing.{Climbs, climb_above, ascending_climbs, ascending_same, ascending_least, ascending-again}

module _ {A : Type 0} (f : A → ℕ) where
  -- those of one number
  abbrev pub only : List A → ℕ → List A
  only xs g = keep (λ (x : A). eqb (f x) g) xs

  abbrev pub Rises : List A → Type 0
  Rises [] = Unit {0}
  Rises (x ∷ xs) = ((y : A) → y ∈ xs → f x ≤ f y) × Rises xs

  insert_rises : (x : A) (ys : List A) → Rises ys → Rises (insert_by (below f) x ys)
  unfolding insert_by
  insert_rises x [] r = ((λ y m. absurd m), tt)
  insert_rises x (y ∷ ys) r = go (ltb (f y) (f x)) refl (insert_rises x ys r.1) (insert_in (below f) x ys)
    where
      go : (b : Bool) → ltb (f y) (f x) ≡ b → Rises (insert_by (below f) x ys) → ((z : A) → z ∈ insert_by (below f) x ys → (z ≡ x) ⊎ (z ∈ ys)) → Rises (cond b (y ∷ insert_by (below f) x ys) (x ∷ (y ∷ ys)))
      go true e ih w = let h = ltb-true (f y) (f x) e in ((λ z m. ⊎_elim (λ q. let a = ap f q in omega arith) (λ n. r.0 z n) (w z m)), ih)
      go false e ih w = let h = ltb-false (f y) (f x) e in ((λ z m. ⊎_elim (λ q. let a = ap f q in omega arith) (λ n. let k = r.0 z n in omega arith) m), r)

  pub sort_rises : (xs : List A) → Rises (sort_by (below f) xs)
  unfolding sort_by
  sort_rises [] = tt
  sort_rises (x ∷ xs) = insert_rises x (sort_by (below f) xs) (sort_rises xs)

  -- sorting keeps those of one number in order
  only_insert : (g : ℕ) (x : A) (ys : List A) → only (insert_by (below f) x ys) g ≡ only (x ∷ ys) g
  unfolding insert_by keep
  only_insert g x [] = refl
  only_insert g x (y ∷ ys) = go (ltb (f y) (f x)) refl (eqb (f x) g) refl (eqb (f y) g) refl (only_insert g x ys)
    where
      go : (b : Bool) → ltb (f y) (f x) ≡ b → (p : Bool) → eqb (f x) g ≡ p → (q : Bool) → eqb (f y) g ≡ q
          → only (insert_by (below f) x ys) g ≡ cond (eqb (f x) g) (x ∷ only ys g) (only ys g)
          → only (cond b (y ∷ insert_by (below f) x ys) (x ∷ (y ∷ ys))) g ≡ cond (eqb (f x) g) (x ∷ cond (eqb (f y) g) (y ∷ only ys g) (only ys g)) (cond (eqb (f y) g) (y ∷ only ys g) (only ys g))
      go false e p ep q eq ih = refl
      go true e true ep true eq ih = let a = ltb-true (f y) (f x) e in let b = eqb-true (f x) g ep in let c = eqb-true (f y) g eq in absurd (omega arith)
      go true e true ep false eq ih = rw (ep, eq) (rw ep at ih)
      go true e false ep true eq ih = rw (ep, eq) (ap {B = List A} (λ (r : List A). y ∷ r) (rw ep at ih))
      go true e false ep false eq ih = rw (ep, eq) (rw ep at ih)

  only-cons : (g : ℕ) (x : A) (xs : List A) → only (x ∷ xs) g ≡ cond (eqb (f x) g) (x ∷ only xs g) (only xs g)
  unfolding keep
  only-cons g x xs = refl

  only_of : (x : A) (xs : List A) → only (x ∷ xs) (f x) ≡ x ∷ only xs (f x)
  only_of x xs = rw (only-cons (f x) x xs, eq-eqb (f x) (f x) refl)

  only-other : (g : ℕ) (x : A) (xs : List A) → (f x ≡ g → ⊥) → only (x ∷ xs) g ≡ only xs g
  only-other g x xs h = let e = refuted (eqb (f x) g) (λ q. h (eqb-true (f x) g q)) in rw (only-cons g x xs, e)

  pub only-sorted : (g : ℕ) (xs : List A) → only (sort_by (below f) xs) g ≡ only xs g
  unfolding sort_by
  only-sorted g [] = refl
  only-sorted g (x ∷ xs) = only_insert g x (sort_by (below f) xs) ∙ only-cons g x (sort_by (below f) xs) ∙ ap (λ (r : List A). cond (eqb (f x) g) (x ∷ r) r) (only-sorted g xs) ∙ sym (only-cons g x xs)

  -- ---- the runs
  runs_more : (x : A) (xs : List A) → runs f (x ∷ xs) ≡ run_with f x (runs f xs)
  unfolding runs
  runs_more x xs = refl

  run-joins : (x y : A) (ys : List A) (rs : List (List A)) → f x ≡ f y → run_with f x ((y ∷ ys) ∷ rs) ≡ (x ∷ (y ∷ ys)) ∷ rs
  unfolding run_with
  run-joins x y ys rs e = rw (eq-eqb (f x) (f y) e)

  run-starts : (x y : A) (ys : List A) (rs : List (List A)) → (f x ≡ f y → ⊥) → run_with f x ((y ∷ ys) ∷ rs) ≡ (x ∷ []) ∷ ((y ∷ ys) ∷ rs)
  unfolding run_with
  run-starts x y ys rs h = rw (refuted (eqb (f x) (f y)) (λ q. h (eqb-true (f x) (f y) q)))

  runs_last : (x : A) → runs f (x ∷ []) ≡ (x ∷ []) ∷ runs f []
  unfolding runs run_with
  runs_last x = refl

  -- a list's runs begin with its first member
  runs_first : (y : A) (t : List A) → (ys : List A) × (rs : List (List A)) × (runs f (y ∷ t) ≡ (y ∷ ys) ∷ rs)
  unfolding runs run_with
  runs_first y t = go (runs f t)
    where
      pick : (b : Bool) (z : A) (zs : List A) (rs : List (List A)) → (ys : List A) × (us : List (List A)) × (cond b ((y ∷ (z ∷ zs)) ∷ rs) ((y ∷ []) ∷ ((z ∷ zs) ∷ rs)) ≡ (y ∷ ys) ∷ us)
      pick true z zs rs = (z ∷ zs, rs, refl)
      pick false z zs rs = ([], (z ∷ zs) ∷ rs, refl)

      go : (us : List (List A)) → (ys : List A) × (rs : List (List A)) × (run_with f y us ≡ (y ∷ ys) ∷ rs)
      go [] = ([], [], refl)
      go ([] ∷ rs) = ([], rs, refl)
      go ((z ∷ zs) ∷ rs) = pick (eqb (f y) (f z)) z zs rs

  abbrev numbers : List A → List ℕ
  numbers xs = map f xs

  -- groups of the list behind x are the same with x before it, but its own
  others-stay : (x : A) (t : List A) (gs : List ℕ) → ((g : ℕ) → g ∈ gs → f x ≡ g → ⊥) → map (only (x ∷ t)) gs ≡ map (only t) gs
  others-stay x t gs h = map_ext (only (x ∷ t)) (only t) gs (λ g m. only-other g x t (h g m))

  -- x starts a run of its own
  fresh : (x : A) (t : List A) → ((c : ℕ) → c ∈ numbers t → f x < c) → map (only (x ∷ t)) (ascending (f x ∷ numbers t)) ≡ (x ∷ []) ∷ map (only t) (ascending (numbers t))
  fresh x t h =
      let own : only (x ∷ t) (f x) ≡ x ∷ [] = only_of x t ∙ ap {B = List A} (λ (r : List A). x ∷ r) (keep_none (λ (z : A). eqb (f z) (f x)) t (λ z m. refuted (eqb (f z) (f x)) (λ q. let a = h (f z) (in_map f t z m) in let b = eqb-true (f z) (f x) q in omega arith))) in
      let rest = others-stay x t (ascending (numbers t)) (λ g m e. let a = h g (ascending_in (numbers t) g m) in omega arith) in
      rw (ascending_least (f x) (numbers t) h) (ap₂ (λ (a : List A) (r : List (List A)). a ∷ r) own rest)

  -- x joins the first run
  joins : (x y : A) (t ys : List A) (rs : List (List A)) (ns : List ℕ) → f x ≡ f y → Climbs 0 ns → (y ∷ ys) ∷ rs ≡ map (only (y ∷ t)) ns
      → (x ∷ (y ∷ ys)) ∷ rs ≡ map (only (x ∷ (y ∷ t))) ns
  joins x y t ys rs [] e k q = absurd (nil≢ q)
  joins x y t ys rs (g ∷ gs) e k q =
      let first : y ∷ ys ≡ only (y ∷ t) g = cc in
      let rest : rs ≡ map (only (y ∷ t)) gs = cc in
      let in_first : y ∈ only (y ∷ t) g = rw (← first) (inl refl) in
      let here : f y ≡ g = eqb-true (f y) g (keep_in (λ (z : A). eqb (f z) g) (y ∷ t) y in_first).1 in
      let own : only (x ∷ (y ∷ t)) g ≡ x ∷ only (y ∷ t) g = ap (only (x ∷ (y ∷ t))) (sym here ∙ sym e) ∙ only_of x (y ∷ t) ∙ ap (λ (n : ℕ). x ∷ only (y ∷ t) n) (e ∙ here) in
      let stay = others-stay x (y ∷ t) gs (λ h m p. let a = climb_above (suc g) gs k.1 h m in omega arith) in
      ap₂ (λ (a : List A) (r : List (List A)). a ∷ r) (ap {B = List A} (λ (r : List A). x ∷ r) first ∙ sym own) (rest ∙ sym stay)

  runs_none : runs f [] ≡ map (only []) (ascending (numbers []))
  unfolding runs ascending ascend_from
  runs_none = refl

  runs_one : (x : A) → runs f (x ∷ []) ≡ (x ∷ []) ∷ map (only []) (ascending (numbers []))
  unfolding runs run_with ascending ascend_from
  runs_one x = refl

  pub runs_rising : (s : List A) → Rises s → runs f s ≡ map (only s) (ascending (numbers s))
  runs_rising [] r = runs_none
  runs_rising (x ∷ []) r =
      runs_one x ∙ sym (fresh x [] (λ c m. absurd m))
  runs_rising (x ∷ (y ∷ t)) r = go (eqb (f x) (f y)) refl (runs_rising (y ∷ t) r.1) (runs_first y t)
    where
      above : (f x ≡ f y → ⊥) → (c : ℕ) → c ∈ numbers (y ∷ t) → f x < c
      above h c m =
          let a = r.0 y (inl refl) in
          let z = map_in f (y ∷ t) c m in
          let b : f y ≤ c = ⊎_elim (λ e. let q = ap f e in let w = z.2 in omega arith) (λ n. let k = r.1.0 z.0 n in let w = z.2 in omega arith) z.1 in
          omega arith

      go : (b : Bool) → eqb (f x) (f y) ≡ b → runs f (y ∷ t) ≡ map (only (y ∷ t)) (ascending (numbers (y ∷ t))) → ((ys : List A) × (rs : List (List A)) × (runs f (y ∷ t) ≡ (y ∷ ys) ∷ rs))
          → runs f (x ∷ (y ∷ t)) ≡ map (only (x ∷ (y ∷ t))) (ascending (numbers (x ∷ (y ∷ t))))
      go true q ih first =
          let e = eqb-true (f x) (f y) q in
          runs_more x (y ∷ t) ∙ ap (run_with f x) first.2 ∙ run-joins x y first.0 first.1 e
          ∙ joins x y t first.0 first.1 (ascending (numbers (y ∷ t))) e (ascending_climbs (numbers (y ∷ t))) (sym first.2 ∙ ih)
          ∙ ap (map (only (x ∷ (y ∷ t)))) (sym (ascending-again (f x) (numbers (y ∷ t)) (inl e)))
      go false q ih first =
          let h : (f x ≡ f y → ⊥) = eqb-false (f x) (f y) q in
          runs_more x (y ∷ t) ∙ ap (run_with f x) first.2 ∙ run-starts x y first.0 first.1 h
          ∙ ap {B = List (List A)} (λ (u : List (List A)). (x ∷ []) ∷ u) (sym first.2 ∙ ih)
          ∙ sym (fresh x (y ∷ t) (above h))

  -- the runs of the sorted list are the groups of the list, ascending, each with its members in the list's order
  pub runs-sorted : (xs : List A) → runs f (sort_by (below f) xs) ≡ map (only xs) (ascending (numbers xs))
  runs-sorted xs =
      let s = sort_by (below f) xs in
      runs_rising s (sort_rises xs)
      ∙ map_ext (only s) (only xs) (ascending (numbers s)) (λ g m. only-sorted g xs)
      ∙ ap (map (only xs)) (ascending_same (numbers s) (numbers xs)
      (λ c m. let z = map_in f s c m in rw z.2 (in_map f xs z.0 (sort_in (below f) xs z.0 z.1)))
      (λ c m. let z = map_in f xs c m in rw z.2 (in_map f s z.0 (in_sort (below f) xs z.0 z.1))))

  -- the first run ends where another number stands
  pub runs-split : (k : ℕ) (xs : List A) (g : ℕ) → k < length xs → Each (λ (x : A). f x ≡ g) (take (suc k) xs) → ((x : A) (t : List A) → drop (suc k) xs ≡ x ∷ t → f x ≡ g → ⊥) → runs f xs ≡ take (suc k) xs ∷ runs f (drop (suc k) xs)
  runs-split k [] g h same stop = absurd (omega arith)
  runs-split zero (x ∷ t) g h same stop = alone t (same_first same) stop
    where
      same_first : Each (λ (x : A). f x ≡ g) (x ∷ []) → f x ≡ g
      same_first e = of_each (λ (x : A). f x ≡ g) (x ∷ []) e x (inl refl)

      alone : (t : List A) → f x ≡ g → ((y : A) (s : List A) → t ≡ y ∷ s → f y ≡ g → ⊥) → runs f (x ∷ t) ≡ (x ∷ []) ∷ runs f t
      alone [] e out = runs_last x
      alone (y ∷ s) e out = let first = runs_first y s in runs_more x (y ∷ s) ∙ ap (run_with f x) first.2 ∙ run-starts x y first.0 first.1 (λ q. out y s refl (sym q ∙ e)) ∙ ap {B = List (List A)} (λ (u : List (List A)). (x ∷ []) ∷ u) (sym first.2)
  runs-split (suc k) (x ∷ []) g h same stop = absurd (omega arith)
  runs-split (suc k) (x ∷ (y ∷ t)) g h same stop =
      let rest = runs-split k (y ∷ t) g (omega arith) (each-rest (λ (x : A). f x ≡ g) x (take (suc k) (y ∷ t)) same) stop in
      let fx = of_each (λ (x : A). f x ≡ g) (x ∷ take (suc k) (y ∷ t)) same x (inl refl) in
      let fy = of_each (λ (x : A). f x ≡ g) (x ∷ take (suc k) (y ∷ t)) same y (inr (inl refl)) in
      runs_more x (y ∷ t) ∙ ap (run_with f x) rest ∙ run-joins x y (take k t) (runs f (drop (suc k) (y ∷ t))) (fx ∙ sym fy)
