-- How long a list is, and how great a sum over it, that was made of another: kept, made of each member, or put in order. Assumes nothing.
use mathlib.Core.Path.{◌≡◌, refl, ◌∙◌, ap}
use mathlib.Core.Logic.{inl, inr}
use mathlib.Core.Bool.{Bool, true, false, cond}
use mathlib.Core.Option.{Option, none, some}
use mathlib.Core.List.{List, [], ◌∷◌, flat_map}
use Prim.Native.Nat.{ℕ, zero, suc, ◌+◌, ◌*◌, ◌≤◌}
use native.Mathlib.Omega.{arith}
use native.Mathlib.Nat.{mul-suc, mul-le-mul_left}
use lib.ListN.{length, length-append}
use lib.Dec.{leb}
use borrow.Author.Tests.{leb-true, le-leb}
use Rattle.lists.specs.Lists.{keep, sum_of, least_from, ascend_to, ascend_from, ascending}
use Rattle.lists.proofs.Member.{◌∈◌}
use Rattle.lists.proofs.Sums.{sum-keep, sum-keep-le, sum-le, sum_plus}
use Rattle.lists.proofs.Ascending.{least_some}

module _ {A : Type 0} where
  pub length-keep : (p : A → Bool) (xs : List A) → length (keep p xs) ≤ length xs
  unfolding keep
  length-keep p [] = omega arith
  length-keep p (x ∷ xs) = go (p x) (length-keep p xs)
    where
      go : (b : Bool) → length (keep p xs) ≤ length xs → length (cond b (x ∷ keep p xs) (keep p xs)) ≤ suc (length xs)
      go true h = omega arith
      go false h = omega arith

  -- a sum of so many at most, each of which is c at most
  pub sum_most : (f : A → ℕ) (c n : ℕ) → ((x : A) → f x ≤ c) → (xs : List A) → length xs ≤ n → sum_of f xs ≤ c * n
  unfolding sum_of
  sum_most f c n h xs k = let a = each xs in let b = mul-le-mul_left c k in omega arith
    where
      each : (xs : List A) → sum_of f xs ≤ c * length xs
      each [] = omega arith
      each (x ∷ xs) = let a = h x in let b = each xs in let d = mul-suc c (length xs) in omega arith

  -- a member that is left out adds its part
  pub sum_without : (q : A → Bool) (f : A → ℕ) (xs : List A) (y : A) → y ∈ xs → q y ≡ false → f y + sum_of f (keep q xs) ≤ sum_of f xs
  unfolding sum_of keep
  sum_without q f [] y m e = absurd m
  sum_without q f (x ∷ xs) y (inl r) e = let g : f y ≡ f x = ap f r in rw (← r, e) (omega (arith, g, sum-keep-le q f xs))
  sum_without q f (x ∷ xs) y (inr m) e = go (q x) (sum_without q f xs y m e)
    where
      go : (b : Bool) → f y + sum_of f (keep q xs) ≤ sum_of f xs → f y + sum_of f (cond b (x ∷ keep q xs) (keep q xs)) ≤ f x + sum_of f xs
      go true h = omega arith
      go false h = omega arith

  -- fewer pass a sharper test
  pub sum_sharper : (p q : A → Bool) (f : A → ℕ) → ((x : A) → p x ≡ true → q x ≡ true) → (xs : List A) → sum_of f (keep p xs) ≤ sum_of f (keep q xs)
  sum_sharper p q f h xs =
      omega (arith, sum-keep p f xs, sum-keep q f xs, sum-le (λ (x : A). cond (p x) (f x) 0) (λ (x : A). cond (q x) (f x) 0) xs (λ x m. go x (p x) refl))
    where
      go : (x : A) (b : Bool) → p x ≡ b → cond b (f x) 0 ≤ cond (q x) (f x) 0
      go x true e = rw (h x e) (omega arith)
      go x false e = omega arith

-- where the number that a member passes for is told by the member, no member passes twice for the numbers of an ascending list
module _ {A : Type 0} (p : ℕ → A → Bool) (g : A → ℕ) (tells : (w : ℕ) (x : A) → p w x ≡ true → g x ≡ w) (f : A → ℕ) (xs : List A) where
  abbrev from : ℕ → ℕ
  from v = sum_of f (keep (λ (x : A). leb v (g x)) xs)

  one_less : (v w : ℕ) → v ≤ w → sum_of f (keep (p w) xs) + from (suc w) ≤ from v
  one_less v w h =
      omega
      (arith, sum-keep (p w) f xs, sum-keep (λ (x : A). leb (suc w) (g x)) f xs, sum-keep (λ (x : A). leb v (g x)) f xs, sum_plus (λ (x : A). cond (p w x) (f x) 0) (λ (x : A). cond (leb (suc w) (g x)) (f x) 0) xs, sum-le (λ (x : A). cond (p w x) (f x) 0 + cond (leb (suc w) (g x)) (f x) 0) (λ (x : A). cond (leb v (g x)) (f x) 0) xs (λ x m. go x (p w x) refl (leb (suc w) (g x)) refl))
    where
      go : (x : A) (b : Bool) → p w x ≡ b → (c : Bool) → leb (suc w) (g x) ≡ c → cond b (f x) 0 + cond c (f x) 0 ≤ cond (leb v (g x)) (f x) 0
      go x true e true q = let a = tells w x e in let b = leb-true (suc w) (g x) q in absurd (omega arith)
      go x true e false q = let a = tells w x e in rw (le-leb v (g x) (omega arith)) (omega arith)
      go x false e true q = let b = leb-true (suc w) (g x) q in rw (le-leb v (g x) (omega arith)) (omega arith)
      go x false e false q = omega arith

  kept_from : (n v : ℕ) (cs : List ℕ) → sum_of (λ (w : ℕ). sum_of f (keep (p w) xs)) (ascend_from n v cs) ≤ from v
  unfolding ascend_from ascend_to sum_of
  kept_from zero v cs = omega arith
  kept_from (suc n) v cs = go (least_from v cs) refl (λ w. kept_from n (suc w) cs)
    where
      go : (o : Option ℕ) → least_from v cs ≡ o → ((w : ℕ) → sum_of (λ (w : ℕ). sum_of f (keep (p w) xs)) (ascend_from n (suc w) cs) ≤ from (suc w))
          → sum_of (λ (w : ℕ). sum_of f (keep (p w) xs)) (ascend_to (λ (w : ℕ). ascend_from n (suc w) cs) o) ≤ from v
      go none e rest = omega arith
      go (some w) e rest = omega (arith, rest w, one_less v w (least_some v cs w e).1)

  pub kept-once : (cs : List ℕ) → sum_of (λ (w : ℕ). sum_of f (keep (p w) xs)) (ascending cs) ≤ sum_of f xs
  unfolding ascending
  kept-once cs = omega (arith, kept_from (length cs) 0 cs, sum-keep-le (λ (x : A). leb 0 (g x)) f xs)

-- what is made of each member, put together
pub length_flat : {A B : Type 0} (g : A → List B) (xs : List A) → length (flat_map g xs) ≡ sum_of (λ (x : A). length (g x)) xs
unfolding flat_map sum_of
length_flat g [] = refl
length_flat g (x ∷ xs) = length-append (g x) (flat_map g xs) ∙ ap (λ (n : ℕ). length (g x) + n) (length_flat g xs)

pub flat_most : {A B : Type 0} (g : A → List B) (c n : ℕ) → ((x : A) → length (g x) ≤ c) → (xs : List A) → length xs ≤ n → length (flat_map g xs) ≤ c * n
flat_most {A} g c n h xs k = rw (length_flat g xs) (sum_most (λ (x : A). length (g x)) c n h xs k)

-- the numbers of a list ascending, each once
pub length-ascending : (cs : List ℕ) → length (ascending cs) ≤ length cs
unfolding ascending ascend_from ascend_to
length-ascending cs = from (length cs) 0
  where
    from : (n v : ℕ) → length (ascend_from n v cs) ≤ n
    from zero v = omega arith
    from (suc n) v = go (least_from v cs) (λ w. from n (suc w))
      where
        go : (o : Option ℕ) → ((w : ℕ) → length (ascend_from n (suc w) cs) ≤ n) → length (ascend_to (λ (w : ℕ). ascend_from n (suc w) cs) o) ≤ suc n
        go none h = omega arith
        go (some w) h = let a = h w in omega arith
