-- Sums over the numbers below a limit, and how they change where a few of the values do. Assumes nothing.
use mathlib.Core.Path.{◌≡◌, refl, sym, ap}
use mathlib.Core.Bool.{Bool, true, false, cond}
use Prim.Native.Nat.{ℕ, zero, suc, ◌+◌, ◌≤◌, ◌<◌}
use native.Mathlib.Omega.{arith}
use lib.Dec.{eqb}
use borrow.Author.Tests.{ne_eqb, eqb-true, eqb-false}
use Rattle.lists.specs.Lists.{sum_to}

-- a sum goes by its values
pub sum_to_ext : (f g : ℕ → ℕ) (n : ℕ) → ((u : ℕ) → u < n → f u ≡ g u) → sum_to f n ≡ sum_to g n
unfolding sum_to
sum_to_ext f g zero h = refl
sum_to_ext f g (suc n) h = let a = sum_to_ext f g n (λ u k. h u (omega arith)) in let b = h n (omega arith) in omega arith

-- each value is in it
pub sum_to-ge : (f : ℕ → ℕ) (n u : ℕ) → u < n → f u ≤ sum_to f n
unfolding sum_to
sum_to-ge f zero u h = absurd (omega arith)
sum_to-ge f (suc n) u h = go (eqb u n) refl (sum_to-ge f n u)
  where
    go : (b : Bool) → eqb u n ≡ b → (u < n → f u ≤ sum_to f n) → f u ≤ sum_to f n + f n
    go true q ih = let e : f u ≡ f n = ap f (eqb-true u n q) in omega arith
    go false q ih = let e : (u ≡ n → ⊥) = eqb-false u n q in let k = ih (omega arith) in omega arith

-- f, and 0 at s
abbrev pub off : ℕ → (ℕ → ℕ) → ℕ → ℕ
off s f u = cond (eqb u s) 0 (f u)

pub off_same : (s : ℕ) (f : ℕ → ℕ) (n : ℕ) → n ≤ s → sum_to (off s f) n ≡ sum_to f n
off_same s f n h = sum_to_ext (off s f) f n (λ u k. rw (ne_eqb u s (λ e. omega arith)))

-- a value, and the rest
pub sum_to-off : (s : ℕ) (f : ℕ → ℕ) (n : ℕ) → s < n → sum_to f n ≡ f s + sum_to (off s f) n
unfolding sum_to
sum_to-off s f zero h = absurd (omega arith)
sum_to-off s f (suc n) h = go (eqb n s) refl (sum_to-off s f n)
  where
    go : (b : Bool) → eqb n s ≡ b → (s < n → sum_to f n ≡ f s + sum_to (off s f) n) → sum_to f n + f n ≡ f s + (sum_to (off s f) n + cond b 0 (f n))
    go true q ih = let e : n ≡ s = eqb-true n s q in let a : f n ≡ f s = ap f e in let b = off_same s f n (omega arith) in omega arith
    go false q ih = let e : (n ≡ s → ⊥) = eqb-false n s q in let k = ih (omega arith) in omega arith

-- f and g differ at s and t alone
module _ (f g : ℕ → ℕ) (n s t : ℕ) (hs : s < n) (ht : t < n) (ne : s ≡ t → ⊥) (same : (u : ℕ) → u < n → (u ≡ s → ⊥) → (u ≡ t → ⊥) → f u ≡ g u) where
  others : sum_to (off t (off s f)) n ≡ sum_to (off t (off s g)) n
  others = sum_to_ext (off t (off s f)) (off t (off s g)) n (λ u k. go u k (eqb u t) refl (eqb u s) refl)
    where
      go : (u : ℕ) → u < n → (b : Bool) → eqb u t ≡ b → (c : Bool) → eqb u s ≡ c → cond b 0 (cond c 0 (f u)) ≡ cond b 0 (cond c 0 (g u))
      go u k true q c r = refl
      go u k false q true r = refl
      go u k false q false r = same u k (eqb-false u s r) (eqb-false u t q)

  two : (h : ℕ → ℕ) → sum_to h n ≡ h s + (h t + sum_to (off t (off s h)) n)
  two h =
      let a = sum_to-off s h n hs in
      let b = sum_to-off t (off s h) n ht in
      let c : off s h t ≡ h t = rw (ne_eqb t s (λ e. ne (sym e))) in
      omega arith

  -- f and g are as great at the two places together, so in all
  pub sum_to-two : f s + f t ≡ g s + g t → sum_to f n ≡ sum_to g n
  sum_to-two e = let a = two f in let b = two g in let c = others in omega arith

  pub sum_to-two-le : f s + f t ≤ g s + g t → sum_to f n ≤ sum_to g n
  sum_to-two-le e = let a = two f in let b = two g in let c = others in omega arith

-- f and g differ at s alone
pub sum_to_one_le : (f g : ℕ → ℕ) (n s : ℕ) → s < n → ((u : ℕ) → u < n → (u ≡ s → ⊥) → f u ≡ g u) → f s ≤ g s → sum_to f n ≤ sum_to g n
sum_to_one_le f g n s hs same e =
    let a = sum_to-off s f n hs in
    let b = sum_to-off s g n hs in
    let c = sum_to_ext (off s f) (off s g) n (λ u k. go u k (eqb u s) refl) in
    omega arith
  where
    go : (u : ℕ) → u < n → (c : Bool) → eqb u s ≡ c → cond c 0 (f u) ≡ cond c 0 (g u)
    go u k true r = refl
    go u k false r = same u k (eqb-false u s r)

-- f is 0 everywhere but at s
pub sum_to-only : (f : ℕ → ℕ) (n s : ℕ) → ((u : ℕ) → u < n → (u ≡ s → ⊥) → f u ≡ 0) → sum_to f n ≤ f s
unfolding sum_to
sum_to-only f zero s h = omega arith
sum_to-only f (suc n) s h = go (eqb n s) refl (sum_to-only f n s (λ u k. h u (omega arith)))
  where
    none_below : (m : ℕ) → m ≤ s → m ≤ n → sum_to f m ≡ 0
    none_below zero k j = refl
    none_below (suc m) k j = let a = none_below m (omega arith) (omega arith) in let b = h m (omega arith) (λ e. omega arith) in omega arith

    go : (b : Bool) → eqb n s ≡ b → sum_to f n ≤ f s → sum_to f n + f n ≤ f s
    go true q k = let e = eqb-true n s q in let a : f n ≡ f s = ap f e in let b = none_below n (omega arith) (omega arith) in omega arith
    go false q k = let a = h n (omega arith) (eqb-false n s q) in omega arith

-- and so its value there is the sum
pub sum_to_at : (f : ℕ → ℕ) (n s : ℕ) → s < n → ((u : ℕ) → u < n → (u ≡ s → ⊥) → f u ≡ 0) → sum_to f n ≡ f s
sum_to_at f n s h z = let a = sum_to-only f n s z in let b = sum_to-ge f n s h in omega arith

-- two values are in it
pub sum_to-pair : (f : ℕ → ℕ) (n s t : ℕ) → s < n → t < n → (s ≡ t → ⊥) → f s + f t ≤ sum_to f n
sum_to-pair f n s t hs ht ne =
    let a = sum_to-off s f n hs in
    let b = sum_to-ge (off s f) n t ht in
    let c : off s f t ≡ f t = rw (ne_eqb t s (λ e. ne (sym e))) in
    omega arith

-- values of at most 1 that sum up to the limit are all 1
sum_to_most : (f : ℕ → ℕ) (n : ℕ) → ((u : ℕ) → u < n → f u ≤ 1) → sum_to f n ≤ n
unfolding sum_to
sum_to_most f zero h = omega arith
sum_to_most f (suc n) h = let a = sum_to_most f n (λ u k. h u (omega arith)) in let b = h n (omega arith) in omega arith

pub sum_to-full : (f : ℕ → ℕ) (n : ℕ) → ((u : ℕ) → u < n → f u ≤ 1) → sum_to f n ≡ n → (u : ℕ) → u < n → f u ≡ 1
unfolding sum_to
sum_to-full f zero h e u k = absurd (omega arith)
sum_to-full f (suc n) h e u k =
    let a = sum_to_most f n (λ v j. h v (omega arith)) in
    let b = h n (omega arith) in
    go (eqb u n) refl (omega arith) (sum_to-full f n (λ v j. h v (omega arith)) (omega arith) u)
  where
    go : (c : Bool) → eqb u n ≡ c → f n ≡ 1 → (u < n → f u ≡ 1) → f u ≡ 1
    go true q m ih = rw (eqb-true u n q) m
    go false q m ih = let d : (u ≡ n → ⊥) = eqb-false u n q in ih (omega arith)

-- values of at least 1 sum up to the limit or more
pub sum_to_least : (f : ℕ → ℕ) (n : ℕ) → ((u : ℕ) → u < n → 1 ≤ f u) → n ≤ sum_to f n
unfolding sum_to
sum_to_least f zero h = omega arith
sum_to_least f (suc n) h = let a = sum_to_least f n (λ u k. h u (omega arith)) in let b = h n (omega arith) in omega arith
