-- Taking one out of a list, where the last takes its place: the others stay, each as often as it stood. Assumes nothing.
use mathlib.Core.Path.{◌≡◌, refl, sym, ap, ◌∙◌}
use mathlib.Core.Logic.{◌⊎◌, inl, inr, ⊎_elim}
use mathlib.Core.Bool.{Bool, true, false, cond}
use mathlib.Core.Option.{Option, none, some}
use mathlib.Core.List.{List, [], ◌∷◌, get_last?, drop_last}
use Prim.Native.Nat.{ℕ, ◌+◌, ◌≤◌}
use native.Mathlib.Omega.{arith}
use Rattle.lists.specs.Lists.{sum_of, replace, out_with, take_out}
use Rattle.lists.proofs.Member.{◌∈◌, refuted, true≢false, none≢some}
use Rattle.lists.proofs.Search.{last_some, last_in}
use Rattle.lists.proofs.Sums.{sum-ge}

module _ {A : Type 0} where
  -- ---- the drop_last and the last
  pub sum_drop_last : (f : A → ℕ) (xs : List A) (z : A) → get_last? xs ≡ some z → sum_of f (drop_last xs) + f z ≡ sum_of f xs
  unfolding sum_of
  sum_drop_last f [] z e = absurd (none≢some refl e)
  sum_drop_last f (x ∷ []) z e = let r : x ≡ z = cc in let q : f x ≡ f z = ap f r in omega arith
  sum_drop_last f (x ∷ (w ∷ ws)) z e = let q = sum_drop_last f (w ∷ ws) z e in omega arith

  in_drop_last : (xs : List A) (y z : A) → get_last? xs ≡ some z → y ∈ xs → (y ≡ z) ⊎ (y ∈ drop_last xs)
  in_drop_last [] y z e m = absurd m
  in_drop_last (x ∷ []) y z e (inl r) = inl (let q : x ≡ z = cc in r ∙ q)
  in_drop_last (x ∷ []) y z e (inr m) = absurd m
  in_drop_last (x ∷ (w ∷ ws)) y z e (inl r) = inr (inl r)
  in_drop_last (x ∷ (w ∷ ws)) y z e (inr m) = ⊎_elim (λ q. inl q) (λ q. inr (inr q)) (in_drop_last (w ∷ ws) y z e m)

  -- all but the last are members
  pub drop_last_in : (xs : List A) (y : A) → y ∈ drop_last xs → y ∈ xs
  drop_last_in [] y m = absurd m
  drop_last_in (x ∷ []) y m = absurd m
  drop_last_in (x ∷ (w ∷ ws)) y (inl r) = inl r
  drop_last_in (x ∷ (w ∷ ws)) y (inr m) = inr (drop_last_in (w ∷ ws) y m)

  module _ (p : A → Bool) where
    -- ---- replace
    sum-replace : (f : A → ℕ) (ys : List A) (x z : A) → x ∈ ys → p x ≡ true → ((y : A) → y ∈ ys → p y ≡ true → y ≡ x) → sum_of f (replace p z ys) + f x ≡ sum_of f ys + f z
    unfolding sum_of replace
    sum-replace f [] x z m e h = absurd m
    sum-replace f (y ∷ ys) x z m e h = go (p y) refl m (λ n. sum-replace f ys x z n e (λ w k. h w (inr k)))
      where
        go : (b : Bool) → p y ≡ b → x ∈ (y ∷ ys) → (x ∈ ys → sum_of f (replace p z ys) + f x ≡ sum_of f ys + f z)
            → sum_of f (cond b (z ∷ ys) (y ∷ replace p z ys)) + f x ≡ f y + sum_of f ys + f z
        go true q n ih = let r : f y ≡ f x = ap f (h y (inl refl) q) in omega arith
        go false q (inl r) ih = absurd (true≢false (sym (ap p r) ∙ e) q)
        go false q (inr n) ih = let r = ih n in omega arith

    replace_in : (ys : List A) (y z : A) → y ∈ replace p z ys → (y ≡ z) ⊎ (y ∈ ys)
    unfolding replace
    replace_in [] y z m = absurd m
    replace_in (x ∷ xs) y z m = go (p x) m (replace_in xs y z)
      where
        go : (b : Bool) → y ∈ cond b (z ∷ xs) (x ∷ replace p z xs) → (y ∈ replace p z xs → (y ≡ z) ⊎ (y ∈ xs)) → (y ≡ z) ⊎ (y ∈ (x ∷ xs))
        go true (inl r) ih = inl r
        go true (inr n) ih = inr (inr n)
        go false (inl r) ih = inr (inl r)
        go false (inr n) ih = ⊎_elim (λ q. inl q) (λ q. inr (inr q)) (ih n)

    in_replace : (ys : List A) (y z : A) → y ∈ ys → p y ≡ false → y ∈ replace p z ys
    unfolding replace
    in_replace [] y z m e = absurd m
    in_replace (x ∷ xs) y z m e = go (p x) refl m (λ n. in_replace xs y z n e)
      where
        go : (b : Bool) → p x ≡ b → y ∈ (x ∷ xs) → (y ∈ xs → y ∈ replace p z xs) → y ∈ cond b (z ∷ xs) (x ∷ replace p z xs)
        go true q (inl r) ih = absurd (true≢false q (sym (ap p r) ∙ e))
        go true q (inr n) ih = inr n
        go false q (inl r) ih = inl r
        go false q (inr n) ih = inr (ih n)

    has-replace : (ys : List A) (x z : A) → x ∈ ys → p x ≡ true → z ∈ replace p z ys
    unfolding replace
    has-replace [] x z m e = absurd m
    has-replace (y ∷ ys) x z m e = go (p y) refl m (λ n. has-replace ys x z n e)
      where
        go : (b : Bool) → p y ≡ b → x ∈ (y ∷ ys) → (x ∈ ys → z ∈ replace p z ys) → z ∈ cond b (z ∷ ys) (y ∷ replace p z ys)
        go true q n ih = inl refl
        go false q (inl r) ih = absurd (true≢false (sym (ap p r) ∙ e) q)
        go false q (inr n) ih = inr (ih n)

    -- ---- take_out
    pub sum-out : (f : A → ℕ) (xs : List A) (x : A) → x ∈ xs → p x ≡ true → ((y : A) → y ∈ xs → p y ≡ true → y ≡ x) → sum_of f (take_out p xs) + f x ≡ sum_of f xs
    unfolding take_out out_with
    sum-out f xs x m e h = go (get_last? xs) refl
      where
        pin : (z : A) → get_last? xs ≡ some z → (b : Bool) → p z ≡ b → sum_of f (cond b (drop_last xs) (replace p z (drop_last xs))) + f x ≡ sum_of f xs
        pin z q true r = let k : f z ≡ f x = ap f (h z (last_in xs z q) r) in let s = sum_drop_last f xs z q in omega arith
        pin z q false r =
            ⊎_elim (λ k. absurd (true≢false (sym (ap p k) ∙ e) r)) (λ k. let s = sum_drop_last f xs z q in let t = sum-replace f (drop_last xs) x z k e (λ y n. h y (drop_last_in xs y n)) in omega arith) (in_drop_last xs x z q m)

        go : (o : Option A) → get_last? xs ≡ o → sum_of f (out_with p xs o) + f x ≡ sum_of f xs
        go none q = absurd (none≢some q (last_some xs x m).1)
        go (some z) q = pin z q (p z) refl

    -- what is left was there
    pub out_in : (xs : List A) (y : A) → y ∈ take_out p xs → y ∈ xs
    unfolding take_out out_with
    out_in xs y m = go (get_last? xs) refl m
      where
        pin : (z : A) → get_last? xs ≡ some z → (b : Bool) → y ∈ cond b (drop_last xs) (replace p z (drop_last xs)) → y ∈ xs
        pin z q true n = drop_last_in xs y n
        pin z q false n = ⊎_elim (λ k. rw k (last_in xs z q)) (λ k. drop_last_in xs y k) (replace_in (drop_last xs) y z n)

        go : (o : Option A) → get_last? xs ≡ o → y ∈ out_with p xs o → y ∈ xs
        go none q n = absurd n
        go (some z) q n = pin z q (p z) n

    -- x is the one that goes, y is another
    pub in_out : (xs : List A) (x y : A) → x ∈ xs → p x ≡ true → y ∈ xs → p y ≡ false → y ∈ take_out p xs
    unfolding take_out out_with
    in_out xs x y mx ex m e = go (get_last? xs) refl
      where
        pin : (z : A) → get_last? xs ≡ some z → (b : Bool) → p z ≡ b → y ∈ cond b (drop_last xs) (replace p z (drop_last xs))
        pin z q true r = ⊎_elim (λ k. absurd (true≢false r (sym (ap p k) ∙ e))) (λ k. k) (in_drop_last xs y z q m)
        pin z q false r =
            ⊎_elim (λ k. rw k (⊎_elim (λ w. absurd (true≢false (sym (ap p w) ∙ ex) r)) (λ w. has-replace (drop_last xs) x z w ex) (in_drop_last xs x z q mx)))
            (λ k. in_replace (drop_last xs) y z k e) (in_drop_last xs y z q m)

        go : (o : Option A) → get_last? xs ≡ o → y ∈ out_with p xs o
        go none q = absurd (none≢some q (last_some xs y m).1)
        go (some z) q = pin z q (p z) refl

    -- after it none passes, where one passed
    pub out-other : (xs : List A) (x : A) → x ∈ xs → p x ≡ true → sum_of (λ (y : A). cond (p y) 1 0) xs ≤ 1 → ((y : A) → y ∈ xs → p y ≡ true → y ≡ x) → (y : A)
        → y ∈ take_out p xs → p y ≡ false
    out-other xs x m e s h y n = refuted (p y) (λ q.
        let t = sum-out (λ (w : A). cond (p w) 1 0) xs x m e h in
        let g = sum-ge (λ (w : A). cond (p w) 1 0) (take_out p xs) y n in
        let a : ◌≡◌ {A = ℕ} (cond (p y) 1 0) 1 = rw q in
        let b : ◌≡◌ {A = ℕ} (cond (p x) 1 0) 1 = rw e in
        omega arith)
