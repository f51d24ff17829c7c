-- What a search finds is a member that passes, and where one passes it finds one. Assumes nothing.
use mathlib.Core.Path.{◌≡◌, refl, sym, ap, subst, ◌∙◌}
use mathlib.Core.Logic.{inl, inr}
use mathlib.Core.Bool.{Bool, true, false, cond}
use mathlib.Core.Option.{Option, none, some}
use mathlib.Core.List.{List, [], ◌∷◌, ◌++◌, get_last?}
use Prim.Native.Nat.{ℕ, ◌≤◌}
use native.Mathlib.Omega.{arith}
use lib.Dec.{leb}
use borrow.Author.Tests.{leb-true, leb-false}
use Rattle.lists.specs.Lists.{keep, every, some_of, first_of, better, best}
use Rattle.lists.proofs.Member.{◌∈◌, true≢false, none≢some, refuted}

module _ {A : Type 0} where
  -- ---- keep
  pub keep_none : (p : A → Bool) (xs : List A) → ((y : A) → y ∈ xs → p y ≡ false) → keep p xs ≡ []
  unfolding keep
  keep_none p [] h = refl
  keep_none p (x ∷ xs) h = rw (h x (inl refl)) (keep_none p xs (λ y m. h y (inr m)))

  keep-step : (p : A → Bool) (x : A) (xs : List A) (y : A) → (y ∈ keep p xs → (y ∈ xs) × (p y ≡ true)) → (b : Bool) → p x ≡ b
      → y ∈ cond b (x ∷ keep p xs) (keep p xs) → (y ∈ (x ∷ xs)) × (p y ≡ true)
  keep-step p x xs y ih true e (inl q) = (inl q, ap p q ∙ e)
  keep-step p x xs y ih true e (inr m) = (inr (ih m).0, (ih m).1)
  keep-step p x xs y ih false e m = (inr (ih m).0, (ih m).1)

  -- what is kept is a member that passes, and each such member is kept
  pub keep_in : (p : A → Bool) (xs : List A) (y : A) → y ∈ keep p xs → (y ∈ xs) × (p y ≡ true)
  unfolding keep
  keep_in p [] y m = absurd m
  keep_in p (x ∷ xs) y m = keep-step p x xs y (keep_in p xs y) (p x) refl m

  in_keep-step : (p : A → Bool) (x : A) (xs : List A) (y : A) → p y ≡ true → (y ∈ xs → y ∈ keep p xs) → (b : Bool) → p x ≡ b → y ∈ (x ∷ xs)
      → y ∈ cond b (x ∷ keep p xs) (keep p xs)
  in_keep-step p x xs y e ih true q (inl r) = inl r
  in_keep-step p x xs y e ih true q (inr m) = inr (ih m)
  in_keep-step p x xs y e ih false q (inl r) = absurd (true≢false (sym (ap p r) ∙ e) q)
  in_keep-step p x xs y e ih false q (inr m) = ih m

  pub in_keep : (p : A → Bool) (xs : List A) (y : A) → y ∈ xs → p y ≡ true → y ∈ keep p xs
  unfolding keep
  in_keep p [] y m e = absurd m
  in_keep p (x ∷ xs) y m e = in_keep-step p x xs y e (λ n. in_keep p xs y n e) (p x) refl m

  pub keep_all : (p : A → Bool) (xs : List A) → ((y : A) → y ∈ xs → p y ≡ true) → keep p xs ≡ xs
  unfolding keep
  keep_all p [] h = refl
  keep_all p (x ∷ xs) h = rw (h x (inl refl)) (ap {B = List A} (λ (r : List A). x ∷ r) (keep_all p xs (λ y m. h y (inr m))))

  pub keep_append : (p : A → Bool) (a b : List A) → keep p (a ++ b) ≡ keep p a ++ keep p b
  unfolding keep
  keep_append p [] b = refl
  keep_append p (x ∷ a) b = go (p x) (keep_append p a b)
    where
      go : (t : Bool) → keep p (a ++ b) ≡ keep p a ++ keep p b → cond t (x ∷ keep p (a ++ b)) (keep p (a ++ b)) ≡ cond t (x ∷ keep p a) (keep p a) ++ keep p b
      go true q = ap {B = List A} (λ (r : List A). x ∷ r) q
      go false q = q

  -- what passes one test after the other passes both
  pub keep-both : (p q r : A → Bool) → ((y : A) → cond (q y) (p y) false ≡ r y) → (xs : List A) → keep p (keep q xs) ≡ keep r xs
  unfolding keep
  keep-both p q r h [] = refl
  keep-both p q r h (x ∷ xs) = go (q x) refl (p x) refl (h x) (keep-both p q r h xs)
    where
      go : (a : Bool) → q x ≡ a → (b : Bool) → p x ≡ b → cond (q x) (p x) false ≡ r x → keep p (keep q xs) ≡ keep r xs
          → keep p (cond (q x) (x ∷ keep q xs) (keep q xs)) ≡ cond (r x) (x ∷ keep r xs) (keep r xs)
      go true e true f g ih = let k : r x ≡ true = sym g ∙ rw (e, f) in rw (e, f, k) (ap {B = List A} (λ (z : List A). x ∷ z) ih)
      go true e false f g ih = let k : r x ≡ false = sym g ∙ rw (e, f) in rw (e, f, k) ih
      go false e b f g ih = let k : r x ≡ false = sym g ∙ rw e in rw (e, k) ih

  -- ---- every, some
  pub some_none : (p : A → Bool) (xs : List A) → ((y : A) → y ∈ xs → p y ≡ false) → some_of p xs ≡ false
  unfolding some_of
  some_none p [] h = refl
  some_none p (x ∷ xs) h = rw (h x (inl refl)) (some_none p xs (λ y m. h y (inr m)))

  pub every_is : (p : A → Bool) (xs : List A) → ((y : A) → y ∈ xs → p y ≡ true) → every p xs ≡ true
  unfolding every
  every_is p [] h = refl
  every_is p (x ∷ xs) h = rw (h x (inl refl)) (every_is p xs (λ y m. h y (inr m)))

  -- all pass, and this is a member
  pub every_of : (p : A → Bool) (xs : List A) → every p xs ≡ true → (y : A) → y ∈ xs → p y ≡ true
  unfolding every
  every_of p [] e y m = absurd m
  every_of p (x ∷ xs) e y m = go (p x) refl e m (every_of p xs)
    where
      go : (b : Bool) → p x ≡ b → cond b (every p xs) false ≡ true → y ∈ (x ∷ xs) → (every p xs ≡ true → (z : A) → z ∈ xs → p z ≡ true) → p y ≡ true
      go true q f (inl r) ih = ap p r ∙ q
      go true q f (inr n) ih = ih f y n
      go false q f n ih = absurd (true≢false f refl)

  -- one member that passes is enough; and where some one passes there is such a member
  pub some_is : (p : A → Bool) (xs : List A) (y : A) → y ∈ xs → p y ≡ true → some_of p xs ≡ true
  unfolding some_of
  some_is p [] y m e = absurd m
  some_is p (x ∷ xs) y (inl r) e = rw (sym (ap p r) ∙ e)
  some_is p (x ∷ xs) y (inr m) e = go (p x) (some_is p xs y m e)
    where
      go : (b : Bool) → some_of p xs ≡ true → cond b true (some_of p xs) ≡ true
      go true q = refl
      go false q = q

  -- no one passes, so this member does not
  pub none_of : (p : A → Bool) (xs : List A) → some_of p xs ≡ false → (y : A) → y ∈ xs → p y ≡ false
  none_of p xs e y m = refuted (p y) (λ h. true≢false (some_is p xs y m h) e)

  pub some_in : (p : A → Bool) (xs : List A) → some_of p xs ≡ true → (y : A) × (y ∈ xs) × (p y ≡ true)
  unfolding some_of
  some_in p [] e = absurd (true≢false e refl)
  some_in p (x ∷ xs) e = go (p x) refl e (some_in p xs)
    where
      go : (b : Bool) → p x ≡ b → cond b true (some_of p xs) ≡ true → (some_of p xs ≡ true → (y : A) × (y ∈ xs) × (p y ≡ true)) → (y : A) × (y ∈ (x ∷ xs)) × (p y ≡ true)
      go true q f ih = (x, inl refl, q)
      go false q f ih = let r = ih f in (r.0, inr r.1, r.2)

  -- ---- first, last
  pub first_none : (p : A → Bool) (xs : List A) → ((y : A) → y ∈ xs → p y ≡ false) → first_of p xs ≡ none
  unfolding first_of
  first_none p [] h = refl
  first_none p (x ∷ xs) h = rw (h x (inl refl)) (first_none p xs (λ y m. h y (inr m)))

  -- where a member passes, the first that passes is found
  pub first_some : (p : A → Bool) (xs : List A) (y : A) → y ∈ xs → p y ≡ true → (z : A) × (first_of p xs ≡ some z) × (z ∈ xs) × (p z ≡ true)
  unfolding first_of
  first_some p [] y m e = absurd m
  first_some p (x ∷ xs) y m e = go (p x) refl m (λ n. first_some p xs y n e)
    where
      go : (b : Bool) → p x ≡ b → y ∈ (x ∷ xs) → (y ∈ xs → (z : A) × (first_of p xs ≡ some z) × (z ∈ xs) × (p z ≡ true))
          → (z : A) × (cond b (some x) (first_of p xs) ≡ some z) × (z ∈ (x ∷ xs)) × (p z ≡ true)
      go true q n ih = (x, refl, inl refl, q)
      go false q (inl r) ih = absurd (true≢false (sym (ap p r) ∙ e) q)
      go false q (inr n) ih = let r = ih n in (r.0, r.1, inr r.2, r.3)

  -- where all that pass are x
  pub first_only : (p : A → Bool) (xs : List A) (x : A) → x ∈ xs → p x ≡ true → ((y : A) → y ∈ xs → p y ≡ true → y ≡ x) → first_of p xs ≡ some x
  first_only p xs x m e h = let r = first_some p xs x m e in r.1 ∙ ap {B = Option A} some (h r.0 r.2 r.3)

  -- a list with a member has a last, which is a member
  pub last_some : (xs : List A) (y : A) → y ∈ xs → (z : A) × (get_last? xs ≡ some z) × (z ∈ xs)
  last_some [] y m = absurd m
  last_some (x ∷ []) y m = (x, refl, inl refl)
  last_some (x ∷ (w ∷ ws)) y m = let r = last_some (w ∷ ws) w (inl refl) in (r.0, r.1, inr r.2)

  pub last_append : (xs : List A) (y : A) → get_last? (xs ++ (y ∷ [])) ≡ some y
  last_append [] y = refl
  last_append (x ∷ []) y = refl
  last_append (x ∷ (w ∷ ws)) y = last_append (w ∷ ws) y

  pub last_in : (xs : List A) (z : A) → get_last? xs ≡ some z → z ∈ xs
  last_in [] z e = absurd (none≢some refl e)
  last_in (x ∷ []) z e = inl (cc)
  last_in (x ∷ (w ∷ ws)) z e = inr (last_in (w ∷ ws) z e)

  -- ---- best
  pub best_in : (over : A → A → Bool) (xs : List A) (z : A) → best over xs ≡ some z → z ∈ xs
  unfolding best better
  best_in over [] z e = absurd (none≢some refl e)
  best_in over (x ∷ xs) z e = go (best over xs) refl e (best_in over xs)
    where
      pin : (b : Bool) (y : A) → y ∈ xs → some (cond b y x) ≡ some z → z ∈ (x ∷ xs)
      pin true y m q = let r : y ≡ z = cc in inr (subst (λ (w : A). w ∈ xs) r m)
      pin false y m q = inl (cc)

      go : (o : Option A) → best over xs ≡ o → some (better over x o) ≡ some z → ((w : A) → best over xs ≡ some w → w ∈ xs) → z ∈ (x ∷ xs)
      go none q f ih = inl (cc)
      go (some y) q f ih = pin (over y x) y (ih y q) f

  -- a list with a member has a best, which is a member; where all are x, it is x
  pub best_some : (over : A → A → Bool) (xs : List A) (y : A) → y ∈ xs → (z : A) × (best over xs ≡ some z) × (z ∈ xs)
  unfolding best
  best_some over [] y m = absurd m
  best_some over (x ∷ xs) y m = (better over x (best over xs), refl, best_in over (x ∷ xs) _ refl)

  pub best-only : (over : A → A → Bool) (xs : List A) (x : A) → x ∈ xs → ((y : A) → y ∈ xs → y ≡ x) → best over xs ≡ some x
  best-only over xs x m h = let r = best_some over xs x m in r.1 ∙ ap {B = Option A} some (h r.0 r.2)

  pub best_none : (over : A → A → Bool) (xs : List A) → xs ≡ [] → best over xs ≡ none
  unfolding best
  best_none over xs e = rw e

  -- the best by a number is the greatest
  pub best-top : (f : A → ℕ) (xs : List A) (z : A) → best (λ (y x : A). leb (f x) (f y)) xs ≡ some z → (y : A) → y ∈ xs → f y ≤ f z
  unfolding best better
  best-top f [] z e y m = absurd m
  best-top f (x ∷ xs) z e y m = go (best (λ (y x : A). leb (f x) (f y)) xs) refl e (best-top f xs) m
    where
      pin : (w : A) (b : Bool) → leb (f x) (f w) ≡ b → ((v : A) → v ∈ xs → f v ≤ f w) → some (cond b w x) ≡ some z → y ∈ (x ∷ xs) → f y ≤ f z
      pin w true q h k (inl r) = let a : f w ≡ f z = ap f (cc) in let b : f y ≡ f x = ap f r in let c = leb-true (f x) (f w) q in omega arith
      pin w true q h k (inr n) = let a : f w ≡ f z = ap f (cc) in let b = h y n in omega arith
      pin w false q h k (inl r) = let a : f x ≡ f z = ap f (cc) in let b : f y ≡ f x = ap f r in omega arith
      pin w false q h k (inr n) = let a : f x ≡ f z = ap f (cc) in let b = h y n in let c = leb-false (f x) (f w) q in omega arith

      go : (o : Option A) → best (λ (y x : A). leb (f x) (f y)) xs ≡ o → some (better (λ (y x : A). leb (f x) (f y)) x o) ≡ some z
          → ((w : A) → best (λ (y x : A). leb (f x) (f y)) xs ≡ some w → (v : A) → v ∈ xs → f v ≤ f w) → y ∈ (x ∷ xs) → f y ≤ f z
      go none q k ih (inl r) = let a : f x ≡ f z = ap f (cc) in let b : f y ≡ f x = ap f r in omega arith
      go none q k ih (inr n) = absurd (none≢some q (best_some _ xs y n).1)
      go (some w) q k ih n = pin w (leb (f x) (f w)) refl (ih w q) k n
