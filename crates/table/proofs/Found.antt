-- What a chain of calls of an iterator finds, in the words of the definitions. Assumes nothing.
use Rattle.std.specs.Prelude.{Some, None}
use Rattle.std.specs.Prelude.{Option as Answer}
use Rattle.std.specs.Option.{option_copied, option_map}
use Rattle.std.specs.List.{slice_get, list_any, filter, find, position_or_len, fold}
use denote.Ref.{Bor}
use mathlib.Core.Path.{◌≡◌, refl, sym, ap, ◌∙◌}
use mathlib.Core.Bool.{Bool, true, false, cond, not, ◌||◌}
use mathlib.Core.List.{List, [], ◌∷◌, ◌++◌, get_last?, drop_last}
use mathlib.Core.Option.{Option, some, none}
use Prim.Native.Nat.{ℕ, suc, max, ◌+◌, ◌-◌, ◌≤◌, ◌<◌}
use native.Mathlib.Omega.{arith}
use lib.Dec.{ltb}
use lib.ListN.{length, get_or, set, take}
use borrow.Author.Tests.{ltb-true, ltb-false}
use Rattle.lists.specs.Lists.{keep, some_of, first_of, greatest, replace, out_with, take_out}
use lib.Seq.{length-take-le, take-suc}
use Rattle.lists.proofs.Member.{true≢false, none≢some}
use Rattle.lists.proofs.Search.{last_append}
use Rattle.table.specs.declared.Page.{Page}
use Rattle.table.specs.Sought.{sought_of}

module _ {A : Type 0} where
  drop_last_append : (xs : List A) (y : A) → drop_last (xs ++ (y ∷ [])) ≡ xs
  drop_last_append [] y = refl
  drop_last_append (x ∷ []) y = refl
  drop_last_append (x ∷ (w ∷ ws)) y = ap {B = List A} (λ (r : List A). x ∷ r) (drop_last_append (w ∷ ws) y)

  pub take-but_last : (xs : List A) → take (length xs - 1) xs ≡ drop_last xs
  take-but_last [] = refl
  take-but_last (x ∷ []) = refl
  take-but_last (x ∷ (y ∷ ys)) =
      let a : suc (suc (length ys)) - 1 ≡ suc (length ys) = omega arith in
      let b : length ys ≡ suc (length ys) - 1 = omega arith in
      ap (λ (n : ℕ). take n (x ∷ (y ∷ ys))) a ∙ ap {B = List A} (λ (r : List A). x ∷ r) (ap (λ (n : ℕ). take n (y ∷ ys)) b ∙ take-but_last (y ∷ ys))

  -- the last of the first k, and the others
  pub front : (xs : List A) (k : ℕ) (d : A) → k ≤ length xs → (k ≡ 0 → ⊥) → take k xs ≡ take (k - 1) xs ++ (get_or xs (k - 1) d ∷ [])
  front xs k d room one-or-more = let q : k ≡ suc (k - 1) = omega arith in ap (λ (n : ℕ). take n xs) q ∙ take-suc xs (k - 1) d (omega arith)

  pub fold_max : (f : A → ℕ) (g : ℕ) (xs : List A) → fold (λ a x. max a (f x)) g xs ≡ max g (greatest f xs)
  unfolding greatest
  fold_max f g [] = omega arith
  fold_max f g (x ∷ xs) = fold_max f (max g (f x)) xs ∙ omega arith

  module _ (p : A → Bool) where
    pub any_is : (xs : List A) → list_any p xs ≡ some_of p xs
    unfolding some_of
    any_is [] = refl
    any_is (x ∷ xs) = go (p x) (any_is xs)
      where
        go : (b : Bool) → list_any p xs ≡ some_of p xs → (b || list_any p xs) ≡ cond b true (some_of p xs)
        go true ih = refl
        go false ih = ih

    pub filtered : (xs : List A) → filter p xs ≡ keep p xs
    unfolding keep
    filtered [] = refl
    filtered (x ∷ xs) = ap {B = List A} (λ (r : List A). cond (p x) (x ∷ r) r) (filtered xs)

    -- of none there is none to take
    pub out_none : (xs : List A) → (0 < length xs → false ≡ true) → take_out p xs ≡ xs
    unfolding take_out out_with
    out_none [] e = refl
    out_none (x ∷ xs) e = absurd (true≢false refl (sym (e (omega arith))))

    -- z is the last of the list
    pub out_last : (ys : List A) (z : A) → take_out p (ys ++ (z ∷ [])) ≡ cond (p z) ys (replace p z ys)
    unfolding take_out out_with
    out_last ys z = rw (last_append ys z, drop_last_append ys z)

    -- z in the place of the first that passes
    pub replace_found : (z : A) (ys : List A) → position_or_len p ys < length ys → set ys (position_or_len p ys) z ≡ replace p z ys
    unfolding replace
    replace_found z [] h = absurd (omega arith)
    replace_found z (y ∷ ys) h = go (p y) h (replace_found z ys)
      where
        go : (b : Bool) → cond (not b) (1 + position_or_len p ys) 0 < length (y ∷ ys) → (position_or_len p ys < length ys → set ys (position_or_len p ys) z ≡ replace p z ys)
            → set (y ∷ ys) (cond (not b) (1 + position_or_len p ys) 0) z ≡ cond b (z ∷ ys) (y ∷ replace p z ys)
        go true k ih = refl
        go false k ih =
            let e : 1 + position_or_len p ys ≡ suc (position_or_len p ys) = omega arith in
            ap (λ (n : ℕ). set (y ∷ ys) n z) e ∙ ap {B = List A} (λ (r : List A). y ∷ r) (ih (omega arith))

    pub replace-none : (z : A) (ys : List A) → length ys ≤ position_or_len p ys → replace p z ys ≡ ys
    unfolding replace
    replace-none z [] h = refl
    replace-none z (y ∷ ys) h = go (p y) h (replace-none z ys)
      where
        go : (b : Bool) → length (y ∷ ys) ≤ cond (not b) (1 + position_or_len p ys) 0 → (length ys ≤ position_or_len p ys → replace p z ys ≡ ys)
            → cond b (z ∷ ys) (y ∷ replace p z ys) ≡ y ∷ ys
        go true k ih = absurd (omega arith)
        go false k ih = ap {B = List A} (λ (r : List A). y ∷ r) (ih (omega arith))

pub find_is : (p : Page → Bool) (xs : List Page) → find p xs ≡ sought_of (first_of p xs)
unfolding first_of
find_is p [] = refl
find_is p (x ∷ xs) = go (p x) (find_is p xs)
  where
    go : (b : Bool) → find p xs ≡ sought_of (first_of p xs) → cond {A = Answer Page} b (Some x) (find p xs) ≡ sought_of (cond b (some x) (first_of p xs))
    go true ih = refl
    go false ih = ih

pub copied_is : (o : Answer (Bor Page)) → option_copied o ≡ option_map (λ y. y.now) o
copied_is None = refl
copied_is (Some y) = refl

-- what a position says
pub place_found : (k n i : ℕ) → Some i ≡ cond (ltb k n) (Some k) None → (i ≡ k) × (k < n)
place_found k n i e = go (ltb k n) refl e
  where
    go : (b : Bool) → ltb k n ≡ b → Some i ≡ cond b (Some k) None → (i ≡ k) × (k < n)
    go true q r = (cc, ltb-true k n q)
    go false q r = absurd (let z : ◌≡◌ {A = ℕ} 0 1 = cc in omega arith)

pub place-none : (k n : ℕ) → None ≡ cond (ltb k n) (Some k) None → n ≤ k
place-none k n e = go (ltb k n) refl e
  where
    go : (b : Bool) → ltb k n ≡ b → None ≡ cond b (Some k) None → n ≤ k
    go true q r = absurd (let z : ◌≡◌ {A = ℕ} 0 1 = cc in omega arith)
    go false q r = omega (arith, ltb-false k n q)

-- what stands last
module _ {A : Type 0} where
  pub last_found : (xs : List A) (z : A) → slice_get xs (length xs - 1) ≡ Some z → get_last? xs ≡ some z
  last_found [] z e = absurd (let k : ◌≡◌ {A = ℕ} 0 1 = cc in omega arith)
  last_found (x ∷ []) z e = cc
  last_found (x ∷ (y ∷ ys)) z e =
      let a : suc (suc (length ys)) - 1 ≡ suc (suc (length ys) - 1) = omega arith in
      last_found (y ∷ ys) z (ap (slice_get (x ∷ (y ∷ ys))) (sym a) ∙ e)

  pub last-none : (xs : List A) → slice_get xs (length xs - 1) ≡ None → get_last? xs ≡ none
  last-none [] e = refl
  last-none (x ∷ []) e = absurd (let k : ◌≡◌ {A = ℕ} 0 1 = cc in omega arith)
  last-none (x ∷ (y ∷ ys)) e =
      let a : suc (suc (length ys)) - 1 ≡ suc (suc (length ys) - 1) = omega arith in
      last-none (y ∷ ys) (ap (slice_get (x ∷ (y ∷ ys))) (sym a) ∙ e)

  -- of one that is taken out the list is one shorter
  last-nothing : (xs : List A) → get_last? xs ≡ none → length xs ≡ 0
  last-nothing [] e = refl
  last-nothing (x ∷ []) e = absurd (none≢some e refl)
  last-nothing (x ∷ (y ∷ ys)) e = absurd (let k = last-nothing (y ∷ ys) e in omega arith)

  length-replace : (p : A → Bool) (z : A) (ys : List A) → length (replace p z ys) ≡ length ys
  unfolding replace
  length-replace p z [] = refl
  length-replace p z (y ∷ ys) = go (p y) (length-replace p z ys)
    where
      go : (b : Bool) → length (replace p z ys) ≡ length ys → length (cond b (z ∷ ys) (y ∷ replace p z ys)) ≡ length (y ∷ ys)
      go true q = refl
      go false q = ap suc q

  pub length-out : (p : A → Bool) (xs : List A) → length (take_out p xs) ≡ length xs - 1
  unfolding take_out out_with
  length-out p xs = go (get_last? xs) refl
    where
      one_less : length (drop_last xs) ≡ length xs - 1
      one_less = ap length (sym (take-but_last xs)) ∙ length-take-le (length xs - 1) xs (omega arith)

      pin : (z : A) (b : Bool) → length (cond b (drop_last xs) (replace p z (drop_last xs))) ≡ length xs - 1
      pin z true = one_less
      pin z false = length-replace p z (drop_last xs) ∙ one_less

      go : (o : Option A) → get_last? xs ≡ o → length (out_with p xs o) ≡ length xs - 1
      go none q = let k = last-nothing xs q in omega arith
      go (some z) q = pin z (p z)
