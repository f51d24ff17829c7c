-- Membership, and what it is to be a member of lists put together. Assumes nothing.
use mathlib.Core.Path.{◌≡◌, refl}
use mathlib.Core.Logic.{◌⊎◌, inl, inr, ⊎_elim}
use mathlib.Core.Bool.{Bool, true, false, cond}
use mathlib.Core.Option.{Option, none, some}
use mathlib.Core.List.{List, [], ◌∷◌, ◌++◌}
use Prim.Native.Nat.{ℕ}
use native.Mathlib.Omega.{arith}

-- membership by recursion: every law takes the list, and a proof is matched by `inl`, `inr`
abbrev pub ◌∈◌ : {A : Type 0} → A → List A → Type 0
◌∈◌ x [] = ⊥
◌∈◌ x (y ∷ ys) = (x ≡ y) ⊎ (x ∈ ys)

infix 50 ◌∈◌
-- a test that chooses nothing
pub cond_same : {A : Type 0} (b : Bool) {x : A} → cond b x x ≡ x
cond_same true = refl
cond_same false = refl

-- no test has both answers, and no search finds both something and nothing
pub true≢false : {b : Bool} → b ≡ true → b ≡ false → ⊥
true≢false {b} p q = let z : ◌≡◌ {A = ℕ} 0 1 = cc in omega arith

pub none≢some : {A : Type 0} {o : Option A} {x : A} → o ≡ none → o ≡ some x → ⊥
none≢some {o} {x} p q = let z : ◌≡◌ {A = ℕ} 0 1 = cc in omega arith

-- a test that cannot have held
pub refuted : (b : Bool) → (b ≡ true → ⊥) → b ≡ false
refuted true h = absurd (h refl)
refuted false h = refl

module _ {A : Type 0} where
  -- a list with a member is not the empty one
  pub nil≢ : {x : A} {xs : List A} → x ∷ xs ≡ [] → ⊥
  nil≢ {x} {xs} p = let z : ◌≡◌ {A = ℕ} 0 1 = cc in omega arith

  -- where two lists put together are empty, each is
  pub nil_left : (a b : List A) → a ++ b ≡ [] → a ≡ []
  nil_left [] b e = refl
  nil_left (x ∷ a) b e = absurd (nil≢ e)

  pub nil_right : (a b : List A) → a ++ b ≡ [] → b ≡ []
  nil_right [] b e = e
  nil_right (x ∷ a) b e = absurd (nil≢ e)

  -- a member of either is a member of both together, and no others are
  pub in_left : (x : A) (a b : List A) → x ∈ a → x ∈ (a ++ b)
  in_left x [] b m = absurd m
  in_left x (y ∷ a) b (inl e) = inl e
  in_left x (y ∷ a) b (inr m) = inr (in_left x a b m)

  pub in_right : (x : A) (a b : List A) → x ∈ b → x ∈ (a ++ b)
  in_right x [] b m = m
  in_right x (y ∷ a) b m = inr (in_right x a b m)

  pub in_append : (x : A) (a b : List A) → x ∈ (a ++ b) → (x ∈ a) ⊎ (x ∈ b)
  in_append x [] b m = inr m
  in_append x (y ∷ a) b (inl e) = inl (inl e)
  in_append x (y ∷ a) b (inr m) = ⊎_elim (λ p. inl (inr p)) (λ p. inr p) (in_append x a b m)
