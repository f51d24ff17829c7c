-- A page of which all entries are Erased has no item. Assumes nothing.
use mathlib.Core.Path.{◌∙◌, ◌≡◌, ap, refl}
use mathlib.Core.Bool.{Bool, false, true}
use mathlib.Core.List.{List, []}
use Prim.Native.Nat.{◌+◌, ◌<◌, ◌≤◌, suc, zero, ℕ}
use native.Mathlib.Omega.{arith}
use lib.Dec.{eqb}
use borrow.Author.Tests.{eqb-false, eqb-true}
use Rattle.entry.specs.States.{count_of, count_state, one, state_at}
use Rattle.entry.proofs.Counting.{count-le}
use Rattle.page.specs.State.{is_free, state_of}
use Rattle.page.specs.Walk.{items_of, walk}
use Rattle.lists.proofs.Member.{cond_same}
use Rattle.page.proofs.Items.{no_item}

count-every : (f : ℕ → ℕ) (v m : ℕ) → count_of f v m ≡ m → (i : ℕ) → i < m → f i ≡ v
unfolding count_of
count-every f v zero e i k = absurd (omega arith)
count-every f v (suc m) e i k = go (eqb (f m) v) refl e (count-le v f m) (count-every f v m)
  where
    at : f m ≡ v → (count_of f v m ≡ m → (i : ℕ) → i < m → f i ≡ v) → count_of f v m ≡ m → (b : Bool) → eqb i m ≡ b → f i ≡ v
    at q ih g true z = ap f (eqb-true i m z) ∙ q
    at q ih g false z = let d : (i ≡ m → ⊥) = eqb-false i m z in ih g i (omega arith)

    go : (b : Bool) → eqb (f m) v ≡ b → count_of f v m + one b ≡ suc m → count_of f v m ≤ m → (count_of f v m ≡ m → (i : ℕ) → i < m → f i ≡ v) → f i ≡ v
    go true q g b ih = at (eqb-true (f m) v q) ih (omega arith) (eqb i m) refl
    go false q g b ih = absurd (omega arith)

-- no entry is Written: no item
walk_none : (T : List ℕ) (m i : ℕ) → ((e : ℕ) → e < 126 → state_at T e ≡ 0) → walk T m i ≡ []
unfolding walk
walk_none T zero i h = refl
walk_none T (suc m) i h = rw (no_item T i (λ k w. let e = h i k in omega arith)) (walk_none T m (i + 1) h)

-- all 126 are Erased
pub items_none : (T : List ℕ) → count_state T 0 ≡ 126 → items_of T ≡ []
unfolding items_of
items_none T e = rw (walk_none T 126 0 (count-every (state_at T) 0 126 e)) (cond_same (is_free (state_of T)))
