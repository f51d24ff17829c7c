-- Comparisons a turn at a time: of two lists of bytes, and of the items that a walk has yet to meet; and what the two comparisons of stage 2 are.
-- Assumes nothing.
use mathlib.Core.Path.{◌≡◌, refl, sym, ap, ◌∙◌}
use mathlib.Core.Bool.{Bool, true, false, cond, not, ◌&&◌}
use mathlib.Core.List.{List, [], ◌∷◌}
use Prim.Native.Nat.{ℕ, zero, suc, ◌+◌, ◌-◌, ◌*◌, ◌≤◌}
use native.Mathlib.Omega.{arith}
use lib.Dec.{eqb}
use lib.Pointwise.{pointwise}
use lib.ListN.{take, drop}
use lib.Seq.{get_or-take, take-take, take-nil}
use Rattle.word.specs.Number.{part}
use Rattle.entry.specs.Fields.{entry_at, span_of}
use Rattle.page.specs.Walk.{Laid, laid_at, is_item, walk}
use Rattle.page.proofs.Walking.{item_span, walk_item, walk_skip, walk-past}
use Rattle.lists.specs.Lists.{every, some_of}
use Rattle.finish.specs.declared.judge.Alike.{Alike}
use Rattle.finish.specs.declared.judge.Alike.TheVariants.{Header, Name}
use Rattle.finish.specs.Finish.{same_bytes, copy_of, name_of, holds_all}
use Rattle.finish.specs.Alike.{alike_by, some_item, some_like, all_like}

-- ---- bytes

-- what `==` says of two slices
pub same_is : (a b : List ℕ) → pointwise eqb a b ≡ same_bytes a b
unfolding same_bytes
same_is [] [] = refl
same_is [] (y ∷ ys) = refl
same_is (x ∷ xs) [] = refl
same_is (x ∷ xs) (y ∷ ys) = go (eqb x y) (same_is xs ys)
  where
    go : (b : Bool) → pointwise eqb xs ys ≡ same_bytes xs ys → (b && pointwise eqb xs ys) ≡ cond b (same_bytes xs ys) false
    go true ih = ih
    go false ih = refl

-- ---- the items of a walk

-- the header of an item is its entry
pub raw-header : (t : List ℕ) (i : ℕ) → is_item t i ≡ true → take 32 (laid_at t i).raw ≡ entry_at t i
raw-header t i e = let s = item_span t i e in take-take 32 (span_of (entry_at t i) * 32) _ (omega arith)

-- the part of a sector that is lent as entry i
pub lent-entry : (t : List ℕ) (i : ℕ) → part t (64 + i * 32) (64 + i * 32 + 32 - (64 + i * 32)) ≡ entry_at t i
lent-entry t i = let n : 64 + i * 32 + 32 - (64 + i * 32) ≡ 32 = omega arith in rw n

module _ (p : List ℕ → Bool) (t : List ℕ) (i : ℕ) where
  item_turn : is_item t i ≡ true → some_item p (walk t 126 i) ≡ cond (p (entry_at t i)) true (some_item p (walk t 126 (i + span_of (entry_at t i))))
  unfolding some_item some_of
  item_turn e = rw (walk_item t i e, raw-header t i e)

  pub item_here : is_item t i ≡ true → p (entry_at t i) ≡ true → some_item p (walk t 126 i) ≡ true
  item_here e q = item_turn e ∙ rw q

  pub item_on : is_item t i ≡ true → p (entry_at t i) ≡ false → some_item p (walk t 126 i) ≡ some_item p (walk t 126 (i + span_of (entry_at t i)))
  item_on e q = item_turn e ∙ rw q

  pub item_skip : is_item t i ≡ false → some_item p (walk t 126 i) ≡ some_item p (walk t 126 (i + 1))
  item_skip e = ap (some_item p) (walk_skip t i e)

  pub item_end : 126 ≤ i → some_item p (walk t 126 i) ≡ false
  unfolding some_item some_of
  item_end g = rw (walk-past t 126 i g)

-- some item is like h, and each is where none is not
pub some_is : (k : Alike) (h : List ℕ) (ys : List Laid) → some_item (alike_by k h) ys ≡ some_like k h ys
unfolding some_item some_like
some_is k h ys = refl

pub all_is : (k : Alike) (xs ys : List Laid) → not (some_item (λ h. not (some_like k h ys)) xs) ≡ all_like k xs ys
unfolding some_item some_of all_like every
all_is k [] ys = refl
all_is k (x ∷ xs) ys = go (some_like k (take 32 x.raw) ys) (all_is k xs ys)
  where
    go : (b : Bool) → not (some_of (λ (z : Laid). not (some_like k (take 32 z.raw) ys)) xs) ≡ every (λ (z : Laid). some_like k (take 32 z.raw) ys) xs
        → not (cond (not b) true (some_of (λ (z : Laid). not (some_like k (take 32 z.raw) ys)) xs)) ≡ cond b (every (λ (z : Laid). some_like k (take 32 z.raw) ys) xs) false
    go true ih = ih
    go false ih = refl

-- ---- the two comparisons

pub copy_is : (ys xs : List Laid) → all_like Header ys xs ≡ copy_of ys xs
unfolding all_like some_like alike_by copy_of
copy_is ys xs = refl

drop-take : (m n k : ℕ) (xs : List ℕ) → k ≡ m + n → drop m (take k xs) ≡ take n (drop m xs)
drop-take zero n k xs e = let q : k ≡ n = omega arith in rw q
drop-take (suc m) n zero xs e = absurd (omega arith)
drop-take (suc m) n (suc k) [] e = sym (take-nil n)
drop-take (suc m) n (suc k) (x ∷ xs) e = drop-take m n k xs (omega arith)

name-header : (r : List ℕ) → name_of (take 32 r) ≡ name_of r
unfolding name_of
name-header r = rw (get_or-take 32 r 0 0 (omega arith), get_or-take 32 r 3 0 (omega arith), drop-take 8 24 32 r (omega arith), take-take 16 24 (drop 8 r) (omega arith))

module _ {A : Type 0} (p q : A → Bool) (h : (x : A) → p x ≡ q x) where
  every_same : (xs : List A) → every p xs ≡ every q xs
  unfolding every
  every_same [] = refl
  every_same (x ∷ xs) = rw (h x, every_same xs)

  some_same : (xs : List A) → some_of p xs ≡ some_of q xs
  unfolding some_of
  some_same [] = refl
  some_same (x ∷ xs) = rw (h x, some_same xs)

pub holds_is : (ys xs : List Laid) → all_like Name xs ys ≡ holds_all ys xs
unfolding all_like some_like alike_by holds_all
holds_is ys xs = every_same _ _ (λ x. some_same _ _ (λ y. rw (name-header x.raw, name-header y.raw)) ys) xs
