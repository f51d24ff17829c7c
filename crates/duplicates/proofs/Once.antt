-- "no item is erased twice in a stage": what `once_each` leaves of lists put together, and that it leaves a list whose items stand at different places as
-- it is. Assumes nothing.
use mathlib.Core.Path.{◌≡◌, refl, sym, ap, ◌∙◌}
use mathlib.Core.Logic.{inl, inr}
use mathlib.Core.Bool.{Bool, true, false, cond, not}
use mathlib.Core.List.{List, [], ◌∷◌, ◌++◌}
use Prim.Native.Nat.{ℕ, ◌≤◌}
use native.Mathlib.Omega.{arith}
use borrow.Author.Tests.{eq-eqb}
use Rattle.entry.specs.States.{one}
use Rattle.lists.specs.Lists.{keep, some_of, sum_of}
use Rattle.lists.proofs.Member.{◌∈◌, refuted}
use Rattle.lists.proofs.Search.{keep_in, keep_all, keep_append, keep-both}
use Rattle.lists.proofs.Sums.{sum-ge, sum-append}
use Rattle.table.proofs.Places.{only}
use Rattle.found.specs.Found.{Found}
use Rattle.duplicates.specs.Duplicates.{same_place, once_each}

-- those that stand where none of the seen ones stands
abbrev pub fresh : List Found → List Found → List Found
fresh seen ys = keep (λ (y : Found). not (some_of (λ (x : Found). same_place x y) seen)) ys

pub fresh_none : (ys : List Found) → fresh [] ys ≡ ys
unfolding some_of
fresh_none ys = keep_all (λ (y : Found). true) ys (λ y m. refl)

pub fresh_end : (seen : List Found) → fresh seen [] ≡ []
unfolding keep
fresh_end seen = refl

pub fresh_item : (seen : List Found) (y : Found) (ys : List Found) → some_of (λ (x : Found). same_place x y) seen ≡ false → fresh seen (y ∷ ys) ≡ y ∷ fresh seen ys
unfolding keep
fresh_item seen y ys e = rw e

-- one more was seen
fresh_more : (x : Found) (seen ys : List Found) → keep (λ (y : Found). not (same_place x y)) (fresh seen ys) ≡ fresh (x ∷ seen) ys
unfolding some_of
fresh_more x seen ys =
    keep-both (λ (y : Found). not (same_place x y)) (λ (y : Found). not (some_of (λ (z : Found). same_place z y) seen)) (λ (y : Found). not (cond (same_place x y) true (some_of (λ (z : Found). same_place z y) seen)))
    (λ y. go (same_place x y) (some_of (λ (z : Found). same_place z y) seen)) ys
  where
    go : (a b : Bool) → cond (not b) (not a) false ≡ not (cond a true b)
    go true true = refl
    go true false = refl
    go false true = refl
    go false false = refl

pub fresh-append : (a b ys : List Found) → fresh a (fresh b ys) ≡ fresh (a ++ b) ys
fresh-append [] b ys = fresh_none (fresh b ys)
fresh-append (x ∷ a) b ys =
    sym (fresh_more x a (fresh b ys)) ∙ ap (keep (λ (y : Found). not (same_place x y))) (fresh-append a b ys) ∙ fresh_more x (a ++ b) ys

pub once-append : (a b : List Found) → once_each (a ++ b) ≡ once_each a ++ fresh a (once_each b)
unfolding once_each
once-append [] b = sym (fresh_none (once_each b))
once-append (x ∷ a) b =
    ap {B = List Found} (λ (ys : List Found). x ∷ ys) (
    ap (keep (λ (y : Found). not (same_place x y))) (once-append a b)
    ∙ keep_append (λ (y : Found). not (same_place x y)) (once_each a) (fresh a (once_each b))
    ∙ ap (λ (ys : List Found). keep (λ (y : Found). not (same_place x y)) (once_each a) ++ ys) (fresh_more x a (once_each b))
    )

pub once-alone : (x : Found) → once_each (x ∷ []) ≡ x ∷ []
unfolding once_each keep
once-alone x = refl

pub once_in : (xs : List Found) (z : Found) → z ∈ once_each xs → z ∈ xs
unfolding once_each
once_in [] z m = absurd m
once_in (x ∷ xs) z (inl e) = inl e
once_in (x ∷ xs) z (inr k) = inr (once_in xs z (keep_in _ (once_each xs) z k).0)

-- ---- items at different places
pub record Once (fs : List Found) : Type 0 where
  pub times : (z : Found) → sum_of (λ (x : Found). one (same_place x z)) fs ≤ 1

pub once-fewer : (fs xs : List Found) → ((f : Found → ℕ) → sum_of f xs ≤ sum_of f fs) → Once fs → Once xs
once-fewer fs xs h o = record { times = λ z. let a = h (λ (x : Found). one (same_place x z)) in let b = o.times z in omega arith }

pub same_self : (x : Found) → same_place x x ≡ true
same_self x = rw (eq-eqb x.sector x.sector refl, eq-eqb x.entry x.entry refl)

-- of a list in two parts, none of the first stands where one of the second stands
pub once-other : (a b : List Found) (x y : Found) → Once (a ++ b) → x ∈ a → y ∈ b → same_place x y ≡ false
once-other a b x y o m n =
    refuted (same_place x y) (λ e.
    let f : Found → ℕ = λ (z : Found). one (same_place z y) in
    let p : one (same_place x y) ≡ 1 = ap one e in
    let q : one (same_place y y) ≡ 1 = ap one (same_self y) in
    let u = sum-ge f a x m in
    let v = sum-ge f b y n in
    let w = sum-append f a b in
    let s = o.times y in
    omega arith)

pub once-only : (fs : List Found) (x y : Found) → Once fs → x ∈ fs → y ∈ fs → same_place x y ≡ true → x ≡ y
once-only fs x y o m n e = sym (only (λ (z : Found). same_place z y) fs x y (o.times y) m e n (same_self y))

-- the first and the rest
pub once-rest : (x : Found) (xs : List Found) → Once (x ∷ xs) → Once xs
unfolding sum_of
once-rest x xs o = once-fewer (x ∷ xs) xs (λ f. omega arith) o

pub once_first : (x : Found) (xs : List Found) → Once (x ∷ xs) → (y : Found) → y ∈ xs → same_place x y ≡ false
once_first x xs o y m = once-other (x ∷ []) xs x y o (inl refl) m

pub once_same : (xs : List Found) → Once xs → once_each xs ≡ xs
unfolding once_each
once_same [] o = refl
once_same (x ∷ xs) o =
    ap {B = List Found} (λ (ys : List Found). x ∷ ys) (
    ap (keep (λ (y : Found). not (same_place x y))) (once_same xs (once-rest x xs o))
    ∙ keep_all (λ (y : Found). not (same_place x y)) xs (λ y m. ap not (once_first x xs o y m))
    )
