-- The numbers of a list ascending are the members of the list. Assumes nothing.
use mathlib.Core.Path.{◌≡◌, refl, ap, subst}
use mathlib.Core.Logic.{inl, inr, ⊎_elim}
use mathlib.Core.Bool.{Bool, true, false, cond}
use mathlib.Core.Option.{Option, none, some}
use mathlib.Core.List.{List, [], ◌∷◌}
use Prim.Native.Nat.{ℕ, zero, suc, ◌≤◌, ◌<◌}
use native.Mathlib.Omega.{arith}
use lib.Dec.{leb, ltb, eqb}
use lib.ListN.{length}
use borrow.Author.Tests.{leb-true, leb-false, ltb-true, ltb-false, le-leb, lt-leb, eqb-true, eqb-false}
use Rattle.lists.specs.Lists.{sum_of, lesser, least_from, ascend_to, ascend_from, ascending}
use Rattle.lists.proofs.Member.{◌∈◌, none≢some}
use Rattle.lists.proofs.Sums.{sum-ge}

-- where the search finds none, all are below v
pub least_none : (v : ℕ) (cs : List ℕ) → least_from v cs ≡ none → (c : ℕ) → c ∈ cs → c < v
unfolding least_from
least_none v [] e c m = absurd m
least_none v (x ∷ xs) e c m = go (least_from v xs) refl e (least_none v xs)
  where
    two : (b : Bool) → leb v x ≡ b → least_from v xs ≡ none → cond b (some x) none ≡ none → ((k : ℕ) → k ∈ xs → k < v) → c < v
    two true q r f ih = absurd (none≢some f refl)
    two false q r f ih = ⊎_elim (λ k. let z = leb-false v x q in omega arith) (λ k. ih c k) m

    three : (b : Bool) (y : ℕ) → cond b (some (cond (ltb y x) y x)) (some y) ≡ none → ⊥
    three true y f = none≢some f refl
    three false y f = none≢some f refl

    go : (o : Option ℕ) → least_from v xs ≡ o → lesser v x o ≡ none → (least_from v xs ≡ none → (k : ℕ) → k ∈ xs → k < v) → c < v
    go none q f ih = two (leb v x) refl q f (ih q)
    go (some y) q f ih = absurd (three (leb v x) y f)

abbrev Least : ℕ → List ℕ → ℕ → Type 0
Least v cs w = (w ∈ cs) × (v ≤ w) × ((c : ℕ) → c ∈ cs → v ≤ c → w ≤ c)

-- what it finds is a member from v on, and the least of them
pub least_some : (v : ℕ) (cs : List ℕ) (w : ℕ) → least_from v cs ≡ some w → Least v cs w
unfolding least_from
least_some v [] w e = absurd (none≢some refl e)
least_some v (x ∷ xs) w e = go (least_from v xs) refl e (least_some v xs)
  where
    two : (b : Bool) → leb v x ≡ b → least_from v xs ≡ none → cond b (some x) none ≡ some w → Least v (x ∷ xs) w
    two true q r f =
        let k : w ≡ x = cc in
        let z = leb-true v x q in
        (inl k, omega arith, λ c m g. ⊎_elim (λ a. omega arith) (λ a. let n = least_none v xs r c a in omega arith) m)
    two false q r f = absurd (none≢some refl f)

    four : (b : Bool) (y : ℕ) → ltb y x ≡ b → v ≤ x → Least v xs y → cond b y x ≡ w → Least v (x ∷ xs) w
    four true y q h d f = let g = ltb-true y x q in subst (Least v (x ∷ xs)) f (inr d.0, d.1, λ c m k. ⊎_elim (λ a. omega arith) (λ a. d.2 c a k) m)
    four false y q h d f =
        let g = ltb-false y x q in subst (Least v (x ∷ xs)) f (inl refl, h, λ c m k. ⊎_elim (λ a. omega arith) (λ a. let n = d.2 c a k in omega arith) m)

    three : (b : Bool) (y : ℕ) → leb v x ≡ b → Least v xs y → cond b (some (cond (ltb y x) y x)) (some y) ≡ some w → Least v (x ∷ xs) w
    three true y q d f = four (ltb y x) y refl (leb-true v x q) d (cc)
    three false y q d f =
        let k : y ≡ w = cc in
        let g = leb-false v x q in
        subst (Least v (x ∷ xs)) k (inr d.0, d.1, λ c m h. ⊎_elim (λ a. absurd (omega arith)) (λ a. d.2 c a h) m)

    go : (o : Option ℕ) → least_from v xs ≡ o → lesser v x o ≡ some w → ((u : ℕ) → least_from v xs ≡ some u → Least v xs u) → Least v (x ∷ xs) w
    go none q f ih = two (leb v x) refl q f
    go (some y) q f ih = three (leb v x) y refl (ih y q) f

-- what the searches give are members; and each member from v on is given, where there are enough searches
pub ascend_in : (n v : ℕ) (cs : List ℕ) (c : ℕ) → c ∈ ascend_from n v cs → c ∈ cs
unfolding ascend_from ascend_to
ascend_in zero v cs c m = absurd m
ascend_in (suc n) v cs c m = go (least_from v cs) refl m (λ w. ascend_in n (suc w) cs c)
  where
    go : (o : Option ℕ) → least_from v cs ≡ o → c ∈ ascend_to (λ (w : ℕ). ascend_from n (suc w) cs) o → ((w : ℕ) → c ∈ ascend_from n (suc w) cs → c ∈ cs) → c ∈ cs
    go none q k ih = absurd k
    go (some w) q (inl r) ih = rw r (least_some v cs w q).0
    go (some w) q (inr k) ih = ih w k

-- and none of them is below v
pub ascend_from_lem : (n v : ℕ) (cs : List ℕ) (c : ℕ) → c ∈ ascend_from n v cs → v ≤ c
unfolding ascend_from ascend_to
ascend_from_lem zero v cs c m = absurd m
ascend_from_lem (suc n) v cs c m = go (least_from v cs) refl m (λ w. ascend_from_lem n (suc w) cs c)
  where
    go : (o : Option ℕ) → least_from v cs ≡ o → c ∈ ascend_to (λ (w : ℕ). ascend_from n (suc w) cs) o → ((w : ℕ) → c ∈ ascend_from n (suc w) cs → suc w ≤ c) → v ≤ c
    go none q k ih = absurd k
    go (some w) q (inl r) ih = let h = (least_some v cs w q).1 in omega arith
    go (some w) q (inr k) ih = let h = (least_some v cs w q).1 in let a = ih w k in omega arith

-- fewer pass a sharper test that a member fails
sum_less : (f g : ℕ → ℕ) (cs : List ℕ) (w : ℕ) → ((c : ℕ) → f c ≤ g c) → w ∈ cs → f w < g w → sum_of f cs < sum_of g cs
unfolding sum_of
sum_less f g [] w h m k = absurd m
sum_less f g (x ∷ xs) w h (inl r) k = let a : f w ≡ f x = ap f r in let b : g w ≡ g x = ap g r in let z = sum_mono f g xs h in omega arith
  where
    sum_mono : (f g : ℕ → ℕ) (xs : List ℕ) → ((c : ℕ) → f c ≤ g c) → sum_of f xs ≤ sum_of g xs
    sum_mono f g [] h = omega arith
    sum_mono f g (x ∷ xs) h = let a = h x in let b = sum_mono f g xs h in omega arith
sum_less f g (x ∷ xs) w h (inr m) k = let a = h x in let b = sum_less f g xs w h m k in omega arith

from_le : (v w c : ℕ) → v ≤ w → cond (leb (suc w) c) 1 0 ≤ cond (leb v c) 1 0
from_le v w c h = go (leb (suc w) c) refl
  where
    go : (b : Bool) → leb (suc w) c ≡ b → cond b 1 0 ≤ cond (leb v c) 1 0
    go true q = let z = leb-true (suc w) c q in let e : leb v c ≡ true = le-leb v c (omega arith) in rw e (omega arith)
    go false q = omega arith

pub in_ascend : (n v : ℕ) (cs : List ℕ) (c : ℕ) → c ∈ cs → v ≤ c → sum_of (λ (x : ℕ). cond (leb v x) 1 0) cs ≤ n → c ∈ ascend_from n v cs
unfolding ascend_from ascend_to
in_ascend zero v cs c m h s =
    let g = sum-ge (λ (x : ℕ). cond (leb v x) 1 0) cs c m in
    let e : ◌≡◌ {A = ℕ} (cond (leb v c) 1 0) 1 = rw (le-leb v c h) in
    absurd (omega arith)
in_ascend (suc n) v cs c m h s = go (least_from v cs) refl (λ w. in_ascend n (suc w) cs c m)
  where
    go : (o : Option ℕ) → least_from v cs ≡ o → ((w : ℕ) → suc w ≤ c → sum_of (λ (x : ℕ). cond (leb (suc w) x) 1 0) cs ≤ n → c ∈ ascend_from n (suc w) cs)
        → c ∈ ascend_to (λ (w : ℕ). ascend_from n (suc w) cs) o
    go none q ih = let z = least_none v cs q c m in absurd (omega arith)
    go (some w) q ih =
        let d = least_some v cs w q in
        let g = d.2 c m h in
        let e1 : ◌≡◌ {A = ℕ} (cond (leb (suc w) w) 1 0) 0 = rw (lt-leb (suc w) w (omega arith)) in
        let e2 : ◌≡◌ {A = ℕ} (cond (leb v w) 1 0) 1 = rw (le-leb v w d.1) in
        let z = sum_less (λ (x : ℕ). cond (leb (suc w) x) 1 0) (λ (x : ℕ). cond (leb v x) 1 0) cs w (λ x. from_le v w x d.1) d.0 (omega arith) in
        two (eqb c w) refl g z ih
      where
        two : (b : Bool) → eqb c w ≡ b → w ≤ c → sum_of (λ (x : ℕ). cond (leb (suc w) x) 1 0) cs < sum_of (λ (x : ℕ). cond (leb v x) 1 0) cs
            → ((w : ℕ) → suc w ≤ c → sum_of (λ (x : ℕ). cond (leb (suc w) x) 1 0) cs ≤ n → c ∈ ascend_from n (suc w) cs) → c ∈ (w ∷ ascend_from n (suc w) cs)
        two true r g z ih = inl (eqb-true c w r)
        two false r g z ih = let k : (c ≡ w → ⊥) = eqb-false c w r in inr (ih w (omega arith) (omega arith))

count_all : (cs : List ℕ) → sum_of (λ (x : ℕ). cond (leb 0 x) 1 0) cs ≤ length cs
unfolding sum_of
count_all [] = omega arith
count_all (x ∷ xs) = let e : ◌≡◌ {A = ℕ} (cond (leb 0 x) 1 0) 1 = rw (le-leb 0 x (omega arith)) in let q = count_all xs in omega arith

-- so the members of the list ascending are the members of the list
pub ascending_in : (cs : List ℕ) (c : ℕ) → c ∈ ascending cs → c ∈ cs
unfolding ascending
ascending_in cs c m = ascend_in (length cs) 0 cs c m

pub in_ascending : (cs : List ℕ) (c : ℕ) → c ∈ cs → c ∈ ascending cs
unfolding ascending
in_ascending cs c m = in_ascend (length cs) 0 cs c m (omega arith) (count_all cs)
