-- What stands in the two lists lies in the image; and taking a page out keeps that. Assumes nothing.
use mathlib.Core.Path.{◌≡◌, refl, sym, ap, ◌∙◌}
use mathlib.Core.Logic.{inl, inr}
use mathlib.Core.Bool.{Bool, true, false, cond}
use mathlib.Core.Option.{Option, none, some}
use mathlib.Core.List.{List, [], ◌∷◌, ◌++◌, get_last?, drop_last}
use Prim.Native.Nat.{ℕ, zero, suc, ◌+◌, ◌*◌, ◌≤◌, ◌<◌}
use native.Mathlib.Omega.{arith}
use lib.Dec.{eqb, ltb}
use lib.ListN.{length, get_or, length-append}
use borrow.Author.Tests.{eq-eqb, ltb-true}
use Rattle.entry.specs.States.{one}
use Rattle.lists.specs.Lists.{sum_of, greatest, replace, out_with, take_out}
use Rattle.lists.proofs.Member.{◌∈◌}
use Rattle.lists.proofs.Sums.{sum-ge, sum-append, greatest-ge, greatest-lt}
use Rattle.lists.proofs.Out.{sum_drop_last, sum-out, out_in}
use Rattle.table.specs.declared.Page.{Page}
use Rattle.table.specs.Table.{in_sector, sectors_of, sequence, as_full}
use Rattle.table.specs.PagesPlaced.{times_in, PagesPlaced}

-- an element of a list that is lent is a member of it
pub in_list : {A : Type 0} (xs ys : List A) → ys ≡ xs → (i : ℕ) (d : A) → i < length ys → get_or ys i d ∈ xs
in_list xs ys same i d h = rw same (there xs i (omega (arith, ap length same)))
  where
    there : (zs : List _) (k : ℕ) → k < length zs → get_or zs k d ∈ zs
    there [] k r = absurd (omega arith)
    there (z ∷ zs) zero r = inl refl
    there (z ∷ zs) (suc k) r = inr (there zs k (omega arith))

-- one that is taken out leaves no more of the others
module _ {A : Type 0} where
  sum-replace-le : (f : A → ℕ) (p : A → Bool) (z : A) (ys : List A) → sum_of f (replace p z ys) ≤ sum_of f ys + f z
  unfolding sum_of replace
  sum-replace-le f p z [] = omega arith
  sum-replace-le f p z (y ∷ ys) = go (p y) (sum-replace-le f p z ys)
    where
      go : (b : Bool) → sum_of f (replace p z ys) ≤ sum_of f ys + f z → sum_of f (cond b (z ∷ ys) (y ∷ replace p z ys)) ≤ f y + sum_of f ys + f z
      go true ih = omega arith
      go false ih = omega arith

  pub sum-out-le : (f : A → ℕ) (p : A → Bool) (xs : List A) → sum_of f (take_out p xs) ≤ sum_of f xs
  unfolding take_out out_with sum_of
  sum-out-le f p xs = go (get_last? xs) refl
    where
      pin : (z : A) → get_last? xs ≡ some z → (b : Bool) → sum_of f (cond b (drop_last xs) (replace p z (drop_last xs))) ≤ sum_of f xs
      pin z q true = let s = sum_drop_last f xs z q in omega arith
      pin z q false = let s = sum_drop_last f xs z q in let t = sum-replace-le f p z (drop_last xs) in omega arith

      go : (o : Option A) → get_last? xs ≡ o → sum_of f (out_with p xs o) ≤ sum_of f xs
      go none q = omega arith
      go (some z) q = pin z q (p z)

  -- a list is as long as its ones
  pub length-sum : (xs : List A) → length xs ≡ sum_of (λ (x : A). 1) xs
  unfolding sum_of
  length-sum [] = refl
  length-sum (x ∷ xs) = let q = length-sum xs in omega arith

  -- where one passes at most, all that pass are the same
  pub only : (p : A → Bool) (xs : List A) (x y : A) → sum_of (λ (z : A). one (p z)) xs ≤ 1 → x ∈ xs → p x ≡ true → y ∈ xs → p y ≡ true → y ≡ x
  unfolding sum_of
  only p [] x y h m e n f = absurd m
  only p (z ∷ zs) x y h (inl r) e (inl q) f = q ∙ sym r
  only p (z ∷ zs) x y h (inl r) e (inr n) f =
      let a : one (p z) ≡ 1 = ap one (ap p (sym r) ∙ e) in
      let b : one (p y) ≡ 1 = ap one f in
      let g = sum-ge (λ (w : A). one (p w)) zs y n in
      absurd (omega arith)
  only p (z ∷ zs) x y h (inr m) e (inl q) f =
      let a : one (p z) ≡ 1 = ap one (ap p (sym q) ∙ f) in
      let b : one (p x) ≡ 1 = ap one e in
      let g = sum-ge (λ (w : A). one (p w)) zs x m in
      absurd (omega arith)
  only p (z ∷ zs) x y h (inr m) e (inr n) f = only p zs x y (omega arith) m e n f

pub one_le : (b : Bool) → one b ≤ 1
one_le true = omega arith
one_le false = omega arith

pub one_cond : (b : Bool) → one b ≡ cond b 1 0
one_cond true = refl
one_cond false = refl

below_one : (u n : ℕ) → 1 ≤ one (ltb u n) → u < n
below_one u n h = go (ltb u n) refl h
  where
    go : (b : Bool) → ltb u n ≡ b → 1 ≤ one b → u < n
    go true e k = ltb-true u n e
    go false e k = absurd (omega arith)

module _ {n : ℕ} {ps : List Page} {fs : List ℕ} (h : PagesPlaced n ps fs) where
  pub page-below : (p : Page) → p ∈ ps → p.sector < n
  unfolding times_in
  page-below p m =
      let e : one (in_sector p.sector p) ≡ 1 = ap one (eq-eqb p.sector p.sector refl) in
      let g = sum-ge (λ (q : Page). one (in_sector p.sector q)) ps p m in
      below_one p.sector n (omega (arith, h.once p.sector))

  pub free_below : (s : ℕ) → s ∈ fs → s < n
  unfolding times_in
  free_below s m =
      let e : one (eqb s s) ≡ 1 = ap one (eq-eqb s s refl) in
      let g = sum-ge (λ (v : ℕ). one (eqb v s)) fs s m in
      below_one s n (omega (arith, h.once s))

  -- no free sector is a page's
  pub free_other : (p : Page) → p ∈ ps → (s : ℕ) → s ∈ fs → p.sector ≡ s → ⊥
  unfolding times_in
  free_other p m s k q =
      let e : one (in_sector s p) ≡ 1 = ap one (eq-eqb p.sector s q) in
      let d : one (eqb s s) ≡ 1 = ap one (eq-eqb s s refl) in
      let a = sum-ge (λ (r : Page). one (in_sector s r)) ps p m in
      let b = sum-ge (λ (v : ℕ). one (eqb v s)) fs s k in
      let c = one_le (ltb s n) in
      omega (arith, h.once s)

  -- a page that is taken out stands in the list no more
  pub out-times : (p : Page) → p ∈ ps → (f : Page → ℕ) → sum_of f (take_out (in_sector p.sector) ps) + f p ≡ sum_of f ps
  unfolding times_in
  out-times p m f =
      let e : in_sector p.sector p ≡ true = eq-eqb p.sector p.sector refl in
      let c = one_le (ltb p.sector n) in
      sum-out (in_sector p.sector) f ps p m e (λ y k g. only (in_sector p.sector) ps p y (omega (arith, h.once p.sector)) m e k g)

-- the source apart from the rest of the list, which it was taken out of
pub apart_placed : {n : ℕ} {ps : List Page} {fs : List ℕ} (x : Page) → PagesPlaced n ps fs → x ∈ ps → PagesPlaced n (x ∷ take_out (in_sector x.sector) ps) fs
unfolding times_in sum_of
apart_placed {n} {ps} {fs} x h m =
    record {
      once = λ u. let a = out-times h x m (λ (q : Page). one (in_sector u q)) in let b = h.once u in omega arith;
      sixteen = let a = out-times h x m (λ (q : Page). 1) in let b = length-sum (take_out (in_sector x.sector) ps) in let c = length-sum ps in omega (arith, h.sixteen);
    }

-- the list without the source
pub rest_placed : {n : ℕ} {ps : List Page} {fs : List ℕ} (x : Page) → PagesPlaced n (x ∷ ps) fs → PagesPlaced n ps fs
unfolding times_in sum_of
rest_placed x h = record { once = λ u. let a = h.once u in omega arith; sixteen = omega (arith, h.sixteen) }

-- beside the source, a page that is taken out joins the free sectors
pub freed_placed : {n : ℕ} {ps : List Page} {fs : List ℕ} (x y : Page) → PagesPlaced n (x ∷ ps) fs → y ∈ ps → PagesPlaced n (x ∷ take_out (in_sector y.sector) ps) (fs ++ (y.sector ∷ []))
unfolding times_in sum_of
freed_placed {n} {ps} {fs} x y h m =
    let r = rest_placed x h in
    record {
      once = λ u.
          let a = out-times r y m (λ (q : Page). one (in_sector u q)) in
          let b = sum-append (λ (v : ℕ). one (eqb v u)) fs (y.sector ∷ []) in
          let c = h.once u in
          omega arith;
      sixteen =
          let a = out-times r y m (λ (q : Page). 1) in
          let b = length-sum (take_out (in_sector y.sector) ps) in
          let c = length-sum ps in
          let d = length-append fs (y.sector ∷ []) in
          omega (arith, h.sixteen);
    }

-- the source joins the free sectors
pub source_placed : {n : ℕ} {ps : List Page} {fs : List ℕ} (x : Page) → PagesPlaced n (x ∷ ps) fs → PagesPlaced n ps (fs ++ (x.sector ∷ []))
unfolding times_in sum_of
source_placed {n} {ps} {fs} x h =
    record {
      once = λ u. let a = sum-append (λ (v : ℕ). one (eqb v u)) fs (x.sector ∷ []) in let b = h.once u in omega arith;
      sixteen = let a = length-append fs (x.sector ∷ []) in omega (arith, h.sixteen);
    }

-- it goes to the last of them, where a page stands then
pub moved_placed : {n : ℕ} {ps : List Page} {fs : List ℕ} (x p : Page) → PagesPlaced n (x ∷ ps) fs → get_last? fs ≡ some p.sector → PagesPlaced n (ps ++ (p ∷ [])) (drop_last fs ++ (x.sector ∷ []))
unfolding times_in sum_of
moved_placed {n} {ps} {fs} x p h e =
    record {
      once = λ u.
          let a = sum-append (λ (q : Page). one (in_sector u q)) ps (p ∷ []) in
          let b = sum-append (λ (v : ℕ). one (eqb v u)) (drop_last fs) (x.sector ∷ []) in
          let c = sum_drop_last (λ (v : ℕ). one (eqb v u)) fs p.sector e in
          let d = h.once u in
          omega arith;
      sixteen =
          let a = length-append ps (p ∷ []) in
          let b = length-append (drop_last fs) (x.sector ∷ []) in
          let c = sum_drop_last (λ (v : ℕ). 1) fs p.sector e in
          let d = length-sum (drop_last fs) in
          let f = length-sum fs in
          omega (arith, h.sixteen);
    }

-- it counts as Full, where it stood
pub full_placed : {n : ℕ} {ps : List Page} {fs : List ℕ} (x : Page) → PagesPlaced n (x ∷ ps) fs → PagesPlaced n (as_full x ∷ ps) fs
unfolding times_in sum_of
full_placed x h = record { once = h.once; sixteen = h.sixteen }

-- a page is taken out
pub out_placed : {n : ℕ} {ps : List Page} {fs : List ℕ} (p : Page → Bool) → PagesPlaced n ps fs → PagesPlaced n (take_out p ps) fs
unfolding times_in
out_placed {n} {ps} {fs} p h =
    record {
      once = λ u. let a = sum-out-le (λ (q : Page). one (in_sector u q)) p ps in let b = h.once u in omega arith;
      sixteen = let a = sum-out-le (λ (q : Page). 1) p ps in let b = length-sum (take_out p ps) in let c = length-sum ps in omega (arith, h.sixteen);
    }

-- its sector lies in an image of the same length
pub page-fits : {ps : List Page} {fs : List ℕ} (l m : List ℕ) → PagesPlaced (sectors_of l) ps fs → length m ≡ length l → (p : Page) → p ∈ ps → p.sector * 4096 + 4096 ≤ length m
page-fits l m h e p i = let b = page-below h p i in omega arith

pub free_fits : {ps : List Page} {fs : List ℕ} (l m : List ℕ) → PagesPlaced (sectors_of l) ps fs → length m ≡ length l → (s : ℕ) → s ∈ fs → s * 4096 + 4096 ≤ length m
free_fits l m h e s i = let b = free_below h s i in omega arith

-- a list without a page has no greater sequence
pub greatest-out : (p : Page → Bool) (ps : List Page) (b : ℕ) → 0 < b → greatest sequence ps < b → greatest sequence (take_out p ps) < b
greatest-out p ps b h g = greatest-lt sequence (take_out p ps) b h (λ y m. let a = greatest-ge sequence ps y (out_in p ps y m) in omega arith)
