-- The page list has each sector that is no free one, once, with its record; the free list has the others. Assumes nothing.
use mathlib.Core.Path.{◌∙◌, ◌≡◌, ap, refl, sym}
use mathlib.Core.Logic.{inl, inr, ⊎_elim}
use mathlib.Core.Bool.{Bool, cond, false, true}
use mathlib.Core.List.{List, [], ◌++◌, ◌∷◌}
use Prim.Native.Nat.{◌+◌, ◌<◌, ◌≤◌, suc, zero, ℕ}
use native.Mathlib.Omega.{arith}
use lib.Dec.{eqb}
use lib.ListN.{length, length-append}
use borrow.Author.Tests.{eqb-false, eqb-true, ne_eqb}
use Rattle.entry.specs.States.{count_state, empty, one}
use Rattle.page.specs.declared.state.PageState.{PageState}
use Rattle.page.specs.State.{is_free, state_of}
use Rattle.page.specs.Walk.{items_of}
use Rattle.flash.specs.Step.{sector}
use Rattle.lists.specs.Lists.{sum_of, sum_to}
use Rattle.lists.proofs.Sums.{sum-append}
use Rattle.lists.proofs.Member.{◌∈◌, cond_same, in_append, in_left, in_right}
use Rattle.lists.proofs.Range.{sum_to-only}
use Rattle.table.specs.declared.Page.{Page}
use Rattle.table.specs.Table.{frees, frees_to, in_sector, items_in, page_at, pages, pages_to, sectors_of}
use Rattle.page.proofs.Fields.{seen_empty, seen_erased, seen_state}

module _ (l : List ℕ) where
  -- a page of the list is a sector that is not free, with its record
  pub pages_to_in : (n : ℕ) (p : Page) → p ∈ pages_to l n → (p ≡ page_at p.sector l) × (p.sector < n) × (is_free (state_of (sector p.sector l)) ≡ false)
  unfolding pages_to
  pages_to_in zero p m = absurd m
  pages_to_in (suc n) p m =
      ⊎_elim (λ k. let r = pages_to_in n p k in (r.0, omega (arith, r.1), r.2)) (λ k. go (is_free (state_of (sector n l))) refl k) (in_append p (pages_to l n) _ m)
    where
      go : (b : Bool) → is_free (state_of (sector n l)) ≡ b → p ∈ cond b [] (page_at n l ∷ [])
          → (p ≡ page_at p.sector l) × (p.sector < suc n) × (is_free (state_of (sector p.sector l)) ≡ false)
      go true q k = absurd k
      go false q (inl r) = rw r (refl, omega arith, q)
      go false q (inr k) = absurd k

  -- each such sector is in the list
  pub in_pages_to : (n u : ℕ) → u < n → is_free (state_of (sector u l)) ≡ false → page_at u l ∈ pages_to l n
  unfolding pages_to
  in_pages_to zero u h e = absurd (omega arith)
  in_pages_to (suc n) u h e = go (eqb u n) refl (in_pages_to n u)
    where
      go : (b : Bool) → eqb u n ≡ b → (u < n → is_free (state_of (sector u l)) ≡ false → page_at u l ∈ pages_to l n)
          → page_at u l ∈ (pages_to l n ++ cond (is_free (state_of (sector n l))) [] (page_at n l ∷ []))
      go true q ih = let r = eqb-true u n q in in_right (page_at u l) (pages_to l n) _ (rw (← r, e) (inl refl))
      go false q ih = let r : (u ≡ n → ⊥) = eqb-false u n q in in_left (page_at u l) (pages_to l n) _ (ih (omega arith) e)

  -- a sum over the list is one over the sectors
  pub sum-pages_to : (f : Page → ℕ) (n : ℕ) → sum_of f (pages_to l n) ≡ sum_to (λ (u : ℕ). cond (is_free (state_of (sector u l))) 0 (f (page_at u l))) n
  unfolding pages_to sum_to sum_of
  sum-pages_to f zero = refl
  sum-pages_to f (suc n) = sum-append f (pages_to l n) _ ∙ go (is_free (state_of (sector n l))) (sum-pages_to f n)
    where
      go : (b : Bool) → sum_of f (pages_to l n) ≡ sum_to (λ (u : ℕ). cond (is_free (state_of (sector u l))) 0 (f (page_at u l))) n
          → sum_of f (pages_to l n) + sum_of f (cond b [] (page_at n l ∷ [])) ≡ sum_to
          (λ (u : ℕ). cond (is_free (state_of (sector u l))) 0 (f (page_at u l))) n + cond b 0 (f (page_at n l))
      go true q = omega arith
      go false q = omega arith

  -- the free list has the free sectors, and all of them
  pub frees_to_in : (n u : ℕ) → u ∈ frees_to l n → (u < n) × (is_free (state_of (sector u l)) ≡ true)
  unfolding frees_to
  frees_to_in zero u m = absurd m
  frees_to_in (suc n) u m =
      ⊎_elim (λ k. let r = frees_to_in n u k in (omega (arith, r.0), r.1)) (λ k. go (is_free (state_of (sector n l))) refl k) (in_append u (frees_to l n) _ m)
    where
      go : (b : Bool) → is_free (state_of (sector n l)) ≡ b → u ∈ cond b (n ∷ []) [] → (u < suc n) × (is_free (state_of (sector u l)) ≡ true)
      go true q (inl r) = (omega arith, rw r q)
      go true q (inr k) = absurd k
      go false q k = absurd k

  pub in_frees_to : (n u : ℕ) → u < n → is_free (state_of (sector u l)) ≡ true → u ∈ frees_to l n
  unfolding frees_to
  in_frees_to zero u h e = absurd (omega arith)
  in_frees_to (suc n) u h e = go (eqb u n) refl (in_frees_to n u)
    where
      go : (b : Bool) → eqb u n ≡ b → (u < n → is_free (state_of (sector u l)) ≡ true → u ∈ frees_to l n)
          → u ∈ (frees_to l n ++ cond (is_free (state_of (sector n l))) (n ∷ []) [])
      go true q ih = let r = eqb-true u n q in in_right u (frees_to l n) _ (rw (← r, e) (inl refl))
      go false q ih = let r : (u ≡ n → ⊥) = eqb-false u n q in in_left u (frees_to l n) _ (ih (omega arith) e)

  -- the same of all sectors of the image
  pub pages_in : (p : Page) → p ∈ pages l → (p ≡ page_at p.sector l) × (p.sector < sectors_of l) × (is_free (state_of (sector p.sector l)) ≡ false)
  unfolding pages
  pages_in p m = pages_to_in (sectors_of l) p m

  -- what the record of a listed page says is read of its sector
  pub page-state : (p : Page) → p ∈ pages l → p.seen.state ≡ state_of (sector p.sector l)
  page-state p m = ap {B = PageState} (λ (q : Page). q.seen.state) (pages_in p m).0 ∙ seen_state (sector p.sector l)

  pub page-empty : (p : Page) → p ∈ pages l → p.seen.empty ≡ count_state (sector p.sector l) empty
  page-empty p m = let r = pages_in p m in ap {B = ℕ} (λ (q : Page). q.seen.empty) r.0 ∙ seen_empty (sector p.sector l) r.2

  pub page-erased : (p : Page) → p ∈ pages l → p.seen.erased ≡ count_state (sector p.sector l) 0
  page-erased p m = let r = pages_in p m in ap {B = ℕ} (λ (q : Page). q.seen.erased) r.0 ∙ seen_erased (sector p.sector l) r.2

  -- a page of the list is known by its sector
  pub page_same : (p q : Page) → p ∈ pages l → q ∈ pages l → p.sector ≡ q.sector → p ≡ q
  page_same p q m n e = (pages_in p m).0 ∙ ap (λ (u : ℕ). page_at u l) e ∙ sym (pages_in q n).0

  pub in_pages : (u : ℕ) → u < sectors_of l → is_free (state_of (sector u l)) ≡ false → page_at u l ∈ pages l
  unfolding pages
  in_pages u h e = in_pages_to (sectors_of l) u h e

  pub sum-pages : (f : Page → ℕ) → sum_of f (pages l) ≡ sum_to (λ (u : ℕ). cond (is_free (state_of (sector u l))) 0 (f (page_at u l))) (sectors_of l)
  unfolding pages
  sum-pages f = sum-pages_to f (sectors_of l)

  pub frees_in : (u : ℕ) → u ∈ frees l → (u < sectors_of l) × (is_free (state_of (sector u l)) ≡ true)
  unfolding frees
  frees_in u m = frees_to_in (sectors_of l) u m

  pub in_frees : (u : ℕ) → u < sectors_of l → is_free (state_of (sector u l)) ≡ true → u ∈ frees l
  unfolding frees
  in_frees u h e = in_frees_to (sectors_of l) u h e

  -- how many sectors are free
  pub length-frees_to : (n : ℕ) → length (frees_to l n) ≡ sum_to (λ (u : ℕ). one (is_free (state_of (sector u l)))) n
  unfolding frees_to sum_to
  length-frees_to zero = refl
  length-frees_to (suc n) = length-append (frees_to l n) _ ∙ go (is_free (state_of (sector n l))) (length-frees_to n)
    where
      go : (b : Bool) → length (frees_to l n) ≡ sum_to (λ (u : ℕ). one (is_free (state_of (sector u l)))) n
          → length (frees_to l n) + length (cond {A = List ℕ} b (n ∷ []) []) ≡ sum_to (λ (u : ℕ). one (is_free (state_of (sector u l)))) n + one b
      go true q = omega arith
      go false q = omega arith

  pub length-frees : length (frees l) ≡ sum_to (λ (u : ℕ). one (is_free (state_of (sector u l)))) (sectors_of l)
  unfolding frees
  length-frees = length-frees_to (sectors_of l)

  -- a sector stands in the list once
  pub once : (s : ℕ) → sum_of (λ (p : Page). cond (in_sector s p) 1 0) (pages l) ≤ 1
  once s =
      let a = sum-pages (λ (p : Page). cond (in_sector s p) 1 0) in
      let b = sum_to-only (λ (u : ℕ). cond (is_free (state_of (sector u l))) 0 (cond (eqb u s) 1 0)) (sectors_of l) s (λ u z k. rw (ne_eqb u s k) (cond_same (is_free (state_of (sector u l))))) in
      let c = cond_one (is_free (state_of (sector s l))) (eqb s s) in
      omega arith
    where
      cond_one : (b c : Bool) → cond b 0 (cond c 1 0) ≤ 1
      cond_one true c = omega arith
      cond_one false true = omega arith
      cond_one false false = omega arith

-- of a page that is listed the walk's items are all
pub listed-items : (u : ℕ) (l : List ℕ) → is_free (state_of (sector u l)) ≡ false → items_in u l ≡ items_of (sector u l)
unfolding items_in items_of
listed-items u l e = rw e
