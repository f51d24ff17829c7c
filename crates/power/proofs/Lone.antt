-- Stage 1 where one page at most is Active: that page alone changes its place, and is marked Full where it has no Empty entry. Assumes nothing.
use mathlib.Core.Path.{◌∙◌, ◌≡◌, ap, refl}
use mathlib.Core.Logic.{◌⊎◌, inl, inr, ⊎_elim}
use mathlib.Core.Bool.{Bool, cond, false, true}
use mathlib.Core.Option.{some}
use mathlib.Core.List.{List, [], ◌∷◌, map}
use Prim.Native.Nat.{◌+◌, ◌<◌, ℕ}
use borrow.Author.Tests.{eq-eqb, eqb-true}
use Rattle.page.specs.State.{state_of}
use Rattle.flash.specs.Step.{Step, sector}
use Rattle.item.specs.Mark.{mark_full}
use Rattle.lists.specs.Lists.{keep, sum_of, take_out}
use Rattle.lists.proofs.Sums.{sum-append, sum_one}
use Rattle.lists.proofs.Search.{best_in, keep_in, keep_none}
use Rattle.lists.proofs.Out.{in_out, out_in, out-other, sum-out}
use Rattle.lists.proofs.Member.{◌∈◌, in_append, in_left, in_right, refuted, true≢false}
use Rattle.table.specs.declared.Page.{Page}
use Rattle.table.specs.Table.{active, active_page, as_full, in_sector, pages, sectors_of}
use Rattle.table.proofs.Pages.{once, page_same, page-state, pages_in}
use Rattle.order.specs.Order.{kept, no_empty, order_list, order_steps, ordered, ordering}

-- one page at most is Active
unfoldable pub Lone : List ℕ → Type 0
Lone l = (u v : ℕ) → u < sectors_of l → v < sectors_of l → active (state_of (sector u l)) ≡ true → active (state_of (sector v l)) ≡ true → u ≡ v

-- a page that is listed as Active is Active
pub active_is : (l : List ℕ) (p : Page) → p ∈ pages l → active_page p ≡ true → active (state_of (sector p.sector l)) ≡ true
active_is l p m e = rw (page-state l p m) at e

-- the kept page as stage 1 leaves it
abbrev pub kept_as : Page → Page
kept_as a = cond (no_empty a) (as_full a) a

abbrev pub kept_mark : Page → List Step
kept_mark a = cond (no_empty a) (mark_full a.sector ∷ []) []

-- what stage 1 does, where a is the page that it keeps
pub record Kept (l : List ℕ) (a : Page) (ss : List Step) (ps : List Page) : Type 0 where
  pub steps : ss ≡ kept_mark a
  pub sums : (h : ℕ → ℕ) → sum_of (λ (p : Page). h p.sector) ps ≡ sum_of (λ (p : Page). h p.sector) (pages l)
  -- its members: the other pages as they were, and the kept one
  pub from : (p : Page) → p ∈ ps → ((p ∈ pages l) × (active_page p ≡ false)) ⊎ (p ≡ kept_as a)
  pub others : (p : Page) → p ∈ pages l → active_page p ≡ false → p ∈ ps
  pub itself : kept_as a ∈ ps

module _ (l : List ℕ) (L : Lone l) (a : Page) (q : kept (pages l) ≡ some a) where
  abbrev qs : List Page
  qs = take_out (in_sector a.sector) (pages l)

  -- the kept page is a listed Active one
  pub a_in : (a ∈ pages l) × (active_page a ≡ true)
  unfolding kept
  a_in = keep_in active_page (pages l) a (best_in _ (keep active_page (pages l)) a q)

  a_only : (y : Page) → y ∈ pages l → in_sector a.sector y ≡ true → y ≡ a
  a_only y m e = page_same l y a m a_in.0 (eqb-true y.sector a.sector e)

  -- an Active page is a
  active_a : (y : Page) → y ∈ pages l → active_page y ≡ true → y ≡ a
  unfolding Lone
  active_a y m e =
      page_same l y a m a_in.0 (L y.sector a.sector (pages_in l y m).1 (pages_in l a a_in.0).1 (active_is l y m e) (active_is l a a_in.0 a_in.1))

  a_self : in_sector a.sector a ≡ true
  a_self = eq-eqb a.sector a.sector refl

  q_active : (y : Page) → y ∈ qs → active_page y ≡ false
  q_active y m = refuted (active_page y) (λ e.
      let r = active_a y (out_in (in_sector a.sector) (pages l) y m) e in
      true≢false (ap {B = Bool} (λ (p : Page). in_sector a.sector p) r ∙ a_self) (out-other (in_sector a.sector) (pages l) a a_in.0 a_self (once l a.sector) a_only y m))

  as_is : (p : Page) → p ∈ qs → cond (active_page p) (as_full p) p ≡ p
  as_is p m = rw (q_active p m)

  same_list : (xs : List Page) → ((p : Page) → p ∈ xs → cond (active_page p) (as_full p) p ≡ p) → map (λ (p : Page). cond (active_page p) (as_full p) p) xs ≡ xs
  same_list [] h = refl
  same_list (x ∷ xs) h = rw (h x (inl refl), same_list xs (λ p m. h p (inr m)))

  sector_same : (b : Bool) → (cond b (as_full a) a).sector ≡ a.sector
  sector_same true = refl
  sector_same false = refl

  -- stage 1 does that
  pub kept_order : Kept l a (ordering (pages l)) (ordered (pages l))
  unfolding ordering ordered
  kept_order = rw q built
    where
      no-others : keep active_page qs ≡ []
      no-others = keep_none active_page qs q_active

      built : Kept l a (order_steps (pages l) (some a)) (order_list (pages l) (some a))
      built = unfold order_steps order_list in rw (no-others, same_list qs as_is) (record {
        steps = refl;
        sums = λ h. (let e = sum-out (in_sector a.sector) (λ (p : Page). h p.sector) (pages l) a a_in.0 a_self a_only in
            sum-append (λ (p : Page). h p.sector) qs (kept_as a ∷ [])
            ∙ ap (λ (n : ℕ). sum_of (λ (p : Page). h p.sector) qs + n)
            (sum_one (λ (p : Page). h p.sector) (kept_as a ∷ []) (kept_as a) refl ∙ ap h (sector_same (no_empty a)))
            ∙ e);
        from =
            λ p m. ⊎_elim (λ k. inl (out_in (in_sector a.sector) (pages l) p k, q_active p k)) (λ k. ⊎_elim (λ r. inr r) (λ r. absurd r) k)
            (in_append p qs (kept_as a ∷ []) m);
        others = λ p m e. in_left p qs _ (in_out (in_sector a.sector) (pages l) a p a_in.0 a_self m (not_a p e (in_sector a.sector p) refl m));
        itself = in_right (kept_as a) qs _ (inl refl);
      })
        where
          not_a : (p : Page) → active_page p ≡ false → (b : Bool) → in_sector a.sector p ≡ b → p ∈ pages l → b ≡ false
          not_a p e false r m = refl
          not_a p e true r m = absurd (true≢false (ap {B = Bool} (λ (p : Page). active_page p) (a_only p m r) ∙ a_in.1) e)
