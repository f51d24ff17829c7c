-- Stage 1 where nothing is to be finished; and where recovery makes no step at all, the items are calm. Assumes nothing.
use mathlib.Core.Path.{◌≡◌, ap, refl, sym}
use mathlib.Core.Logic.{◌⊎◌, inl, inr, ⊎_elim}
use mathlib.Core.Bool.{Bool, cond, false, true}
use mathlib.Core.Option.{Option, none, some}
use mathlib.Core.List.{List, [], ◌∷◌}
use Prim.Native.Nat.{◌<◌, ℕ}
use Rattle.entry.specs.States.{one}
use Rattle.page.specs.declared.state.PageState.{PageState}
use Rattle.page.specs.declared.state.PageState.TheVariants.{Active, Blank, Corrupt, Freeing, Full}
use Rattle.page.specs.State.{state_of}
use Rattle.flash.specs.Step.{Step, run, sector}
use Rattle.item.specs.Mark.{mark_full}
use Rattle.lists.specs.Lists.{sum_of}
use Rattle.lists.proofs.Sums.{sum-zero}
use Rattle.lists.proofs.Search.{best_none, keep_none}
use Rattle.lists.proofs.Member.{◌∈◌, nil_left, nil_right, true≢false}
use Rattle.table.specs.declared.Page.{Page}
use Rattle.table.specs.Table.{active, active_page, as_full, freeing, freeing_page, pages, sectors_of}
use Rattle.table.proofs.Pages.{page-state, pages_in}
use Rattle.order.specs.Order.{kept, no_empty, order_list, order_steps, ordered, ordering}
use Rattle.found.specs.Found.{found}
use Rattle.blobs.specs.Blobs.{blob_steps}
use Rattle.duplicates.specs.Duplicates.{duplicate_stage, duplicate_steps}
use Rattle.finishing.specs.Finishing.{freeings}
use Rattle.power.specs.Demand3.{total}
use Rattle.power.proofs.Lone.{Lone, a_in, active_is, kept_order}
use Rattle.power.proofs.Marks.{Marks}
use Rattle.quick.specs.Calm.{Calm}
use Rattle.quick.proofs.Idle.{calm_same}
use Rattle.power.proofs.Plain.{onward, order_on, plain, stages}
use Rattle.power.proofs.Calm.{Tidy, calm}
use Rattle.found.proofs.Spanned.{found_spanned}
use Rattle.power.proofs.Totals.{total_found}

-- where stages 3 and 4 make no step, nothing was to be erased
idle-stages : (ps : List Page) (l : List ℕ) → stages ps l ≡ [] → (blob_steps (found ps l) ≡ []) × (duplicate_steps (found ps l) ≡ [])
unfolding stages duplicate_stage run
idle-stages ps l e =
    let b : blob_steps (found ps l) ≡ [] = nil_left _ _ e in
    let d = nil_right (blob_steps (found ps l)) _ e in
    (b, nil_left _ _ (rw b at d))

-- no page counts as Freeing
pub freeings_none : (ps : List Page) → ((p : Page) → p ∈ ps → freeing_page p ≡ false) → freeings ps ≡ 0
unfolding freeings
freeings_none ps h = sum-zero (λ (p : Page). one (freeing_page p)) ps (λ p m. rw (h p m))

-- without an Active page stage 1 leaves the list
pub order_none : (l : List ℕ) → kept (pages l) ≡ none → (ordering (pages l) ≡ []) × (ordered (pages l) ≡ pages l)
unfolding ordering ordered order_steps order_list
order_none l e = rw e (refl, refl)

-- ---- an image without a Freeing page, and with one Active page at most
pub record Rest (l : List ℕ) : Type 0 where
  pub no-freeing : (u : ℕ) → u < sectors_of l → freeing (state_of (sector u l)) ≡ false
  pub lone : Lone l

-- neither Active nor Freeing
abbrev pub Still : PageState → Type 0
Still M = (active M ≡ false) × (freeing M ≡ false)

-- such an image is one of which every sector is still
pub still-rest : (l : List ℕ) → ((u : ℕ) → u < sectors_of l → Still (state_of (sector u l))) → Rest l
unfolding Lone
still-rest l h = record { no-freeing = λ u k. (h u k).1; lone = λ u v hu hv eu ev. absurd (true≢false eu (h u hu).0) }

-- what stage 1 gives there: it marks nothing, or the Active page, which has no Empty entry; and the list holds the same pages
pub record Ordered (l : List ℕ) (ss : List Step) (ps : List Page) : Type 0 where
  pub steps : Marks l ss
  pub sums : (h : ℕ → ℕ) → sum_of (λ (p : Page). h p.sector) ps ≡ sum_of (λ (p : Page). h p.sector) (pages l)
  pub no-freeing : (p : Page) → p ∈ ps → freeing_page p ≡ false
  pub is_active : (p : Page) → p ∈ ps → active_page p ≡ true → (ss ≡ []) × (active (state_of (sector p.sector l)) ≡ true)

pub active_inv : (M : PageState) → active M ≡ true → M ≡ Active
active_inv Blank e = absurd (true≢false e refl)
active_inv Corrupt e = absurd (true≢false e refl)
active_inv Active e = refl
active_inv Full e = absurd (true≢false e refl)
active_inv Freeing e = absurd (true≢false e refl)

module _ (l : List ℕ) (R : Rest l) where
  not-freeing : (p : Page) → p ∈ pages l → freeing_page p ≡ false
  not-freeing p m = rw (page-state l p m) (R.no-freeing p.sector (pages_in l p m).1)

  pub rest_order : Ordered l (ordering (pages l)) (ordered (pages l))
  rest_order = go (kept (pages l)) refl
    where
      with-kept : (a : Page) → (a ∈ pages l) × (active_page a ≡ true) → (b : Bool) (ss : List Step) (ps : List Page)
          → ss ≡ cond b (mark_full a.sector ∷ []) []
          → ((h : ℕ → ℕ) → sum_of (λ (p : Page). h p.sector) ps ≡ sum_of (λ (p : Page). h p.sector) (pages l))
          → ((p : Page) → p ∈ ps → ((p ∈ pages l) × (active_page p ≡ false)) ⊎ (p ≡ cond b (as_full a) a)) → Ordered l ss ps
      with-kept a i true ss ps e s f = record {
        steps = inr (a.sector, (pages_in l a i.0).1, active_inv _ (active_is l a i.0 i.1), e);
        sums = s;
        no-freeing = λ p m. ⊎_elim (λ k. not-freeing p k.0) (λ k. ap {B = Bool} (λ (z : Page). freeing_page z) k) (f p m);
        is_active = λ p m h. absurd (true≢false h (⊎_elim (λ k. k.1) (λ k. ap {B = Bool} (λ (z : Page). active_page z) k) (f p m)));
      }
      with-kept a i false ss ps e s f = record {
        steps = inl e;
        sums = s;
        no-freeing = λ p m. ⊎_elim (λ k. not-freeing p k.0) (λ k. rw k (not-freeing a i.0)) (f p m);
        is_active = λ p m h. (e, ⊎_elim (λ k. absurd (true≢false h k.1)) (λ k. rw k (active_is l a i.0 i.1)) (f p m));
      }

      go : (o : Option Page) → kept (pages l) ≡ o → Ordered l (ordering (pages l)) (ordered (pages l))
      go none q = let o = order_none l q in rw (o.0, o.1) (record { steps = inl refl; sums = λ h. refl; no-freeing = not-freeing; is_active = λ p m h. (refl, active_is l p m h) })
      go (some a) q = let K = kept_order l R.lone a q in with-kept a (a_in l R.lone a q) (no_empty a) _ _ K.steps K.sums K.from

  -- recovery goes to its last stages at once
  pub plain-rest : plain l ≡ order_on (pages l) l
  unfolding plain onward order_on
  plain-rest = let z = freeings_none (ordered (pages l)) rest_order.no-freeing in rw z

-- an image with neither Active nor Freeing page on which recovery makes no step
pub no-kept : (l : List ℕ) → ((p : Page) → p ∈ pages l → active_page p ≡ false) → kept (pages l) ≡ none
unfolding kept
no-kept l na = best_none _ _ (keep_none active_page (pages l) na)

stage_of_lem : (l : List ℕ) → ordering (pages l) ≡ [] → ordered (pages l) ≡ pages l → freeings (pages l) ≡ 0 → plain l ≡ [] → stages (pages l) l ≡ []
unfolding plain run onward
stage_of_lem l a o z e = rw (a, o, z) at e

-- so its items are calm
pub calm_stable : (l : List ℕ) → ((u : ℕ) → u < sectors_of l → active (state_of (sector u l)) ≡ false)
    → ((u : ℕ) → u < sectors_of l → freeing (state_of (sector u l)) ≡ false)
    → Tidy (found (pages l) l) → plain l ≡ [] → Calm (λ (f : List ℕ → ℕ). total f l)
calm_stable l na nf t e =
    let z : freeings (pages l) ≡ 0 = freeings_none (pages l) (λ p m. rw (page-state l p m) (nf p.sector (pages_in l p m).1)) in
    let o = order_none l (no-kept l (λ p m. rw (page-state l p m) (na p.sector (pages_in l p m).1))) in
    let s = idle-stages (pages l) l (stage_of_lem l o.0 o.1 z e) in
    calm_same (λ (f : List ℕ → ℕ). total f l) _ (λ f. sym (total_found f l)) (calm (found (pages l) l) t (found_spanned (pages l) l) s.0 s.1)
