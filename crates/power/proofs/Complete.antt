-- Recovery where the target is Full and complete: the source is erased. Assumes nothing.
use mathlib.Core.Path.{◌∙◌, ◌≡◌, ap, refl, sym}
use mathlib.Core.Logic.{◌⊎◌, inl, inr, ⊎_elim}
use mathlib.Core.Bool.{Bool, false, true}
use mathlib.Core.List.{List, [], ◌∷◌}
use Prim.Native.Nat.{◌<◌, ℕ}
use lib.ListN.{get_or}
use Rattle.page.specs.declared.state.PageState.{PageState}
use Rattle.page.specs.declared.seen.Seen.{Seen}
use Rattle.page.specs.declared.state.PageState.TheVariants.{Full}
use Rattle.page.specs.Record.{seen_of}
use Rattle.page.specs.State.{is_free, state_of}
use Rattle.page.specs.Walk.{Laid, items_of}
use Rattle.flash.specs.Step.{erase, sector}
use Rattle.lists.proofs.Member.{◌∈◌, true≢false}
use Rattle.table.specs.declared.Page.{Page}
use Rattle.table.specs.Table.{active_page, freeing_page, frees, items_in, page_at, pages, sectors_of}
use Rattle.finishing.specs.Finishing.{freeings}
use Rattle.power.proofs.State.{Good, Old, Side, Source, SourceRecord, Target, TargetRecord, freeings_one, full, old-full, old_in, source_in, source_record, target_apart, target_in, target_page, target_record}
use Rattle.power.proofs.Runs.{Runs, rec_none}
use Rattle.power.proofs.Quiet.{no-kept}
use Rattle.power.proofs.Finish.{finish_one, full-round}
use Rattle.power.proofs.Plain.{finish_on, plain, rescan}
use Rattle.item.proofs.Shape.{raws}
use Rattle.power.proofs.Ends.{e_done, one_step}
use Rattle.table.proofs.Pages.{listed-items}

module _ (L : List ℕ) (s : ℕ) (G : Good L s) (small : (i : ℕ) → get_or L i 0 < 256) where
  abbrev n : ℕ
  n = sectors_of L

  abbrev X : List Laid
  X = items_of (sector s L)

  module _ (l : List ℕ) (t q : ℕ) (D : Side L l s) (R : Source L l s) (T : Target L l t q) (mk : state_of (sector t l) ≡ Full)
      (E : raws (items_of (sector t l)) ≡ raws X) where
    t_not_s : t ≡ s → ⊥
    t_not_s k = target_apart L l t q T s G.page (sym k)

    -- in whatever list the source and the target stand with such records, r and v
    module _ (r v : Seen) (K : SourceRecord L s r) (W : TargetRecord Full q v) where
      abbrev S : Page
      S = record { sector = s; seen = r }

      abbrev N : Page
      N = record { sector = t; seen = v }

      abbrev Which : Page → Type 0
      Which p = (p ≡ S) ⊎ ((p ≡ N) ⊎ Old L s p)

      not-source : (p : Page) → (p ≡ N) ⊎ Old L s p → p.seen.state ≡ Full
      not-source p (inl k) = ap {B = PageState} (λ (z : Page). z.seen.state) k ∙ W.in_state_lem
      not-source p (inr k) = old-full L s G p k

      -- no page of the list is Active, and the source alone is Freeing
      pub no-active : (p : Page) → Which p → active_page p ≡ false
      no-active p c = ⊎_elim (λ k. ap {B = Bool} (λ (z : Page). active_page z) k ∙ rw K.is_freeing) (λ k. rw (not-source p k)) c

      pub only : (p : Page) → Which p → freeing_page p ≡ true → p ≡ S
      only p c e = ⊎_elim (λ k. k) (λ k. absurd (true≢false e (rw (not-source p k)))) c

      -- the finish stage erases the source
      pub full-steps : (ps : List Page) (fs : List ℕ) → ((p : Page) → p ∈ ps → Which p)
          →
          ((u : ℕ) → u < n → (u ≡ s
          → ⊥) → is_free (state_of (sector u L)) ≡ false → page_at u L ∈ ps) → S ∈ ps → N ∈ ps → freeings ps ≡ 1 → finish_on ps fs l ≡ erase s ∷ rescan
          (erase s ∷ []) l
      full-steps ps fs from has here there o =
          let same : raws (items_in t l) ≡ raws (items_in s l) = rw (listed-items t l (rw mk), listed-items s l (rw R.state), R.items) E in
          let e = full-round L s G r K l t q Full v W t_not_s ps fs from has here there refl (record { above = T.above; bound = T.bound }) same in
          finish_one L s G r K ps fs l here (λ p m. only p (from p m)) o ∙ rw e

    -- recovery from there
    pub full_runs : Runs L s l
    full_runs =
        let r = seen_of (sector s l) in
        let v = seen_of (sector t l) in
        let K = source_record L s G l D R in
        let W = target_record L s G l D t q T Full mk refl in
        let from = target_page L s G l D t q T in
        let one_freeing = freeings_one L s G l D R (λ p m. only (seen_of (sector s l)) (seen_of (sector t l)) K W p (from p m)) in
        let e : plain l ≡ erase s ∷ rescan (erase s ∷ []) l =
        rec_none l (no-kept l (λ p m. no-active (seen_of (sector s l)) (seen_of (sector t l)) K W p (from p m))) one_freeing
        ∙ full-steps (seen_of (sector s l)) (seen_of (sector t l)) K W (pages l) (frees l) from (old_in L s G l D) (source_in L s G l D R)
        (target_in L s G l D t q T Full mk refl) one_freeing in
        let Z = e_done L s G small l D t q T mk E in
        record { steps = erase s ∷ []; is = e; cut = one_step L s G small l (full t q D R T mk E) Z.0; end = Z.1 }
