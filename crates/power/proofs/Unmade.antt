-- Recovery where no target stands: the source is copied afresh, or erased where it has no items. Assumes nothing.
use mathlib.Core.Path.{◌∙◌, ◌≡◌, ap, refl}
use mathlib.Core.Logic.{◌⊎◌, ⊎_elim}
use mathlib.Core.Bool.{Bool, false, true}
use mathlib.Core.List.{List, [], ◌++◌, ◌∷◌}
use Prim.Native.Nat.{◌/◌, ◌<◌, ℕ}
use lib.Dec.{eqb}
use lib.ListN.{get_or, take}
use borrow.Author.Tests.{eqb-false, eqb-true}
use Rattle.page.specs.declared.state.PageState.TheVariants.{Freeing}
use Rattle.page.specs.Record.{seen_of}
use Rattle.page.specs.State.{is_free, state_of}
use Rattle.page.specs.Walk.{Laid, items_of}
use Rattle.flash.specs.Step.{Step, blank, erase, run, sector}
use Rattle.flash.proofs.Frame.{length_run}
use Rattle.relocate.specs.Move.{moving}
use Rattle.lists.proofs.Search.{last_some}
use Rattle.lists.proofs.Member.{◌∈◌, true≢false}
use Rattle.table.specs.declared.Page.{Page}
use Rattle.table.specs.Table.{active_page, freeing_page, frees, page_at, pages, sectors_of}
use Rattle.table.proofs.Pages.{frees_in, in_frees}
use Rattle.finish.specs.Finish.{round}
use Rattle.finishing.specs.Finishing.{freeings}
use Rattle.power.proofs.Runs.{Runs, rec_none}
use Rattle.power.proofs.Quiet.{no-kept}
use Rattle.power.proofs.Finish.{Seq, finish_one, junk-round}
use Rattle.relocate.proofs.Move.{move_cut, move_end}
use Rattle.item.proofs.Fresh.{blank_free}
use Rattle.power.proofs.Plain.{plain, rescan}
use Rattle.item.proofs.Shape.{raws}
use Rattle.power.proofs.Ends.{e_gone, one_step, room}
use Rattle.power.proofs.State.{AllFree, Good, Old, Side, Source, SourceRecord, State, freeings_one, junk, junk-page, old-full, old_in, source_in, source_record}
use Rattle.power.proofs.Steps.{Final, X-fine, cut-state, done_final, q_small, side_of, target_of}
use Rattle.relocate.proofs.Copies.{Ready, ready-items, ready-seq, ready_settled}

module _ (L : List ℕ) (s : ℕ) (G : Good L s) (small : (i : ℕ) → get_or L i 0 < 256) where
  abbrev n : ℕ
  n = sectors_of L

  abbrev X : List Laid
  X = items_of (sector s L)

  module _ (l : List ℕ) (D : Side L l s) (R : Source L l s) (t0 : ℕ) (h0 : t0 < n) (w0 : is_free (state_of (sector t0 L)) ≡ true) (F : AllFree L l) where
    abbrev nl : sectors_of l ≡ n
    nl = ap (λ (k : ℕ). k / 4096) D.len

    abbrev S : Page
    S = page_at s l

    K : SourceRecord L s (seen_of (sector s l))
    K = source_record L s G l D R

    from : (p : Page) → p ∈ pages l → (p ≡ S) ⊎ Old L s p
    from p m = junk-page L s G l D F p m

    no-active : (p : Page) → p ∈ pages l → active_page p ≡ false
    no-active p m =
        ⊎_elim (λ k. ap {B = Bool} (λ (z : Page). active_page z) k ∙ rw K.is_freeing) (λ k. rw (old-full L s G p k)) (from p m)

    only : (p : Page) → p ∈ pages l → freeing_page p ≡ true → p ≡ S
    only p m e = ⊎_elim (λ k. k) (λ k. absurd (true≢false e (rw (old-full L s G p k)))) (from p m)

    one_freeing : freeings (pages l) ≡ 1
    one_freeing = freeings_one L s G l D R only

    here : S ∈ pages l
    here = source_in L s G l D R

    -- recovery's steps are those of the one round, and what comes after
    by : (f : List Step) → (round S (pages l) (frees l) l).steps ≡ f → plain l ≡ f ++ rescan f l
    by f e =
        rec_none l (no-kept l no-active) one_freeing ∙ finish_one L s G (seen_of (sector s l)) K (pages l) (frees l) l here only one_freeing ∙ rw e

    state : State L s l
    state = junk D R t0 h0 w0 F

    free_l-L : (t : ℕ) → t < n → is_free (state_of (sector t l)) ≡ true → is_free (state_of (sector t L)) ≡ true
    free_l-L t h f = go (is_free (state_of (sector t L))) refl
      where
        two : (b : Bool) → eqb t s ≡ b → is_free (state_of (sector t L)) ≡ false → is_free (state_of (sector t L)) ≡ true
        two true k e = let z : state_of (sector t l) ≡ Freeing = ap (λ (v : ℕ). state_of (sector v l)) (eqb-true t s k) ∙ R.state in absurd (true≢false f (rw z))
        two false k e = let z = D.kept t h (eqb-false t s k) e in absurd (true≢false f (rw z e))

        go : (b : Bool) → is_free (state_of (sector t L)) ≡ b → is_free (state_of (sector t L)) ≡ true
        go true e = e
        go false e = two (eqb t s) refl e

    -- the source copied to t
    pub move_runs : (t q : ℕ) → t < n → is_free (state_of (sector t l)) ≡ true → Seq L q
        → ((k : ℕ) → State L s (run (take k (moving s t q X l)) l)) × Final L (run (moving s t q X l) l)
    move_runs t q h f Q =
        let w = free_l-L t h f in
        let ne : (s ≡ t → ⊥) = (λ e. true≢false w (rw e at G.page)) in
        let XF = X-fine L s G small in (
          λ k. cut-state L s G small l D R F t q h w Q (run (take k (moving s t q X l)) l) (length_run (take k (moving s t q X l)) l)
              (move_cut q X XF.0 XF.1 s t l (room L s G small l D.len t h) (room L s G small l D.len s G.here) ne f k),
          finish w ne (move_end q X XF.0 XF.1 s t l (room L s G small l D.len t h) (room L s G small l D.len s G.here) ne f),
        )
      where
        finish : is_free (state_of (sector t L)) ≡ true → (s ≡ t → ⊥)
            → ((u : ℕ) → (u ≡ t → ⊥) → (u ≡ s → ⊥) → sector u (run (moving s t q X l) l) ≡ sector u l) × Ready q (raws X)
            (sector t (run (moving s t q X l) l)) × (sector s (run (moving s t q X l) l) ≡ blank 4096)
            → Final L (run (moving s t q X l) l)
        finish w ne E =
            let m = run (moving s t q X l) l in
            let ln = length_run (moving s t q X l) l in
            let qs = q_small L s G small l D R F t q h w Q in
            done_final L s G small m t q (side_of L s G small l D R F t q h w Q m ln E.0) (rw E.2 blank_free)
            (target_of L s G small l D R F t q h w Q m ln E.0 (ready-seq q X (sector t m) qs E.1)) (ready_settled q X (sector t m) E.1) (ready-items q X (sector t m) E.1)

    -- recovery from there
    pub junk-runs : Runs L s l
    junk-runs =
        let la = last_some (frees l) t0 (in_frees l t0 (rw nl h0) (F t0 h0 w0)) in
        let fr = frees_in l la.0 la.2 in
        ⊎_elim
        (λ c.
        let Z = e_gone L s G small l D F c.1 in
        record { steps = erase s ∷ []; is = by (erase s ∷ []) c.0; cut = one_step L s G small l state Z.0; end = Z.1 })
        (λ c.
        let mv = move_runs la.0 c.0 (rw nl at fr.0) fr.1 c.1 in
        record { steps = moving s la.0 c.0 X l; is = by (moving s la.0 c.0 X l) c.2; cut = mv.0; end = mv.1 })
        (junk-round L s G (seen_of (sector s l)) K l D R (pages l) (frees l) from (old_in L s G l D) here la.0 la.1)
