-- Recovery where the target is Active: with an Empty entry it is a copy, which is erased and made anew; with none it is complete, and is marked Full.
-- Assumes nothing.
use mathlib.Core.Path.{◌∙◌, ◌≡◌, ap, refl, sym}
use mathlib.Core.Logic.{◌⊎◌, inl, inr, ⊎_elim}
use mathlib.Core.Bool.{Bool, cond, false, true}
use mathlib.Core.Option.{some}
use mathlib.Core.List.{List, [], ◌++◌, ◌∷◌}
use Prim.Native.Nat.{◌<◌, ◌≤◌, suc, zero, ℕ}
use lib.Dec.{eqb}
use lib.ListN.{get_or, take}
use borrow.Author.Tests.{eqb-false, eqb-true}
use Rattle.entry.specs.States.{one}
use Rattle.page.specs.declared.state.PageState.{PageState}
use Rattle.page.specs.declared.state.PageState.TheVariants.{Active, Blank, Corrupt, Freeing, Full}
use Rattle.page.specs.Record.{seen_of}
use Rattle.page.specs.State.{is_free, state_of}
use Rattle.page.specs.Walk.{Laid, items_of}
use Rattle.flash.specs.Step.{Step, erase, run, sector}
use Rattle.flash.proofs.Frame.{length_run, sector-kept, erase_in}
use Rattle.item.specs.Mark.{mark_full}
use Rattle.relocate.specs.Move.{moving}
use Rattle.lists.specs.Lists.{keep, sum_of}
use Rattle.lists.proofs.Sums.{sum_ext}
use Rattle.lists.proofs.Search.{best-only, in_keep, keep_in}
use Rattle.lists.proofs.Member.{◌∈◌, true≢false}
use Rattle.table.specs.declared.Page.{Page}
use Rattle.table.specs.Table.{active, active_page, as_full, freeing, freeing_page, frees, in_sector, items_in, page_at, pages, sectors_of}
use Rattle.page.proofs.Fields.{seen_state}
use Rattle.table.proofs.Pages.{in_pages, once, page-empty, page-state, listed-items}
use Rattle.order.specs.Order.{kept, no_empty, ordered, ordering}
use Rattle.finish.specs.Finish.{copy_of}
use Rattle.finishing.specs.Finishing.{freeings}
use Rattle.power.proofs.State.{AllFree, Good, Old, Side, Source, SourceRecord, State, Target, TargetRecord, freeings_one, full, n_same, old-full, old_in, partly, source_in, source_record, target_apart, target_in, target_page, target_record}
use Rattle.relocate.proofs.Copies.{Partial}
use Rattle.power.proofs.Runs.{Runs, rec_some, run-nil, run_one}
use Rattle.power.proofs.Lone.{Kept, Lone, kept_order, kept_as}
use Rattle.power.proofs.Complete.{full-steps}
use Rattle.power.proofs.Unmade.{move_runs}
use Rattle.power.proofs.Finish.{finish_one, part-round}
use Rattle.page.proofs.Read.{no_room}
use Rattle.power.proofs.Marks.{m_full, m_items, m_others, m_sequence}
use Rattle.item.proofs.Fresh.{blank_free}
use Rattle.flash.proofs.Erased.{erased-blank}
use Rattle.power.proofs.Plain.{finish_on, plain, rescan}
use Rattle.item.proofs.Shape.{raws}
use Rattle.power.proofs.Ends.{e_done, one_step, room}
use Rattle.power.proofs.Same.{copy_is}
use Rattle.power.proofs.Steps.{Final}

module _ (L : List ℕ) (s : ℕ) (G : Good L s) (small : (i : ℕ) → get_or L i 0 < 256) where
  abbrev n : ℕ
  n = sectors_of L

  abbrev X : List Laid
  X = items_of (sector s L)

  module _ (l : List ℕ) (t q : ℕ) (D : Side L l s) (R : Source L l s) (T : Target L l t q) (mk : state_of (sector t l) ≡ Active)
      (P : Partial (sector s L) (sector t l)) where
    abbrev S : Page
    S = page_at s l

    abbrev N : Page
    N = page_at t l

    K : SourceRecord L s (seen_of (sector s l))
    K = source_record L s G l D R

    W : TargetRecord Active q (seen_of (sector t l))
    W = target_record L s G l D t q T Active mk refl

    not_s : t ≡ s → ⊥
    not_s k = target_apart L l t q T s G.page (sym k)

    state : State L s l
    state = partly t q D R T mk P

    abbrev Which : Page → Type 0
    Which p = (p ≡ S) ⊎ ((p ≡ N) ⊎ Old L s p)

    from : (p : Page) → p ∈ pages l → Which p
    from p m = target_page L s G l D t q T p m

    there : N ∈ pages l
    there = target_in L s G l D t q T Active mk refl

    -- the target is the one Active page, the source the one Freeing page
    N-active : active_page N ≡ true
    N-active = rw W.in_state_lem

    S-active : active_page S ≡ false
    S-active = rw K.is_freeing

    is_active : (p : Page) → Which p → active_page p ≡ true → p ≡ N
    is_active p c e =
        ⊎_elim (λ k. absurd (true≢false e (ap {B = Bool} (λ (z : Page). active_page z) k ∙ S-active)))
        (λ k. ⊎_elim (λ z. z) (λ z. absurd (true≢false e (rw (old-full L s G p z)))) k) c

    is_freeing : (p : Page) → Which p → freeing_page p ≡ true → p ≡ S
    is_freeing p c e =
        ⊎_elim (λ k. k)
        (λ k. absurd (⊎_elim (λ z. true≢false e (ap {B = Bool} (λ (w : Page). freeing_page w) z ∙ rw W.in_state_lem)) (λ z. true≢false e (rw (old-full L s G p z))) k)) c

    lone : Lone l
    unfolding Lone
    lone u v hu hv eu ev = one_of u hu eu ∙ sym (one_of v hv ev)
      where
        not_free : (M : PageState) → active M ≡ true → is_free M ≡ false
        not_free Blank e = absurd (true≢false e refl)
        not_free Corrupt e = absurd (true≢false e refl)
        not_free Active e = refl
        not_free Full e = refl
        not_free Freeing e = refl

        one_of : (u : ℕ) → u < sectors_of l → active (state_of (sector u l)) ≡ true → u ≡ t
        one_of u h e =
            let m = in_pages l u h (not_free (state_of (sector u l)) e) in
            ap {B = ℕ} (λ (p : Page). p.sector) (is_active (page_at u l) (from (page_at u l) m) (rw (seen_state (sector u l)) e))

    keeps : kept (pages l) ≡ some N
    unfolding kept
    keeps =
        best-only _ (keep active_page (pages l)) N (in_keep active_page (pages l) N there N-active)
        (λ y m. let k = keep_in active_page (pages l) y m in is_active y (from y k.0) k.1)

    abbrev qs : List Page
    qs = ordered (pages l)

    O : Kept l N (ordering (pages l)) qs
    O = kept_order l lone N keeps

    room_is : no_empty N ≡ no_room (sector t l)
    room_is = ap (λ (k : ℕ). eqb k 0) (page-empty l N there)

    -- the list that stage 1 leaves
    source_q : S ∈ qs
    source_q = O.others S (source_in L s G l D R) S-active

    old_q : (u : ℕ) → u < n → (u ≡ s → ⊥) → is_free (state_of (sector u L)) ≡ false → page_at u L ∈ qs
    old_q u h k e = O.others (page_at u L) (old_in L s G l D u h k e) (rw (seen_state (sector u L), G.fulls u h e))

    from_q : (p : Page) → p ∈ qs → (p ≡ S) ⊎ ((p ≡ kept_as N) ⊎ Old L s p)
    from_q p m =
        ⊎_elim
        (λ k. ⊎_elim (λ z. inl z) (λ z. ⊎_elim (λ w. absurd (true≢false (ap {B = Bool} (λ (x : Page). active_page x) w ∙ N-active) k.1)) (λ w. inr (inr w)) z) (from p k.0))
        (λ k. inr (inl k)) (O.from p m)

    one_q : freeings qs ≡ 1
    unfolding freeings
    one_q =
        let h : ℕ → ℕ = (λ (u : ℕ). one (freeing (state_of (sector u l)))) in
        sum_ext (λ (p : Page). one (freeing_page p)) (λ (p : Page). h p.sector) qs at_q ∙ O.sums h
        ∙ sum_ext (λ (p : Page). h p.sector) (λ (p : Page). one (freeing_page p)) (pages l) (λ p m. sym (at_p p m))
        ∙ freeings_one L s G l D R (λ p m. is_freeing p (from p m))
      where
        at_p : (p : Page) → p ∈ pages l → one (freeing_page p) ≡ one (freeing (state_of (sector p.sector l)))
        at_p p m = rw (page-state l p m)

        sector_of : (b : Bool) → (cond b (as_full N) N).sector ≡ t
        sector_of true = refl
        sector_of false = refl

        not-freeing : (b : Bool) → freeing_page (cond b (as_full N) N) ≡ false
        not-freeing true = refl
        not-freeing false = rw W.in_state_lem

        kept_at : (p : Page) → p ≡ kept_as N → one (freeing_page p) ≡ one (freeing (state_of (sector p.sector l)))
        kept_at p k =
            let z : p.sector ≡ t = ap {B = ℕ} (λ (w : Page). w.sector) k ∙ sector_of (no_empty N) in
            let y : state_of (sector p.sector l) ≡ Active = ap (λ (v : ℕ). state_of (sector v l)) z ∙ mk in
            let x : freeing_page p ≡ false = ap {B = Bool} (λ (w : Page). freeing_page w) k ∙ not-freeing (no_empty N) in
            rw (x, y)

        at_q : (p : Page) → p ∈ qs → one (freeing_page p) ≡ one (freeing (state_of (sector p.sector l)))
        at_q p m = ⊎_elim (λ k. at_p p k.0) (λ k. kept_at p k) (O.from p m)

    -- ---- it has an Empty entry: it goes, and the source is copied afresh
    abbrev lt : List ℕ
    lt = run (erase t ∷ []) l

    x_others : (u : ℕ) → (u ≡ t → ⊥) → sector u lt ≡ sector u l
    x_others u k = sector-kept u t (erase t ∷ []) l k (erase_in t)

    x_side : Side L lt s
    x_side = record { len = length_run (erase t ∷ []) l ∙ D.len; kept = λ u h k e. x_others u (target_apart L l t q T u e) ∙ D.kept u h k e }

    x_source : Source L lt s
    x_source = let z = x_others s (target_apart L l t q T s G.page) in record { state = rw z R.state; seq = rw z R.seq; items = rw z R.items }

    x_free_t : is_free (state_of (sector t lt)) ≡ true
    x_free_t = rw (erased-blank l t (room L s G small l D.len t T.here)) blank_free

    x_free : AllFree L lt
    x_free u h f = go (eqb u t) refl
      where
        go : (b : Bool) → eqb u t ≡ b → is_free (state_of (sector u lt)) ≡ true
        go true k = rw (eqb-true u t k) x_free_t
        go false k = rw (x_others u (eqb-false u t k)) (T.rest u h (eqb-false u t k) f)

    part-again : no_room (sector t l) ≡ false → Runs L s l
    part-again ne =
        let nn : no_empty N ≡ false = room_is ∙ ne in
        let kn : kept_as N ≡ N = rw nn in
        let k0 : ordering (pages l) ≡ [] = O.steps ∙ rw nn in
        let which : (p : Page) → p ∈ qs → Which p = (λ p m. ⊎_elim (λ k. inl k) (λ k. inr (⊎_elim (λ z. inl (z ∙ kn)) (λ z. inr z) k)) (from_q p m)) in
        let sm : sum_of (λ (p : Page). cond (in_sector t p) 1 0) qs ≤ 1 = rw (O.sums (λ (u : ℕ). cond (eqb u t) 1 0)) (once l t) in
        let so : (p : Page) → p ∈ qs → in_sector s p ≡ true → p ≡ S = (λ p m e. source-only p (which p m) (eqb-true p.sector s e)) in
        let cp : copy_of (items_in t l) (items_in s l) ≡ true =
        rw (listed-items t l (rw mk), listed-items s l (rw R.state)) (copy_is (items_of (sector t l)) (items_of (sector s l)) (λ y m. let r = P.sub y m in (r.0, rw R.items r.1, r.2))) in
        let r =
        part-round L s G (seen_of (sector s l)) K l t q Active (seen_of (sector t l)) W not_s qs (frees l) which old_q source_q (rw kn at O.itself) refl
        T.was sm so cp
        (listed-items s lt (rw x_source.state) ∙ x_source.items) in
        let mv = move_runs L s G small lt x_side x_source t T.here T.was x_free t r.0 T.here x_free_t r.1 in
        let f = erase t ∷ moving s t r.0 X lt in
        let Z : Final L (run (erase t ∷ moving s t r.0 X lt) l) = rw (run_one (erase t) (moving s t r.0 X lt) l) mv.1 in
        let e1 : finish_on qs (frees l) l ≡ f ++ rescan f l =
        finish_one L s G (seen_of (sector s l)) K qs (frees l) l source_q (λ p m z. is_freeing p (which p m) z) one_q ∙ rw r.2 in
        let e : plain l ≡ f ++ rescan f l = rec_some l one_q ∙ rw (k0, run-nil l) e1 in
        record { steps = f; is = e; cut = cuts_of (moving s t r.0 X lt) mv.0; end = Z }
      where
        source-only : (p : Page) → Which p → p.sector ≡ s → p ≡ S
        source-only p (inl k) e = k
        source-only p (inr (inl k)) e = absurd (not_s (sym (ap {B = ℕ} (λ (z : Page). z.sector) k) ∙ e))
        source-only p (inr (inr k)) e = absurd (k.2 e)

        cuts_of : (mv : List Step) → ((k : ℕ) → State L s (run (take k mv) lt)) → (k : ℕ) → State L s (run (take k (erase t ∷ mv)) l)
        cuts_of mv h zero = rw (run-nil l) state
        cuts_of mv h (suc k) = rw (run_one (erase t) (take k mv) l) (h k)

    -- ---- it has none: it is complete, and is marked Full
    abbrev lf : List ℕ
    lf = run (mark_full t ∷ []) l

    t_here : t < sectors_of l
    t_here = rw (n_same L s G l D) T.here

    full-others : (u : ℕ) → (u ≡ t → ⊥) → sector u lf ≡ sector u l
    full-others = m_others l t t_here mk

    is_full : state_of (sector t lf) ≡ Full
    is_full = m_full l t t_here mk

    m_side : Side L lf s
    m_side = record { len = length_run (mark_full t ∷ []) l ∙ D.len; kept = λ u h k e. full-others u (target_apart L l t q T u e) ∙ D.kept u h k e }

    m_source : Source L lf s
    m_source = let z = full-others s (target_apart L l t q T s G.page) in record { state = rw z R.state; seq = rw z R.seq; items = rw z R.items }

    m_target : Target L lf t q
    m_target =
        record {
          here = T.here;
          was = T.was;
          above = T.above;
          bound = T.bound;
          rest = λ u h k f. rw (full-others u k) (T.rest u h k f);
          seq = m_sequence l t t_here mk ∙ T.seq;
        }

    part-full : no_room (sector t l) ≡ true → Runs L s l
    part-full ne =
        let nn : no_empty N ≡ true = room_is ∙ ne in
        let kn : kept_as N ≡ as_full N = rw nn in
        let k0 : ordering (pages l) ≡ mark_full t ∷ [] = O.steps ∙ rw nn in
        let E : raws (items_of (sector t lf)) ≡ raws X = rw (m_items l t t_here mk) (P.complete ne) in
        let which : (p : Page) → p ∈ qs → (p ≡ S) ⊎ ((p ≡ as_full N) ⊎ Old L s p) = (λ p m. ⊎_elim (λ k. inl k) (λ k. inr (⊎_elim (λ z. inl (z ∙ kn)) (λ z. inr z) k)) (from_q p m)) in
        let marked : TargetRecord Full q (as_full N).seen = record { in_state_lem = refl; has-sequence = W.has-sequence } in
        let e2 : finish_on qs (frees l) lf ≡ erase s ∷ rescan (erase s ∷ []) lf =
        full-steps L s G small lf t q m_side m_source m_target is_full E (seen_of (sector s l)) (as_full N).seen K marked qs (frees l) which old_q source_q
        (rw kn at O.itself) one_q in
        let f = mark_full t ∷ (erase s ∷ []) in
        let e : plain l ≡ mark_full t ∷ (erase s ∷ rescan (mark_full t ∷ (erase s ∷ [])) l) = rec_some l one_q ∙ rw (k0, e2, run_one (mark_full t) (erase s ∷ []) l) in
        let Z = e_done L s G small lf m_side t q m_target is_full E in
        record { steps = f; is = e; cut = cuts_of (full t q m_side m_source m_target is_full E) Z.0; end = rw (run_one (mark_full t) (erase s ∷ []) l) Z.1 }
      where
        cuts_of : State L s lf → State L s (run (erase s ∷ []) lf) → (k : ℕ) → State L s (run (take k (mark_full t ∷ (erase s ∷ []))) l)
        cuts_of a b zero = rw (run-nil l) state
        cuts_of a b (suc k) = rw (run_one (mark_full t) (take k (erase s ∷ [])) l) (one_step L s G small lf a b k)

    -- recovery from there
    pub part-runs : Runs L s l
    part-runs = go (no_room (sector t l)) refl
      where
        go : (b : Bool) → no_room (sector t l) ≡ b → Runs L s l
        go true e = part-full e
        go false e = part-again e
