-- Recovery on what is left of the store: stages 1 and 4 mark the Active page at most, and stage 3 erases. Assumes nothing.
use mathlib.Core.Path.{◌∙◌, ◌≡◌, ap, refl, sym}
use mathlib.Core.Logic.{◌⊎◌, inl, inr, ⊎_elim}
use mathlib.Core.Bool.{Bool, ◌&&◌, false, true}
use mathlib.Core.List.{List, [], ◌++◌, ◌∷◌, map}
use Prim.Native.Nat.{◌+◌, ◌/◌, ◌<◌, suc, zero, ℕ}
use native.Mathlib.Omega.{arith}
use lib.Dec.{eqb}
use lib.ListN.{length, take}
use lib.Seq.{take-length, take-nil}
use borrow.Author.Tests.{eq-eqb, eqb-false, eqb-true}
use Rattle.entry.specs.States.{one}
use Rattle.page.specs.declared.state.PageState.TheVariants.{Active, Full}
use Rattle.page.specs.State.{is_free, state_of}
use Rattle.page.proofs.Tests.{both_first}
use Rattle.flash.specs.Step.{Step, run, sector}
use Rattle.flash.proofs.Frame.{length_run}
use Rattle.flash.proofs.Laws.{cut-append, run-append}
use Rattle.item.specs.Mark.{mark_full}
use Rattle.lists.specs.Lists.{keep, sum_of, sum_to}
use Rattle.lists.proofs.Member.{◌∈◌}
use Rattle.lists.proofs.Search.{keep_in}
use Rattle.lists.proofs.Sums.{sum-keep-le}
use Rattle.lists.proofs.Range.{sum_to_ext}
use Rattle.table.specs.declared.Page.{Page}
use Rattle.table.specs.Table.{active, active_page, freeing, in_sector, pages, sectors_of}
use Rattle.order.specs.Order.{ordered, ordering}
use Rattle.found.specs.Found.{Found, erase_all, found}
use Rattle.duplicates.specs.Duplicates.{duplicate_stage, last_marks}
use Rattle.quick.proofs.Counts.{one_true}
use Rattle.quick.proofs.Idle.{duplicates_none}
use Rattle.power.specs.Demand3.{total}
use Rattle.power.proofs.Doomed.{doomed}
use Rattle.power.proofs.Judged.{Fit, Keeps, blob_steps_lem, blobs-cut, blobs-done, blobs-keep, single}
use Rattle.power.proofs.Left.{Left}
use Rattle.power.proofs.Listing.{Lists, frees_same, listed-count, listed-page, lists_same}
use Rattle.power.proofs.Lone.{Lone}
use Rattle.power.proofs.Marks.{Marks, m_full, m_items, m_others}
use Rattle.power.proofs.Plain.{order_on, plain, stages}
use Rattle.power.proofs.Quiet.{Ordered, Rest, active_inv, plain-rest, rest_order}
use Rattle.page.proofs.Read.{no_room}
use Rattle.power.proofs.Runs.{run-nil}
use Rattle.power.proofs.Totals.{on_sector, total-sectors}

-- ---- steps that leave it so wherever they are cut
abbrev pub Cuts : List ℕ → List Step → List ℕ → Type 0
Cuts L ss l = (k : ℕ) → Left L (run (take k ss) l)

cuts-append : (L l : List ℕ) (a b : List Step) → Cuts L a l → Cuts L b (run a l) → Cuts L (a ++ b) l
cuts-append L l a b A B k = ⊎_elim (λ e. rw e (A k)) (λ e. rw (e.1, run-append a (take (suc e.0) b) l) (B (suc e.0))) (cut-append k a b)

cuts_end : (L l : List ℕ) (ss : List Step) → Cuts L ss l → Left L (run ss l)
cuts_end L l ss C = rw (take-length ss) at (C (length ss))

-- ---- a page marked Full
module _ (l : List ℕ) (t : ℕ) (h : t < sectors_of l) (mk : state_of (sector t l) ≡ Active) where
  abbrev lf : List ℕ
  lf = run (mark_full t ∷ []) l

  marked : (u : ℕ) → (sector u lf ≡ sector u l) ⊎ ((state_of (sector u l) ≡ Active) × (state_of (sector u lf) ≡ Full))
  marked u = go (eqb u t) refl
    where
      go : (b : Bool) → eqb u t ≡ b → (sector u lf ≡ sector u l) ⊎ ((state_of (sector u l) ≡ Active) × (state_of (sector u lf) ≡ Full))
      go true e = rw (eqb-true u t e) (inr (mk, m_full l t h mk))
      go false e = inl (m_others l t h mk u (eqb-false u t e))

  mark_free : (u : ℕ) → is_free (state_of (sector u lf)) ≡ is_free (state_of (sector u l))
  mark_free u = ⊎_elim (λ e. rw e) (λ e. rw (e.0, e.1)) (marked u)

  mark_total : (f : List ℕ → ℕ) → total f lf ≡ total f l
  mark_total f =
      total-sectors f lf ∙ ap (λ (k : ℕ). sum_to (on_sector f lf) (k / 4096)) (length_run (mark_full t ∷ []) l)
      ∙ sum_to_ext (on_sector f lf) (on_sector f l) (sectors_of l) (λ u k. go u (eqb u t) refl) ∙ sym (total-sectors f l)
    where
      go : (u : ℕ) (b : Bool) → eqb u t ≡ b → on_sector f lf u ≡ on_sector f l u
      go u true e = rw (eqb-true u t e, m_items l t h mk)
      go u false e = rw (m_others l t h mk u (eqb-false u t e))

  mark_left : (L : List ℕ) → Left L l → Left L lf
  unfolding Lone
  mark_left L K =
      record {
        len = length_run (mark_full t ∷ []) l ∙ K.len;
        rest = record { no-freeing = λ u k. calm u (rw n_same at k) (marked u); lone = λ u v hu hv eu ev. K.rest.lone u v (rw n_same at hu) (rw n_same at hv) (was u eu (marked u)) (was v ev (marked v)) };
        free = (let a = frees_same l lf (length_run (mark_full t ∷ []) l) mark_free in let b = K.free in omega arith);
        gone = K.gone;
        sums = λ f. (let a = mark_total f in let b = K.sums f in omega arith);
        doomed = K.doomed;
        headless = λ r m. mark_total _ ∙ K.headless r m;
      }
    where
      n_same : sectors_of lf ≡ sectors_of l
      n_same = ap (λ (k : ℕ). k / 4096) (length_run (mark_full t ∷ []) l)

      calm : (u : ℕ) → u < sectors_of l → (sector u lf ≡ sector u l) ⊎ ((state_of (sector u l) ≡ Active) × (state_of (sector u lf) ≡ Full)) → freeing (state_of (sector u lf)) ≡ false
      calm u k (inl e) = rw e (K.rest.no-freeing u k)
      calm u k (inr e) = rw e.1

      was : (u : ℕ) → active (state_of (sector u lf)) ≡ true → (sector u lf ≡ sector u l) ⊎ ((state_of (sector u l) ≡ Active) × (state_of (sector u lf) ≡ Full))
          → active (state_of (sector u l)) ≡ true
      was u a (inl e) = rw e at a
      was u a (inr e) = rw e.0

-- a mark, or none
record Marked (L l : List ℕ) (ss : List Step) : Type 0 where
  cuts : Cuts L ss l
  same_free : (u : ℕ) → is_free (state_of (sector u (run ss l))) ≡ is_free (state_of (sector u l))
  same_total : (f : List ℕ → ℕ) → total f (run ss l) ≡ total f l

by_marks : (L l : List ℕ) → Left L l → (ss : List Step) → Marks l ss → Marked L l ss
by_marks L l K ss (inl e) = rw e (record { cuts = λ k. rw (take-nil {A = Step} k, run-nil l) K; same_free = λ u. rw (run-nil l); same_total = λ f. rw (run-nil l) })
by_marks L l K ss (inr (t, h, a, e)) = rw e (record { cuts = cut; same_free = mark_free l t h a; same_total = mark_total l t h a })
  where
    cut : Cuts L (mark_full t ∷ []) l
    cut zero = rw (run-nil l) K
    cut (suc k) = rw (take-nil {A = Step} k) (mark_left l t h a L K)

-- ---- the last marks: of the one Active page, if any
module _ (l : List ℕ) (R : Rest l) (ps : List Page) (P : Lists l ps) (A : (p : Page) → p ∈ ps → active_page p ≡ true → active (state_of (sector p.sector l)) ≡ true) where
  only_one : Lone l
  only_one = R.lone

  last_marks_lem : Marks l (last_marks ps l)
  unfolding last_marks sum_of Lone
  last_marks_lem = go (keep q ps) refl
    where
      q : Page → Bool
      q p = active_page p && no_room (sector p.sector l)

      is : (p : Page) → p ∈ keep q ps → (p ∈ ps) × (active (state_of (sector p.sector l)) ≡ true)
      is p m = let k = keep_in q ps p m in (k.0, A p k.0 (both_first (active_page p) _ k.1))

      go : (ks : List Page) → keep q ps ≡ ks → Marks l (map (λ (p : Page). mark_full p.sector) ks)
      go [] e = inl refl
      go (p ∷ []) e = let k = is p (rw e (inl refl)) in inr (p.sector, (listed-page l ps P p k.0).0, active_inv _ k.1, refl)
      go (p ∷ (r ∷ ks)) e = absurd (two (is p (rw e (inl refl))) (is r (rw e (inr (inl refl)))))
        where
          two : (p ∈ ps) × (active (state_of (sector p.sector l)) ≡ true) → (r ∈ ps) × (active (state_of (sector r.sector l)) ≡ true) → ⊥
          two a b =
              let same : r.sector ≡ p.sector = only_one r.sector p.sector (listed-page l ps P r b.0).0 (listed-page l ps P p a.0).0 b.1 a.1 in
              let f : Page → ℕ = λ (z : Page). one (in_sector p.sector z) in
              let x = sum-keep-le q f ps in
              let y = listed-count l ps P p.sector in
              let u : f p ≡ 1 = one_true _ (eq-eqb p.sector p.sector refl) in
              let v : f r ≡ 1 = one_true _ (eq-eqb r.sector p.sector same) in
              let w : sum_of f (keep q ps) ≡ f p + (f r + sum_of f ks) = ap (sum_of f) e in
              omega arith

-- ---- recovery
module _ (L : List ℕ) (F : Fit L) (l : List ℕ) (K : Left L l) where
  abbrev ss : List Step
  ss = ordering (pages l)

  abbrev ps : List Page
  ps = ordered (pages l)

  O : Ordered l ss ps
  O = rest_order l K.rest

  -- stage 1
  M1 : Marked L l ss
  M1 = by_marks L l K ss O.steps

  abbrev l1 : List ℕ
  l1 = run ss l

  K1 : Left L l1
  K1 = cuts_end L l ss M1.cuts

  P1 : Lists l1 ps
  P1 = lists_same l l1 ps (length_run ss l) M1.same_free O.sums

  A1 : (p : Page) → p ∈ ps → active_page p ≡ true → active (state_of (sector p.sector l1)) ≡ true
  A1 p m e = let a = O.is_active p m e in rw (a.0, run-nil l) a.1

  -- stage 3
  abbrev ds : List Found
  ds = doomed (found ps l1)

  abbrev l2 : List ℕ
  l2 = run (erase_all ds) l1

  C2 : Cuts L (erase_all ds) l1
  C2 = blobs-cut L F l1 K1 ps P1

  K2 : Left L l2
  K2 = cuts_end L l1 (erase_all ds) C2

  states : (u : ℕ) → state_of (sector u l2) ≡ state_of (sector u l1)
  states = (blobs-done L F l1 K1 ps P1).states

  P2 : Lists l2 ps
  P2 = lists_same l1 l2 ps (length_run (erase_all ds) l1) (λ u. rw (states u)) P1

  -- stage 4
  M2 : Marked L l2 (last_marks ps l2)
  M2 = by_marks L l2 K2 (last_marks ps l2) (last_marks_lem l2 K2.rest ps P2 (λ p m e. rw (states p.sector) (A1 p m e)))

  stages-are : stages ps l1 ≡ erase_all ds ++ last_marks ps l2
  unfolding stages duplicate_stage run
  stages-are = rw (blob_steps_lem L F l1 K1 ps P1, duplicates_none (found ps l2) (single L F l2 K2 ps P2))

  plain_is : plain l ≡ ss ++ (erase_all ds ++ last_marks ps l2)
  unfolding order_on
  plain_is = plain-rest l K.rest ∙ ap (λ (r : List Step). ss ++ r) stages-are

  -- wherever it is cut, and where it ends
  pub left_cut : Cuts L (plain l) l
  left_cut = rw plain_is (cuts-append L l ss (erase_all ds ++ last_marks ps l2) M1.cuts (cuts-append L l1 (erase_all ds) (last_marks ps l2) C2 M2.cuts))

  pub left_keeps : Keeps L (run (plain l) l)
  left_keeps f =
      rw (plain_is, run-append ss (erase_all ds ++ last_marks ps l2) l, run-append (erase_all ds) (last_marks ps l2) l1) (M2.same_total f ∙ blobs-keep L F l1 K1 ps P1 f)
