-- The finish stage on each image that reclaim and recovery can be cut at: one round, and its steps. The record r is the source's, v the target's.
-- Assumes nothing.
use mathlib.Core.Path.{◌∙◌, ◌≡◌, ap, refl, sym}
use mathlib.Core.Logic.{◌⊎◌, inl, inr, ⊎_elim}
use mathlib.Core.Bool.{Bool, cond, false, true}
use mathlib.Core.Option.{Option, none, some}
use mathlib.Core.List.{List, [], ◌++◌, ◌∷◌, append-nil, get_last?}
use Prim.Native.Nat.{◌<◌, ◌≤◌, ℕ}
use native.Mathlib.Omega.{arith}
use lib.Dec.{eqb, ltb}
use borrow.Author.Tests.{eq-eqb, eqb-false, eqb-true, lt-ltb, ltb-true, ne_eqb}
use Rattle.entry.specs.States.{one}
use Rattle.page.specs.declared.state.PageState.{PageState}
use Rattle.page.specs.declared.seen.Seen.{Seen}
use Rattle.page.specs.declared.state.PageState.TheVariants.{Active, Full}
use Rattle.page.specs.State.{is_free, sequence_of, state_of}
use Rattle.page.specs.Walk.{Laid, items_of}
use Rattle.page.proofs.Tests.{both_first, both_is, both-second}
use Rattle.flash.specs.Step.{erase, run, sector}
use Rattle.relocate.specs.Move.{moving}
use Rattle.lists.specs.Lists.{first_of, sum_of, take_out}
use Rattle.lists.proofs.Sums.{greatest-ge, greatest-lt, sum-ge}
use Rattle.lists.proofs.Search.{best_in, best_some, best-top, every_of, first_none, first_only, last_append, some_in}
use Rattle.lists.proofs.Out.{in_out, out_in, out-other, sum-out}
use Rattle.lists.proofs.Member.{◌∈◌, true≢false}
use Rattle.lists.proofs.Range.{sum_to-pair}
use Rattle.table.specs.declared.Page.{Page}
use Rattle.table.specs.Table.{active_page, freeing_page, in_sector, items_in, page_at, sectors_of, sequence}
use Rattle.page.proofs.Fields.{seen_sequence}
use Rattle.finish.specs.Finish.{afresh, after, copy_of, holds_all, name_of, newest, newest_holds, next_sequence, no_older_page, round, round_with, same_bytes}
use Rattle.finishing.specs.Finishing.{freeings}
use Rattle.power.proofs.Plain.{finish, finish_on, finish_with, rescan}
use Rattle.item.proofs.Shape.{raws}
use Rattle.power.proofs.State.{Good, Old, Side, Source, SourceRecord, TargetRecord, old-full, old-sequence}
use Rattle.power.proofs.Same.{holds_is, same_eq, same_refl}
use Rattle.table.proofs.Pages.{listed-items}
use Rattle.power.proofs.Totals.{on_sector, total-sectors}

-- a sequence that a new target may have: above those of all pages, and not too high for what comes after
pub record Seq (L : List ℕ) (q : ℕ) : Type 0 where
  pub above : (u : ℕ) → u < sectors_of L → is_free (state_of (sector u L)) ≡ false → sequence_of (sector u L) < q
  pub bound : q ≤ 0xFFFFFFF0

module _ (L : List ℕ) (s : ℕ) (G : Good L s) (r : Seen) (K : SourceRecord L s r) where
  abbrev S : Page
  S = record { sector = s; seen = r }

  S-freeing : freeing_page S ≡ true
  S-freeing = rw K.is_freeing

  not-active : (p : Page) → p ≡ S → active_page p ≡ false
  not-active p e = ap {B = Bool} (λ (z : Page). active_page z) e ∙ rw K.is_freeing

  S-sequence : (p : Page) → p ≡ S → sequence p ≡ sequence_of (sector s L)
  S-sequence p e = ap {B = ℕ} (λ (z : Page). sequence z) e ∙ K.same_sequence

  -- ---- one round, where S is the one Freeing page

  pub finish_one : (ps : List Page) (fs l : List ℕ) → S ∈ ps → ((p : Page) → p ∈ ps → freeing_page p ≡ true → p ≡ S) → freeings ps ≡ 1
      → finish_on ps fs l ≡ (round S ps fs l).steps ++ rescan (round S ps fs l).steps l
  unfolding finish_on finish finish_with
  finish_one ps fs l m h e = rw (e, first_only freeing_page ps S m S-freeing h, append-nil)

  -- ---- the sequence of a new target
  pub seq-new : (ps : List Page) → ((p : Page) → p ∈ ps → (p ≡ S) ⊎ Old L s p)
      → ((u : ℕ) → u < sectors_of L → (u ≡ s → ⊥) → is_free (state_of (sector u L)) ≡ false → page_at u L ∈ ps)
      → Seq L (next_sequence S ps)
  seq-new ps from has = record {
    above = λ u h e. go u h e (eqb u s) refl;
    bound = let a = greatest-lt sequence ps 0xFFFFFFF0 (omega arith) small in let b = G.below s G.here G.page in let c = K.same_sequence in omega arith;
  }
    where
      go : (u : ℕ) → u < sectors_of L → is_free (state_of (sector u L)) ≡ false → (b : Bool) → eqb u s ≡ b → sequence_of (sector u L) < next_sequence S ps
      go u h e true q = let a = K.same_sequence in rw (eqb-true u s q) (omega arith)
      go u h e false q = let a = greatest-ge sequence ps (page_at u L) (has u h (eqb-false u s q) e) in let b = seen_sequence (sector u L) e in omega arith

      small : (p : Page) → p ∈ ps → sequence p < 0xFFFFFFF0
      small p m =
          ⊎_elim (λ k. let a = S-sequence p k in let b = G.below s G.here G.page in omega arith) (λ k. rw (old-sequence L s p k) (G.below p.sector k.1 k.3)) (from p m)

  -- ---- no target yet
  module _ (l : List ℕ) (D : Side L l s) (R : Source L l s) (ps : List Page) (fs : List ℕ)
      (from : (p : Page) → p ∈ ps → (p ≡ S) ⊎ Old L s p)
      (has : (u : ℕ) → u < sectors_of L → (u ≡ s → ⊥) → is_free (state_of (sector u L)) ≡ false → page_at u L ∈ ps)
      (here : S ∈ ps) where
    abbrev qs : List Page
    qs = take_out (in_sector s) ps

    in_s : items_in s l ≡ items_of (sector s L)
    in_s = listed-items s l (rw R.state) ∙ R.items

    s_self : in_sector s S ≡ true
    s_self = eq-eqb s s refl

    q_from : (p : Page) → p ∈ qs → (p ≡ S) ⊎ Old L s p
    q_from p m = from p (out_in (in_sector s) ps p m)

    q_has : (u : ℕ) → u < sectors_of L → (u ≡ s → ⊥) → is_free (state_of (sector u L)) ≡ false → page_at u L ∈ qs
    q_has u h ne e = in_out (in_sector s) ps S (page_at u L) here s_self (has u h ne e) (ne_eqb u s ne)

    no-active : (p : Page) → p ∈ qs → active_page p ≡ false
    no-active p m = ⊎_elim (λ k. not-active p k) (λ k. rw (old-full L s G p k)) (q_from p m)

    -- a page that holds the source's items: the source has none
    holds_none : (y : Page) → y ∈ qs → newest_holds S l (some y) ≡ true → items_of (sector s L) ≡ []
    unfolding newest_holds holds_all
    holds_none y m e = go (items_of (sector s L)) refl
      where
        newer : r.sequence < sequence y
        newer = ltb-true _ _ (both_first (ltb r.sequence (sequence y)) _ e)

        old : Old L s y
        old = ⊎_elim (λ k. absurd (let z : sequence y ≡ r.sequence = ap {B = ℕ} (λ (p : Page). sequence p) k in omega (arith, newer))) (λ k. k) (q_from y m)

        go : (xs : List Laid) → items_of (sector s L) ≡ xs → items_of (sector s L) ≡ []
        go [] q = q
        go (x ∷ xs) q =
            let mx : x ∈ items_of (sector s L) = rw q (inl refl) in
            let all = both-second (ltb r.sequence (sequence y)) _ e in
            let one_y = every_of _ (items_in s l) all x (rw in_s mx) in
            let f = some_in _ (items_in y.sector l) one_y in
            clash x mx f.0 f.1 (same_eq _ _ f.2)
          where
            clash : (x : Laid) → x ∈ items_of (sector s L) → (z : Laid) → z ∈ items_in y.sector l → name_of x.raw ≡ name_of z.raw → items_of (sector s L) ≡ []
            clash x mx z mz en =
                let f : List ℕ → ℕ = (λ (r : List ℕ). one (same_bytes (name_of r) (name_of x.raw))) in
                let same = D.kept y.sector old.1 old.2 old.3 in
                let my : z ∈ items_of (sector y.sector L) = rw (listed-items y.sector l (rw same old.3), same) at mz in
                let a = sum-ge (λ (i : Laid). f i.raw) (items_of (sector s L)) x mx in
                let b = sum-ge (λ (i : Laid). f i.raw) (items_of (sector y.sector L)) z my in
                let a1 : f x.raw ≡ 1 = rw (same_refl (name_of x.raw)) in
                let b1 : f z.raw ≡ 1 = rw (en, same_refl (name_of z.raw)) in
                let c = sum_to-pair (on_sector f L) (sectors_of L) s y.sector G.here old.1 (λ k. old.2 (sym k)) in
                let d = G.unique (name_of x.raw) in
                let g = total-sectors f L in
                absurd (omega arith)

    -- the steps of the round
    pub junk-round : (t : ℕ) → get_last? fs ≡ some t
        → (((round S ps fs l).steps ≡ erase s ∷ []) × (items_of (sector s L) ≡ []))
        ⊎ ((q : ℕ) × Seq L q × ((round S ps fs l).steps ≡ moving s t q (items_of (sector s L)) l))
    unfolding round round_with afresh
    junk-round t e = rw (first_none active_page qs no-active) (go (newest qs) refl)
      where
        fresh : (round_with S qs fs l none).steps ≡ (afresh S qs fs l (get_last? fs)).steps
            → (q : ℕ) × Seq L q × ((round_with S qs fs l none).steps ≡ moving s t q (items_of (sector s L)) l)
        fresh k = (next_sequence S qs, seq-new qs q_from q_has, k ∙ rw (e, in_s))

        go : (o : Option Page) → newest qs ≡ o
            → (((round_with S qs fs l none).steps ≡ erase s ∷ []) × (items_of (sector s L) ≡ [])) ⊎
            ((q : ℕ) × Seq L q × ((round_with S qs fs l none).steps ≡ moving s t q (items_of (sector s L)) l))
        go none k = inr (fresh (unfold newest_holds in rw k))
        go (some y) k = two (newest_holds S l (some y)) refl
          where
            two : (b : Bool) → newest_holds S l (some y) ≡ b
                → (((round_with S qs fs l none).steps ≡ erase s ∷ []) × (items_of (sector s L) ≡ [])) ⊎
                ((q : ℕ) × Seq L q × ((round_with S qs fs l none).steps ≡ moving s t q (items_of (sector s L)) l))
            two true z = inl (rw (k, z), holds_none y (unfold newest in best_in _ qs y k) z)
            two false z = inr (fresh (rw (k, z)))

  -- ---- a target stands in the list, with mark M
  module _ (l : List ℕ) (t q : ℕ) (M : PageState) (v : Seen) (W : TargetRecord M q v) (ne : t ≡ s → ⊥) (ps : List Page) (fs : List ℕ)
      (from : (p : Page) → p ∈ ps → (p ≡ S) ⊎ ((p ≡ record { sector = t; seen = v }) ⊎ Old L s p))
      (has : (u : ℕ) → u < sectors_of L → (u ≡ s → ⊥) → is_free (state_of (sector u L)) ≡ false → page_at u L ∈ ps)
      (here : S ∈ ps) (there : record { sector = t; seen = v } ∈ ps) where
    abbrev N : Page
    N = record { sector = t; seen = v }

    abbrev ts : List Page
    ts = take_out (in_sector s) ps

    S_self : in_sector s S ≡ true
    S_self = eq-eqb s s refl

    N_self : in_sector t N ≡ true
    N_self = eq-eqb t t refl

    t_from : (p : Page) → p ∈ ts → (p ≡ S) ⊎ ((p ≡ N) ⊎ Old L s p)
    t_from p m = from p (out_in (in_sector s) ps p m)

    t_has : (u : ℕ) → u < sectors_of L → (u ≡ s → ⊥) → is_free (state_of (sector u L)) ≡ false → page_at u L ∈ ts
    t_has u h k e = in_out (in_sector s) ps S (page_at u L) here S_self (has u h k e) (ne_eqb u s k)

    N_in : N ∈ ts
    N_in = in_out (in_sector s) ps S N here S_self there (ne_eqb t s ne)

    -- it is Active: a copy, which goes, and the source is copied afresh
    pub part-round : M ≡ Active → is_free (state_of (sector t L)) ≡ true → sum_of (λ (p : Page). cond (in_sector t p) 1 0) ps ≤ 1
        → ((p : Page) → p ∈ ps → in_sector s p ≡ true → p ≡ S)
        → copy_of (items_in t l) (items_in s l) ≡ true → items_in s (run (erase t ∷ []) l) ≡ items_of (sector s L)
        → (k : ℕ) × Seq L k × ((round S ps fs l).steps ≡ erase t ∷ moving s t k (items_of (sector s L)) (run (erase t ∷ []) l))
    unfolding round round_with after afresh
    part-round a w sm so c i = (next_sequence S us, seq-new us u_from u_has, rw (first, c, last_append fs t, i))
      where
        only : (y : Page) → y ∈ ts → active_page y ≡ true → y ≡ N
        only y m e = ⊎_elim (λ k. absurd (true≢false e (not-active y k))) (λ k. ⊎_elim (λ z. z) (λ z. absurd (true≢false e (rw (old-full L s G y z)))) k) (t_from y m)

        first : first_of active_page ts ≡ some N
        first = first_only active_page ts N N_in (rw (W.in_state_lem, a)) only

        us : List Page
        us = take_out (in_sector t) ts

        t_only : (y : Page) → y ∈ ts → in_sector t y ≡ true → y ≡ N
        t_only y m e =
            ⊎_elim (λ k. absurd (ne (sym (eqb-true y.sector t e) ∙ ap {B = ℕ} (λ (p : Page). p.sector) k))) (λ k. ⊎_elim (λ z. z) (λ z. absurd (true≢false w (rw (eqb-true y.sector t e) at z.3))) k) (t_from y m)

        sm2 : sum_of (λ (p : Page). cond (in_sector t p) 1 0) ts ≤ 1
        sm2 = let e = sum-out (in_sector s) (λ (p : Page). cond (in_sector t p) 1 0) ps S here S_self so in omega arith

        u_from : (p : Page) → p ∈ us → (p ≡ S) ⊎ Old L s p
        u_from p m =
            ⊎_elim (λ k. inl k) (λ k. ⊎_elim (λ z. absurd (true≢false (ap {B = Bool} (λ (x : Page). in_sector t x) z ∙ N_self) (out-other (in_sector t) ts N N_in N_self sm2 t_only p m))) (λ z. inr z) k) (t_from p (out_in (in_sector t) ts p m))

        u_has : (u : ℕ) → u < sectors_of L → (u ≡ s → ⊥) → is_free (state_of (sector u L)) ≡ false → page_at u L ∈ us
        u_has u h k e = in_out (in_sector t) ts N (page_at u L) N_in N_self (t_has u h k e) (ne_eqb u t (λ z. true≢false w (rw z at e)))

    -- it is Full, and holds all: the source goes
    pub full-round : M ≡ Full → Seq L q → raws (items_in t l) ≡ raws (items_in s l) → (round S ps fs l).steps ≡ erase s ∷ []
    unfolding round round_with
    full-round a z e = rw (first_none active_page ts none_active, the_newest, holds)
      where
        none_active : (p : Page) → p ∈ ts → active_page p ≡ false
        none_active p m =
            ⊎_elim (λ k. not-active p k) (λ k. ⊎_elim (λ w. ap {B = Bool} (λ (x : Page). active_page x) w ∙ rw (W.in_state_lem, a)) (λ w. rw (old-full L s G p w)) k) (t_from p m)

        is-N : (y : Page) → y ∈ ts → q ≤ sequence y → y ≡ N
        is-N y m h =
            ⊎_elim (λ k. absurd (let x : sequence y ≡ r.sequence = ap {B = ℕ} (λ (p : Page). sequence p) k in let c = K.same_sequence in let b = z.above s G.here G.page in omega arith))
            (λ k. ⊎_elim (λ w. w) (λ w. absurd (let x = old-sequence L s y w in let b = z.above y.sector w.1 w.3 in omega arith)) k) (t_from y m)

        the_newest : newest ts ≡ some N
        the_newest = unfold newest in
            (let f = best_some no_older_page ts N N_in in
            let h = best-top sequence ts f.0 f.1 N N_in in
            f.1 ∙ ap {B = Option Page} some (is-N f.0 f.2 (let c = W.has-sequence in omega arith)))

        newer : r.sequence < v.sequence
        newer = let a = z.above s G.here G.page in let b = K.same_sequence in let c = W.has-sequence in omega arith

        holds : newest_holds S l (some N) ≡ true
        holds = unfold newest_holds in both_is _ _ (lt-ltb _ _ newer) (holds_is (items_in t l) (items_in s l) e)
