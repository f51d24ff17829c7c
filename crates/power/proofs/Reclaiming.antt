-- Reclaim cut anywhere on a store within the premises: the store as it was, or one of the images. Assumes nothing.
use Rattle.std.specs.Prelude.{Ok, Err}
use mathlib.Core.Path.{◌∙◌, ◌≡◌, refl, sym}
use mathlib.Core.Logic.{◌⊎◌, inl, inr}
use mathlib.Core.Bool.{Bool, cond, false, true}
use mathlib.Core.Option.{Option, none, some}
use mathlib.Core.List.{List, [], ◌∷◌, get_last?}
use Prim.Native.Nat.{◌*◌, ◌+◌, ◌<◌, suc, zero, ℕ}
use native.Mathlib.Omega.{arith}
use lib.Dec.{eqb, ltb}
use lib.ListN.{length, take}
use lib.Seq.{take-nil}
use borrow.Author.Tests.{eqb-true, ltb-true}
use Rattle.entry.specs.States.{count_state}
use Rattle.page.specs.declared.seen.Seen.{Seen}
use Rattle.page.specs.State.{is_free, state_of}
use Rattle.page.specs.Walk.{items_of}
use Rattle.flash.specs.Step.{Step, erase, run, sector}
use Rattle.flash.proofs.Erased.{length-sector}
use Rattle.flash.proofs.Frame.{In, length_run, sector-kept}
use Rattle.flash.proofs.Every.{every_one}
use Rattle.item.specs.Mark.{mark_freeing, page_state}
use Rattle.relocate.specs.Move.{moving}
use Rattle.lists.specs.Lists.{greatest, some_of}
use Rattle.lists.proofs.Sums.{greatest-ge, greatest-lt}
use Rattle.lists.proofs.Search.{every_of, last_in}
use Rattle.lists.proofs.Member.{◌∈◌, true≢false}
use Rattle.table.specs.declared.Page.{Page}
use Rattle.table.specs.Table.{active_page, frees, items_in, page_at, pages, sectors_of, sequence, whole_sectors}
use Rattle.table.proofs.Pages.{frees_in, in_pages, page-erased, pages_in, listed-items}
use Rattle.page.proofs.Fields.{seen_sequence}
use Rattle.answer.specs.declared.Answer.TheVariants.{ActiveStands, SequencesSpent}
use Rattle.plan.specs.declared.Plan.TheVariants.{Clear, Move}
use Rattle.plan.specs.Plan.{chosen, next, plan, plan_to, plan_with}
use Rattle.plan.proofs.Chosen.{chosen_in}
use Rattle.reclaim.specs.Reclaim.{plan_steps, reclaiming}
use Rattle.power.specs.Demand3.{Premises}
use Rattle.power.proofs.Runs.{run_one}
use Rattle.power.proofs.Unmade.{move_runs}
use Rattle.power.proofs.Finish.{Seq}
use Rattle.item.proofs.Marked.{marked-drop, marked-sequence, to_freeing}
use Rattle.page.proofs.Read.{items_same}
use Rattle.power.proofs.AllErased.{items_none}
use Rattle.power.proofs.Ends.{e_gone}
use Rattle.power.proofs.State.{AllFree, Good, Side, Source, State}
use Rattle.power.proofs.Premises.{good}
use Rattle.power.proofs.Marks.{mark_sector}

module _ (L : List ℕ) (S : Premises L) where
  abbrev n : ℕ
  n = sectors_of L

  -- what reclaim can be cut at
  abbrev pub Reach : List ℕ → Type 0
  Reach m = (m ≡ L) ⊎ ((s : ℕ) × Good L s × State L s m)

  nothing : (c : ℕ) → Reach (run (take c []) L)
  unfolding run
  nothing c = rw (take-nil {A = Step} c) (inl refl)

  zero-cut : (ss : List Step) → run (take 0 ss) L ≡ L
  unfolding run
  zero-cut ss = refl

  module _ (s : ℕ) (h : s < n) (p : is_free (state_of (sector s L)) ≡ false) where
    abbrev G : Good L s
    G = good L S s h p

    -- all Erased: the page is erased
    erased-reach : count_state (sector s L) 0 ≡ 126 → (c : ℕ) → Reach (run (take c (erase s ∷ [])) L)
    erased-reach e zero = inl (zero-cut (erase s ∷ []))
    erased-reach e (suc c) =
        rw (take-nil {A = Step} c)
        (inr (s, G, (e_gone L s G S.bytes L (record { len = refl; kept = λ u a b d. refl }) (λ u a f. f) (items_none (sector s L) e)).0))

    -- else it is marked Freeing
    abbrev l1 : List ℕ
    l1 = run (mark_freeing s ∷ []) L

    others : (u : ℕ) → (u ≡ s → ⊥) → sector u l1 ≡ sector u L
    others u k = sector-kept u s (mark_freeing s ∷ []) L k (every_one (In (s * 4096) (s * 4096 + 4096)) _ (omega arith, omega arith))

    side : Side L l1 s
    side = record { len = length_run (mark_freeing s ∷ []) L; kept = λ u a b d. others u b }

    len_s : length (sector s L) ≡ 4096
    len_s = length-sector s L ∙ omega arith

    at_s : sector s l1 ≡ run (page_state 0 0xF8 ∷ []) (sector s L)
    at_s = mark_sector s 0xF8 L

    source : Source L l1 s
    source =
        let z = len_s in
        let y = to_freeing (sector s L) (omega arith) (G.fulls s h p) in
        record {
          state = rw at_s y;
          seq = rw at_s (marked-sequence (sector s L) 0xF8 (omega arith));
          items = rw at_s (items_same (sector s L) (run (page_state 0 0xF8 ∷ []) (sector s L)) (marked-drop (sector s L) 0xF8 (omega arith) 32 (omega arith)) (rw (y, p)));
        }

    all_free : AllFree L l1
    all_free u a f = rw (others u (λ k. true≢false (rw k at f) p)) f

    next-above : Seq L (next (pages L))
    next-above =
        record {
          above = λ u a f. (let z = greatest-ge sequence (pages L) (page_at u L) (in_pages L u a f) in let y = seen_sequence (sector u L) f in omega arith);
          bound = greatest-lt sequence (pages L) 0xFFFFFFF0 (omega arith) at;
        }
      where
        at : (q : Page) → q ∈ pages L → sequence q < 0xFFFFFFF0
        at q m = ltb-true (sequence q) 0xFFFFFFF0 (every_of (λ (z : Page). ltb (sequence z) 0xFFFFFFF0) (pages L) S.below q m)

    -- and its items are moved to the last free sector
    moved-reach : (t : ℕ) → get_last? (frees L) ≡ some t → (c : ℕ) → Reach (run (take c (mark_freeing s ∷ moving s t (next (pages L)) (items_in s l1) l1)) L)
    moved-reach t e zero = inl (zero-cut (mark_freeing s ∷ moving s t (next (pages L)) (items_in s l1) l1))
    moved-reach t e (suc c) =
        let f = frees_in L t (last_in (frees L) t e) in
        let ne : (t ≡ s → ⊥) = (λ k. true≢false (rw k at f.1) p) in
        let i : items_in s l1 ≡ items_of (sector s L) = listed-items s l1 (rw source.state) ∙ source.items in
        let mv = move_runs L s G S.bytes l1 side source t f.0 f.1 all_free t (next (pages L)) f.0 (rw (others t ne) f.1) next-above in
        rw (i, run_one (mark_freeing s) (take c (moving s t (next (pages L)) (items_of (sector s L)) l1)) L) (inr (s, G, mv.0 c))

    to_reach : (c : ℕ) (o : Option ℕ) → get_last? (frees L) ≡ o → Reach (run (take c (plan_steps L (plan_to (pages L) s o))) L)
    unfolding plan_to plan_steps
    to_reach c none e = nothing c
    to_reach c (some t) e = go (ltb 0xFFFFFFFD (greatest sequence (pages L)))
      where
        go : (b : Bool) → Reach (run (take c (plan_steps L (cond b (Err SequencesSpent) (Ok (Move s t (next (pages L))))))) L)
        go true = nothing c
        go false = moved-reach t e c

  -- the plan for the chosen page, of which the record is r
  with-reach : (c s : ℕ) (r : Seen) → s < n → is_free (state_of (sector s L)) ≡ false → r.erased ≡ count_state (sector s L) 0
      → Reach (run (take c (plan_steps L (plan_with (pages L) (frees L) (some (record { sector = s; seen = r }))))) L)
  unfolding plan_with plan_steps
  with-reach c s r h p k = go (eqb r.erased 126) refl
    where
      go : (b : Bool) → eqb r.erased 126 ≡ b → Reach (run (take c (plan_steps L (cond b (Ok (Clear s)) (plan_to (pages L) s (get_last? (frees L)))))) L)
      go true q = erased-reach s h p (sym k ∙ eqb-true _ 126 q) c
      go false q = to_reach s h p c (get_last? (frees L)) refl

  -- wherever it is cut
  pub reach : (c : ℕ) → Reach (run (take c (reclaiming L)) L)
  unfolding reclaiming plan plan_steps
  reach c = whole (whole_sectors L)
    where
      page : (o : Option Page) → chosen (pages L) ≡ o → Reach (run (take c (plan_steps L (plan_with (pages L) (frees L) o))) L)
      page none k = unfold plan_with in nothing c
      page (some x) k =
          let m = (chosen_in (pages L) k).0 in
          let r = pages_in L x m in
          with-reach c x.sector x.seen r.1 r.2 (page-erased L x m)

      none_active : (b : Bool) → Reach (run (take c (plan_steps L (cond b (Err ActiveStands) (plan_with (pages L) (frees L) (chosen (pages L)))))) L)
      none_active true = nothing c
      none_active false = page (chosen (pages L)) refl

      whole : (b : Bool)
          → Reach (run (take c (cond b (plan_steps L (cond (some_of active_page (pages L)) (Err ActiveStands) (plan_with (pages L) (frees L) (chosen (pages L))))) [])) L)
      whole true = none_active (some_of active_page (pages L))
      whole false = nothing c
