-- The images that reclaim and recovery can be cut at, and what the page list of each is. L is the store at the start, s the source. Assumes nothing.
use mathlib.Core.Path.{◌∙◌, ◌≡◌, ap, refl}
use mathlib.Core.Logic.{◌⊎◌, inl, inr, ⊎_elim}
use mathlib.Core.Bool.{Bool, cond, false, true}
use mathlib.Core.List.{List, []}
use Prim.Native.Nat.{◌/◌, ◌<◌, ◌≤◌, ℕ}
use lib.Dec.{eqb}
use lib.ListN.{length}
use borrow.Author.Tests.{eqb-false, eqb-true}
use Rattle.entry.specs.States.{one}
use Rattle.page.specs.declared.state.PageState.{PageState}
use Rattle.page.specs.declared.seen.Seen.{Seen}
use Rattle.page.specs.declared.state.PageState.TheVariants.{Active, Freeing, Full}
use Rattle.page.specs.Record.{seen_of}
use Rattle.page.specs.State.{is_free, sequence_of, state_of}
use Rattle.page.specs.Walk.{items_of}
use Rattle.flash.specs.Step.{sector}
use Rattle.lists.proofs.Member.{◌∈◌, true≢false}
use Rattle.lists.proofs.Range.{sum_to_at}
use Rattle.table.specs.declared.Page.{Page}
use Rattle.table.specs.Table.{freeing_page, page_at, pages, sectors_of, sequence}
use Rattle.table.proofs.Pages.{in_pages, pages_in, sum-pages}
use Rattle.page.proofs.Fields.{seen_sequence, seen_state}
use Rattle.finish.specs.Finish.{name_of, same_bytes}
use Rattle.finishing.specs.Finishing.{freeings}
use Rattle.power.specs.Demand3.{total}
use Rattle.item.proofs.Shape.{raws}
use Rattle.relocate.proofs.Copies.{Partial, Settled}

-- the pages other than the source stand as they were
pub record Side (L l : List ℕ) (s : ℕ) : Type 0 where
  pub len : length l ≡ length L
  pub kept : (u : ℕ) → u < sectors_of L → (u ≡ s → ⊥) → is_free (state_of (sector u L)) ≡ false → sector u l ≡ sector u L

-- the source is Freeing, and reads as it did
pub record Source (L l : List ℕ) (s : ℕ) : Type 0 where
  pub state : state_of (sector s l) ≡ Freeing
  pub seq : sequence_of (sector s l) ≡ sequence_of (sector s L)
  pub items : items_of (sector s l) ≡ items_of (sector s L)

-- the sectors that were free are free
abbrev pub AllFree : List ℕ → List ℕ → Type 0
AllFree L l = (u : ℕ) → u < sectors_of L → is_free (state_of (sector u L)) ≡ true → is_free (state_of (sector u l)) ≡ true

-- but one, that has become a page newer than all
pub record Target (L l : List ℕ) (t q : ℕ) : Type 0 where
  pub here : t < sectors_of L
  pub was : is_free (state_of (sector t L)) ≡ true
  pub rest : (u : ℕ) → u < sectors_of L → (u ≡ t → ⊥) → is_free (state_of (sector u L)) ≡ true → is_free (state_of (sector u l)) ≡ true
  pub seq : sequence_of (sector t l) ≡ q
  pub above : (u : ℕ) → u < sectors_of L → is_free (state_of (sector u L)) ≡ false → sequence_of (sector u L) < q
  pub bound : q ≤ 0xFFFFFFF0

-- the images: none of them fixes the target or its sequence, so recovery may take another
pub data State (L : List ℕ) (s : ℕ) (l : List ℕ) : Type 0 where
  -- the store as it was
  same : l ≡ L → State L s l
  -- the source is marked Freeing; no target is made yet, whatever was written to its sector
  junk : Side L l s → Source L l s → (t : ℕ) → t < sectors_of L → is_free (state_of (sector t L)) ≡ true → AllFree L l → State L s l
  -- the target is Active: items of the source, and all of them where no entry is Empty
  partly : (t q : ℕ) → Side L l s → Source L l s → Target L l t q → state_of (sector t l) ≡ Active → Partial (sector s L) (sector t l) → State L s l
  -- the target is Full, with all of them
  full : (t q : ℕ) → Side L l s → Source L l s → Target L l t q → state_of (sector t l) ≡ Full → raws (items_of (sector t l)) ≡ raws (items_of (sector s L)) → State L s l
  -- the source is erased, and the target has its items
  done : (t q : ℕ) → Side L l s → is_free (state_of (sector s l)) ≡ true → Target L l t q → Settled (sector t l)
      → raws (items_of (sector t l)) ≡ raws (items_of (sector s L)) → State L s l
  -- the source is erased, and had none
  gone : Side L l s → is_free (state_of (sector s l)) ≡ true → AllFree L l → items_of (sector s L) ≡ [] → State L s l

-- what is known of the store at the start
pub record Good (L : List ℕ) (s : ℕ) : Type 0 where
  pub here : s < sectors_of L
  pub page : is_free (state_of (sector s L)) ≡ false
  pub fulls : (u : ℕ) → u < sectors_of L → is_free (state_of (sector u L)) ≡ false → state_of (sector u L) ≡ Full
  pub below : (u : ℕ) → u < sectors_of L → is_free (state_of (sector u L)) ≡ false → sequence_of (sector u L) < 0xFFFFFFF0
  pub unique : (x : List ℕ) → total (λ (r : List ℕ). one (same_bytes (name_of r) x)) L ≤ 1

-- ---- the page lists: a page is the source, the target, or an old page

-- a target was free, so it is none of the pages of the store
pub target_apart : (L l : List ℕ) (t q : ℕ) → Target L l t q → (u : ℕ) → is_free (state_of (sector u L)) ≡ false → u ≡ t → ⊥
target_apart L l t q T u e k = true≢false T.was (rw k at e)

-- what the list says of the source
pub record SourceRecord (L : List ℕ) (s : ℕ) (r : Seen) : Type 0 where
  pub is_freeing : r.state ≡ Freeing
  pub same_sequence : r.sequence ≡ sequence_of (sector s L)

-- and of a target in the state M
pub record TargetRecord (M : PageState) (q : ℕ) (r : Seen) : Type 0 where
  pub in_state_lem : r.state ≡ M
  pub has-sequence : r.sequence ≡ q

module _ (L : List ℕ) (s : ℕ) where
  -- a page of the store that is not the source, listed as it was
  abbrev pub Old : Page → Type 0
  Old p = (p ≡ page_at p.sector L) × (p.sector < sectors_of L) × (p.sector ≡ s → ⊥) × (is_free (state_of (sector p.sector L)) ≡ false)

  -- what the record of an old page says
  pub old-sequence : (p : Page) → Old p → sequence p ≡ sequence_of (sector p.sector L)
  old-sequence p k = ap {B = ℕ} (λ (z : Page). sequence z) k.0 ∙ seen_sequence (sector p.sector L) k.3

  module _ (G : Good L s) where
    -- an old page is Full
    pub old-full : (p : Page) → Old p → p.seen.state ≡ Full
    old-full p k = ap {B = PageState} (λ (z : Page). z.seen.state) k.0 ∙ seen_state (sector p.sector L) ∙ G.fulls p.sector k.1 k.3

    module _ (l : List ℕ) (D : Side L l s) where
      -- there are as many sectors
      pub n_same : sectors_of l ≡ sectors_of L
      n_same = ap (λ (k : ℕ). k / 4096) D.len

      -- an old page is listed as it was
      pub old-page : (u : ℕ) → u < sectors_of L → (u ≡ s → ⊥) → is_free (state_of (sector u L)) ≡ false → page_at u l ≡ page_at u L
      old-page u h ne e = ap (λ (T : List ℕ). record { sector = u; seen = seen_of T }) (D.kept u h ne e)

      pub old_in : (u : ℕ) → u < sectors_of L → (u ≡ s → ⊥) → is_free (state_of (sector u L)) ≡ false → page_at u L ∈ pages l
      old_in u h ne e = rw (old-page u h ne e) at (in_pages l u (rw n_same h) (rw (D.kept u h ne e) e))

      -- a page of l that is not free in L is the source or old
      page_of : (p : Page) → p ∈ pages l → is_free (state_of (sector p.sector L)) ≡ false → (p.sector ≡ s → ⊥) → Old p
      page_of p m e ne =
          let r = pages_in l p m in
          let h : p.sector < sectors_of L = rw n_same at r.1 in
          (r.0 ∙ old-page p.sector h ne e, h, ne, e)

      -- the source and the target in the list
      pub source_record : Source L l s → SourceRecord L s (seen_of (sector s l))
      source_record S = record { is_freeing = seen_state (sector s l) ∙ S.state; same_sequence = seen_sequence (sector s l) (rw S.state) ∙ S.seq }

      pub source_in : Source L l s → page_at s l ∈ pages l
      source_in S = in_pages l s (rw n_same G.here) (rw S.state)

      pub target_record : (t q : ℕ) → Target L l t q → (M : PageState) → state_of (sector t l) ≡ M → is_free M ≡ false → TargetRecord M q (seen_of (sector t l))
      target_record t q T M e f = record { in_state_lem = seen_state (sector t l) ∙ e; has-sequence = seen_sequence (sector t l) (rw e f) ∙ T.seq }

      pub target_in : (t q : ℕ) → Target L l t q → (M : PageState) → state_of (sector t l) ≡ M → is_free M ≡ false → page_at t l ∈ pages l
      target_in t q T M e f = in_pages l t (rw n_same T.here) (rw e f)

      -- the list of an image with no target, and with one
      split : (p : Page) → p ∈ pages l → ((p.sector ≡ s) ⊎ Old p) ⊎ (is_free (state_of (sector p.sector L)) ≡ true)
      split p m = go (eqb p.sector s) refl (is_free (state_of (sector p.sector L))) refl
        where
          go : (a : Bool) → eqb p.sector s ≡ a → (b : Bool) → is_free (state_of (sector p.sector L)) ≡ b
              → ((p.sector ≡ s) ⊎ Old p) ⊎ (is_free (state_of (sector p.sector L)) ≡ true)
          go true q b r = inl (inl (eqb-true p.sector s q))
          go false q false r = inl (inr (page_of p m r (eqb-false p.sector s q)))
          go false q true r = inr r

      at_sector : (p : Page) → p ∈ pages l → (u : ℕ) → p.sector ≡ u → p ≡ page_at u l
      at_sector p m u e = (pages_in l p m).0 ∙ ap (λ (v : ℕ). page_at v l) e

      -- without a target, a listed page is the source or an old one
      pub junk-page : AllFree L l → (p : Page) → p ∈ pages l → (p ≡ page_at s l) ⊎ Old p
      junk-page F p m = ⊎_elim (λ k. ⊎_elim (λ e. inl (at_sector p m s e)) (λ o. inr o) k) (λ k. absurd (bad k)) (split p m)
        where
          bad : is_free (state_of (sector p.sector L)) ≡ true → ⊥
          bad k = let r = pages_in l p m in true≢false (F p.sector (rw n_same at r.1) k) r.2

      -- with one, it is one of the three
      pub target_page : (t q : ℕ) → Target L l t q → (p : Page) → p ∈ pages l → (p ≡ page_at s l) ⊎ ((p ≡ page_at t l) ⊎ Old p)
      target_page t q T p m = ⊎_elim (λ k. ⊎_elim (λ e. inl (at_sector p m s e)) (λ o. inr (inr o)) k) (λ k. inr (inl (at (eqb p.sector t) refl k))) (split p m)
        where
          at : (b : Bool) → eqb p.sector t ≡ b → is_free (state_of (sector p.sector L)) ≡ true → p ≡ page_at t l
          at true r k = at_sector p m t (eqb-true p.sector t r)
          at false r k = let z = pages_in l p m in absurd (true≢false (T.rest p.sector (rw n_same at z.1) (eqb-false p.sector t r) k) z.2)

      -- one page of the list is Freeing
      pub freeings_one : Source L l s → ((p : Page) → p ∈ pages l → freeing_page p ≡ true → p ≡ page_at s l) → freeings (pages l) ≡ 1
      unfolding freeings
      freeings_one S h =
          sum-pages l (λ (p : Page). one (freeing_page p))
          ∙ sum_to_at (λ (u : ℕ). cond (is_free (state_of (sector u l))) 0 (one (freeing_page (page_at u l)))) (sectors_of l) s (rw n_same G.here)
          (λ u k ne. zero_at u k ne (is_free (state_of (sector u l))) refl (freeing_page (page_at u l)) refl)
          ∙ rw (S.state, (source_record S).is_freeing)
        where
          zero_at : (u : ℕ) → u < sectors_of l → (u ≡ s → ⊥) → (a : Bool) → is_free (state_of (sector u l)) ≡ a → (b : Bool) → freeing_page (page_at u l) ≡ b
              → cond a 0 (one b) ≡ 0
          zero_at u k ne true e b f = refl
          zero_at u k ne false e false f = refl
          zero_at u k ne false e true f = absurd (ne (ap {B = ℕ} (λ (p : Page). p.sector) (h (page_at u l) (in_pages l u k e) f)))
