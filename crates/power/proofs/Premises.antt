-- What the premises of demand 3 and of its general form give: every page is Full, and the items are tidy. Assumes nothing.
use mathlib.Core.Path.{◌≡◌, ap}
use mathlib.Core.Logic.{⊎_elim}
use mathlib.Core.Bool.{◌&&◌, ◌||◌, false, true}
use mathlib.Core.List.{List}
use Prim.Native.Nat.{◌*◌, ◌+◌, ◌<◌, ℕ}
use native.Mathlib.Omega.{arith}
use lib.Dec.{eqb, ltb}
use lib.ListN.{get_or}
use borrow.Author.Tests.{eq-eqb, ltb-true}
use Rattle.entry.specs.States.{one}
use Rattle.entry.specs.Fields.{entry_at, namespace_of, span_of}
use Rattle.page.specs.declared.state.PageState.TheVariants.{Full}
use Rattle.page.specs.Record.{seen_of}
use Rattle.page.specs.State.{is_free, sequence_of, state_of}
use Rattle.page.specs.Walk.{Laid}
use Rattle.page.proofs.Tests.{both_is, neither_first, neither-second}
use Rattle.flash.specs.Step.{sector}
use Rattle.flash.proofs.Order.{le-or-gt}
use Rattle.lists.proofs.Sums.{sum-ge}
use Rattle.lists.proofs.Search.{every_of, none_of}
use Rattle.lists.proofs.Maps.{flat_map_in, map_in}
use Rattle.lists.proofs.Member.{◌∈◌, true≢false}
use Rattle.table.specs.declared.Page.{Page}
use Rattle.table.specs.Table.{active_page, freeing, freeing_page, items_in, page_at, pages, sectors_of, sequence}
use Rattle.table.proofs.Pages.{in_pages}
use Rattle.page.proofs.Fields.{seen_sequence, seen_state}
use Rattle.found.specs.Found.{Found, found, found_on, is_part}
use Rattle.found.proofs.Keys.{key-lt}
use Rattle.flash.proofs.Small.{part_small}
use Rattle.plan.proofs.Closed.{neither-closed}
use Rattle.power.specs.Demand3.{Premises}
use Rattle.power.proofs.State.{Good}
use Rattle.power.proofs.Calm.{Tidy}
use Rattle.power.proofs.Quiet.{Still}
use Rattle.power.proofs.Steps.{still_else}
use Rattle.page.proofs.Items.{walk_in}
use Rattle.power.proofs.Totals.{total_found}

module _ (L : List ℕ) (S : Premises L) where
  abbrev n : ℕ
  n = sectors_of L

  neither : (p : Page) → p ∈ pages L → active_page p || freeing_page p ≡ false
  neither p m = none_of (λ (z : Page). active_page z || freeing_page z) (pages L) S.active-or-freeing p m

  -- no page is Active, and none is Freeing
  pub no-active : (p : Page) → p ∈ pages L → active_page p ≡ false
  no-active p m = neither_first (active_page p) _ (neither p m)

  pub no-freeing : (p : Page) → p ∈ pages L → freeing_page p ≡ false
  no-freeing p m = neither-second (active_page p) _ (neither p m)

  -- the same of a sector
  pub state_of_lem : (u : ℕ) → u < n → Still (state_of (sector u L))
  state_of_lem u h = still_else (state_of (sector u L)) (λ e.
      let m = in_pages L u h e in
      let r = seen_state (sector u L) in
      (rw r at (no-active (page_at u L) m), rw r at (no-freeing (page_at u L) m)))

  is_full : (u : ℕ) → u < n → is_free (state_of (sector u L)) ≡ false → state_of (sector u L) ≡ Full
  is_full u h f = let s = state_of_lem u h in ⊎_elim (λ e. e) (λ e. absurd (true≢false (ap freeing e) s.1)) (neither-closed (state_of (sector u L)) f s.0)

  below_at : (u : ℕ) → u < n → is_free (state_of (sector u L)) ≡ false → sequence_of (sector u L) < 0xFFFFFFF0
  below_at u h f =
      let a = every_of (λ (p : Page). ltb (sequence p) 0xFFFFFFF0) (pages L) S.below (page_at u L) (in_pages L u h f) in
      let b = ltb-true (seen_of (sector u L)).sequence 0xFFFFFFF0 a in
      let c = seen_sequence (sector u L) f in
      omega arith

  -- what the proof takes of the store, with a page s of it as source
  pub good : (s : ℕ) → s < n → is_free (state_of (sector s L)) ≡ false → Good L s
  good s h p = record { here = h; page = p; fulls = is_full; below = below_at; unique = S.unshared }

  -- ---- the items

  raw_small : (u : ℕ) (i : Laid) → i ∈ items_in u L → (j : ℕ) → get_or i.raw j 0 < 256
  unfolding items_in
  raw_small u i m j =
      rw (walk_in (sector u L) 126 0 i m).bytes
      (part_small (sector u L) (64 + i.entry * 32) (span_of (entry_at (sector u L) i.entry) * 32) (λ k. unfold sector in part_small L (u * 4096) 4096 S.bytes k) j)

  -- their keys are 16 bytes, and no part is of namespace 0
  pub tidy : Tidy (found (pages L) L)
  unfolding found found_on
  tidy x m =
      let g = flat_map_in (found_on L) (pages L) x m in
      let k = map_in _ (items_in g.0.sector L) x g.2 in
      let e : x.raw ≡ k.0.raw = ap {B = List ℕ} (λ (z : Found). z.raw) k.2 in
      (key-lt x.raw (λ j. rw e (raw_small g.0.sector k.0 k.1 j)), λ ip. ⊎_elim (λ h. h) (λ h. absurd (clash ip (omega arith))) (le-or-gt 1 (namespace_of x.raw)))
    where
      clash : is_part x.raw ≡ true → namespace_of x.raw ≡ 0 → ⊥
      clash ip z =
          let f : List ℕ → ℕ = (λ (r : List ℕ). one (is_part r && eqb (namespace_of r) 0)) in
          let a = sum-ge (λ (y : Found). f y.raw) (found (pages L) L) x m in
          let b = total_found f L in
          let c = S.part_in_0 in
          let d : f x.raw ≡ 1 = rw (both_is (is_part x.raw) (eqb (namespace_of x.raw) 0) ip (eq-eqb _ 0 z)) in
          omega arith
