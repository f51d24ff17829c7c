-- Erasing one item, whose header's state word comes last: before it the page's items are the same, and after it the same but this one. Assumes nothing.
use mathlib.Core.Path.{◌∙◌, ◌≡◌, ap, refl, sym}
use mathlib.Core.Logic.{◌⊎◌, inl, inr, ⊎_elim}
use mathlib.Core.Bool.{Bool, false, not, true}
use mathlib.Core.List.{List}
use Prim.Native.Nat.{◌*◌, ◌+◌, ◌<◌, ◌≤◌, ℕ}
use native.Mathlib.Omega.{arith}
use lib.Dec.{eqb}
use lib.ListN.{drop, length, take}
use lib.Seq.{take_all, take-length}
use borrow.Author.Tests.{eqb-false, eqb-true, ne_eqb}
use Rattle.word.specs.Number.{part}
use Rattle.entry.specs.States.{state_at}
use Rattle.entry.specs.Fields.{entry_at, span_of}
use Rattle.page.specs.declared.state.PageState.{PageState}
use Rattle.page.specs.declared.state.PageState.TheVariants.{Active, Blank, Corrupt, Freeing, Full}
use Rattle.page.specs.State.{is_free, state_of}
use Rattle.page.specs.Walk.{Laid, is_item, items_of, laid_at}
use Rattle.flash.specs.Step.{Step, run, sector}
use Rattle.flash.proofs.Erased.{length-sector}
use Rattle.flash.proofs.Every.{every_take}
use Rattle.flash.proofs.Frame.{AllIn, In, drop-kept, length_run, part-kept, sector-kept}
use Rattle.flash.proofs.Lent.{Fit, sector-local, take-shift}
use Rattle.flash.proofs.Order.{le-or-gt}
use Rattle.marking.specs.Marking.{unmarking}
use Rattle.item.specs.Erase.{erasing}
use Rattle.item.proofs.Local.{erasing-shift, unmarking_fit}
use Rattle.item.proofs.Safe.{erasing_in}
use Rattle.marking.proofs.Spans.{unmarking-before, unmarking_ends, unmarking_in, unmarking-keeps}
use Rattle.lists.proofs.Search.{in_keep}
use Rattle.lists.proofs.Member.{◌∈◌, true≢false}
use Rattle.table.specs.Table.{sectors_of}
use Rattle.found.specs.Found.{Found}
use Rattle.page.proofs.Walking.{raw-span}
use Rattle.page.proofs.Items.{Real, is_item_lem, walk_in}
use Rattle.power.proofs.Once.{but, items_in}
use Rattle.page.proofs.Read.{right_same, state_inv, state_is, state_byte, word_by}
use Rattle.item.proofs.Shape.{word-keep}
use Rattle.power.proofs.Walks.{items-gone, items_kept}

-- ---- steps within the entry states leave the page's header

state-word : (M : PageState) → is_free M ≡ false → (state_byte M ≡ 0xFF → ⊥) × (word_by (state_byte M) true ≡ M)
state-word Blank f = absurd (true≢false refl f)
state-word Corrupt f = absurd (true≢false refl f)
state-word Active f = (λ e. omega arith, refl)
state-word Full f = (λ e. omega arith, refl)
state-word Freeing f = (λ e. omega arith, refl)

module _ (T : List ℕ) (ss : List Step) (within : AllIn 32 64 ss) where
  header-kept : part (run ss T) 4 28 ≡ part T 4 28
  header-kept = part-kept 32 64 4 28 ss T within (inl (omega arith))

  state-kept : is_free (state_of T) ≡ false → state_of (run ss T) ≡ state_of T
  state-kept f =
      let b = state_byte (state_of T) in
      let i = state_inv T (state_of T) refl f in
      let w = state-word (state_of T) f in
      state_is (run ss T) b w.0 (right_same T (run ss T) header-kept ∙ i.0) (word-keep ss T 32 64 b within (omega arith) i.1) ∙ w.1

-- ---- the item

-- an item that stands on a page of the image l
abbrev pub Stands : List ℕ → Found → Type 0
Stands l x = (x.sector < sectors_of l) × (record { entry = x.entry; raw = x.raw } ∈ items_of (sector x.sector l))

-- the steps that erase it
abbrev pub erasure : Found → List Step
erasure x = erasing x.sector x.entry (span_of x.raw)

-- what any number of them leaves: the other sectors, and the page but its items
pub record Erases (l : List ℕ) (x : Found) (m : List ℕ) : Type 0 where
  pub len : length m ≡ length l
  pub others : (u : ℕ) → (u ≡ x.sector → ⊥) → sector u m ≡ sector u l
  pub state : state_of (sector x.sector m) ≡ state_of (sector x.sector l)

module _ (l : List ℕ) (x : Found) (S : Stands l x) where
  abbrev s : ℕ
  s = x.sector

  abbrev e : ℕ
  e = x.entry

  abbrev n : ℕ
  n = span_of x.raw

  abbrev T : List ℕ
  T = sector s l

  abbrev this : Laid
  this = record { entry = e; raw = x.raw }

  on_page : (is_free (state_of T) ≡ false) × Real T this
  on_page = let r = items_in T this S.1 in (r.0, walk_in T 126 0 this r.1)

  span : span_of (entry_at T e) ≡ n
  span = let r = on_page.1 in sym (ap span_of r.bytes ∙ raw-span T e (is_item_lem T e r.is))

  fits : e + n ≤ 126
  fits = let q = span in let a = on_page.1.is.ends in omega arith

  long : 4096 ≤ length T
  long = let q = length-sector s l in let h = S.0 in omega arith

  is : is_item T e ≡ true
  is = is_item_lem T e on_page.1.is

  laid : laid_at T e ∈ items_of T
  laid = rw on_page.1.bytes at S.1

  -- the same steps on the page's own bytes
  abbrev steps : List Step
  steps = unmarking 0 e n

  local : (k : ℕ) → sector s (run (take k (erasure x)) l) ≡ run (take k steps) T
  local k =
      rw (erasing-shift s e n, take-shift (s * 4096) k steps) (sector-local s (take k steps) l (every_take (Fit 4096) k steps (unmarking_fit e n fits)))

  within : (k : ℕ) → AllIn 32 64 (take k steps)
  within k = every_take (In 32 64) k steps (unmarking_in 0 e n fits)

  rest : (k : ℕ) → drop 64 (run (take k steps) T) ≡ drop 64 T
  rest k = drop-kept 32 64 (take k steps) T (within k)

  state : (k : ℕ) → state_of (run (take k steps) T) ≡ state_of T
  state k = state-kept T (take k steps) (within k) on_page.0

  -- any number of steps changes states of entries alone
  pub erases : (k : ℕ) → Erases l x (run (take k (erasure x)) l)
  erases k = record {
    len = length_run (take k (erasure x)) l;
    others = λ u ne. sector-kept u s (take k (erasure x)) l ne (every_take (In (s * 4096) (s * 4096 + 4096)) k (erasure x) (erasing_in s e n fits));
    state = rw (local k) (state k);
  }

  -- the other entries, while the steps are made
  same : (k i : ℕ) → (i < e) ⊎ (e + n ≤ i) → state_at (run (take k steps) T) i ≡ state_at T i
  same k i o = unmarking-keeps 0 e n fits i o T long k

  whole : (k : ℕ) → length steps ≤ k → take k (erasure x) ≡ erasure x
  whole k h = rw (erasing-shift s e n, take-shift (s * 4096) k steps, take_all k steps h)

  -- before the last one the items are the same, then all is done
  pub before : (k : ℕ) → (items_of (sector x.sector (run (take k (erasure x)) l)) ≡ items_of (sector x.sector l)) ⊎ (take k (erasure x) ≡ erasure x)
  before k = ⊎_elim (λ h. inr (whole k h)) (λ h. inl (rw (local k) (kept h))) (le-or-gt (length steps) k)
    where
      kept : k < length steps → items_of (run (take k steps) T) ≡ items_of T
      kept h = items_kept T (run (take k steps) T) (rest k) e n is span (same k) (unmarking-before 0 e n fits T long k h) laid (state k)

  -- after it they are the same but this one
  pub after : items_of (sector x.sector (run (erasure x) l)) ≡ but x.entry (items_of (sector x.sector l))
  after = rw (← whole k (omega arith), local k) (items-gone T (run (take k steps) T) (rest k) e n is span (same k) gone laid (state k))
    where
      k : ℕ
      k = length steps

      gone : (i : ℕ) → e ≤ i → i < e + n → state_at (run (take k steps) T) i ≡ 0
      gone i a b = rw (take-length steps) (unmarking_ends 0 e n fits T long i a b)

  -- and every other item still stands
  pub stands_after : (y : Found) → Stands l y → (y.sector ≡ x.sector → y.entry ≡ x.entry → ⊥) → Stands (run (erasure x) l) y
  stands_after y h ne = (rw (length_run (erasure x) l) h.0, go (eqb y.sector s) refl)
    where
      go : (b : Bool) → eqb y.sector s ≡ b → record { entry = y.entry; raw = y.raw } ∈ items_of (sector y.sector (run (erasure x) l))
      go true q =
          let r = eqb-true y.sector s q in
          rw (r, after) (in_keep (λ (i : Laid). not (eqb i.entry e)) (items_of T) _ (rw r at h.1) (rw (ne_eqb y.entry e (ne r))))
      go false q = rw (sector-kept y.sector s (erasure x) l (eqb-false y.sector s q) (erasing_in s e n fits)) h.1
