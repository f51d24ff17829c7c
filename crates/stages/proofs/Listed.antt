-- What the lists of the scan, and of stage 1 after it, are fit for. Assumes nothing.
use Rattle.std.specs.Prelude.{Ok}
use mathlib.Core.Path.{◌≡◌, refl, ap, ◌∙◌}
use mathlib.Core.Bool.{Bool, true, false}
use mathlib.Core.List.{List}
use Prim.Native.Nat.{ℕ, ◌+◌, ◌-◌, ◌*◌, ◌/◌, ◌≤◌}
use native.Mathlib.Omega.{arith}
use lib.Dec.{ltb}
use lib.ListN.{length, get_or}
use borrow.Author.Tests.{le-leb, ltb-false}
use Rattle.entry.specs.States.{one}
use Rattle.flash.specs.Step.{run}
use Rattle.flash.specs.Did.{Did, Ran}
use Rattle.flash.proofs.Frame.{length_run}
use Rattle.flash.proofs.Laws.{did_all}
use Rattle.lists.specs.Lists.{greatest}
use Rattle.lists.proofs.Member.{◌∈◌}
use Rattle.page.specs.declared.state.PageState.{PageState}
use Rattle.page.specs.declared.state.PageState.TheVariants.{Blank, Corrupt, Active, Full, Freeing}
use Rattle.table.specs.declared.Page.{Page}
use Rattle.table.specs.declared.Table.{Table}
use Rattle.table.specs.Table.{sectors_of, pages, frees, sequence, active, freeing, active_page, freeing_page, as_full, listed, freed, Holds}
use Rattle.table.specs.PagesPlaced.{PagesPlaced}
use Rattle.table.proofs.Scanned.{pages_placed}
use Rattle.order.specs.Order.{ordering, ordered}
use Rattle.order.proofs.Kept.{ordered_placed, ordered-sum, ordered_in, ordered-greatest, ordering-keeps}
use Rattle.found.specs.Places.{Lies}
use Rattle.lists.specs.Each.{Each}
use Rattle.lists.proofs.Each.{each_of}
use Rattle.found.proofs.Lying.{lies_same, pages_lie}
use Rattle.finishing.specs.Finishing.{freeings}
use Rattle.stages.specs.Stages.{too_high}

pub held_placed : (l : List ℕ) {t : Table} → sectors_of l ≤ 16 → Holds t (pages l) (frees l) → PagesPlaced (sectors_of l) (listed t) (freed t)
held_placed l s h = rw (h.list, h.free) (pages_placed l s)

-- what stage 1 leaves: the image m, and the table u
pub record Ordered (l m : List ℕ) (u : Table) : Type 0 where
  pub list : listed u ≡ ordered (pages l)
  pub free : freed u ≡ frees l
  pub placed : PagesPlaced (sectors_of m) (listed u) (freed u)
  pub lies : Each (Lies m) (listed u)
  pub few : sectors_of m ≤ 16
  pub whole : length l ≡ sectors_of l * 4096 → length m ≡ sectors_of m * 4096

pub stage_1 : (l : List ℕ) {m : List ℕ} {t u : Table} {n k : ℕ} {r : Ran} → sectors_of l ≤ 16 → Holds t (pages l) (frees l)
    → Did (ordering (listed t)) n l m r → r ≡ Ok k → Holds u (ordered (listed t)) (freed t) → Ordered l m u
stage_1 l {m} {t} {u} s h d e g =
    let left : m ≡ run (ordering (pages l)) l = rw h.list at (did_all (rw e at d)) in
    let size : length m ≡ length l = ap length left ∙ length_run (ordering (pages l)) l in
    let list : listed u ≡ ordered (pages l) = g.list ∙ ap ordered h.list in
    let free : freed u ≡ frees l = g.free ∙ h.free in
    let sectors : sectors_of m ≡ sectors_of l = ap (λ (x : ℕ). x / 4096) size in
    record {
      list = list;
      free = free;
      placed = rw (list, free, sectors) (ordered_placed (pages_placed l s));
      lies = rw list (each_of (Lies m) (ordered (pages l)) (λ p i. lies_on m left size p (ordered_in (pages l) p i)));
      few = rw sectors s;
      whole = λ w. rw size w;
    }
  where
    lies_on : (m : List ℕ) → m ≡ run (ordering (pages l)) l → length m ≡ length l → (p : Page)
        → (q : Page) × (q ∈ pages l) × (p.sector ≡ q.sector) × (sequence p ≡ sequence q) → Lies m p
    lies_on m left size p q =
        let b = lies_same l m size (λ j a b. ap (λ (x : List ℕ). get_or x j 0) left ∙ ordering-keeps j a (pages l) l) q.0 (pages_lie l s q.0 q.1) in
        record { sixteen = rw q.2 b.sixteen; room = rw q.2 b.room; told = rw q.2 (q.3 ∙ b.told) }

-- ---- the sequences that stage 2 may take

as_freeing : (p : Page) → active_page p ≡ true → one (freeing_page (as_full p)) ≡ one (freeing_page p)
as_freeing p e = go p.seen.state e
  where
    go : (x : PageState) → active x ≡ true → one false ≡ one (freeing x)
    go Blank e = refl
    go Corrupt e = refl
    go Active e = refl
    go Full e = refl
    go Freeing e = let z : ◌≡◌ {A = Bool} false true = e in absurd (let y : ◌≡◌ {A = ℕ} 0 1 = cc in omega arith)

pub ordered-freeings : (l : List ℕ) → sectors_of l ≤ 16 → freeings (ordered (pages l)) ≡ freeings (pages l)
unfolding freeings
ordered-freeings l s = ordered-sum (pages_placed l s) (λ (p : Page). one (freeing_page p)) as_freeing

not-high : (ps : List Page) → too_high ps ≡ false → 1 ≤ freeings ps → freeings ps ≤ 16 → greatest sequence ps + freeings ps ≤ 0xFFFFFFFE
unfolding too_high
not-high ps e h k =
    let f = ltb-false (0xFFFFFFFE - freeings ps) (greatest sequence ps) (rw (le-leb 1 (freeings ps) h) at e) in
    omega arith

pub none_freeing : (ps : List Page) → freeings ps ≡ 0 → too_high ps ≡ false
unfolding too_high
none_freeing ps e = rw e

pub some_freeing : (ps : List Page) → (freeings ps ≡ 0 → ⊥) → too_high ps ≡ ltb (0xFFFFFFFE - freeings ps) (greatest sequence ps)
unfolding too_high
some_freeing ps e = rw (le-leb 1 (freeings ps) (omega (arith, e)))

pub sequences_left : (l : List ℕ) → sectors_of l ≤ 16 → too_high (pages l) ≡ false → (c : ℕ) → c ≡ freeings (ordered (pages l)) → (c ≡ 0 → ⊥) → c ≤ 16
    → greatest sequence (ordered (pages l)) + c ≤ 0xFFFFFFFE
sequences_left l s e c q z k =
    let same = ordered-freeings l s in
    let g = ordered-greatest (pages l) in
    let b = not-high (pages l) e (omega (arith, z)) (omega arith) in
    omega arith
