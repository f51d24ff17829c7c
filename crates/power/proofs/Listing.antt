-- A list that holds the pages of the image in some order: what is found on it is each item of the store, once. Assumes nothing.
use mathlib.Core.Path.{◌∙◌, ◌≡◌, ap, refl, sym}
use mathlib.Core.Bool.{cond, false}
use mathlib.Core.List.{List}
use Prim.Native.Nat.{◌/◌, ◌<◌, ◌≤◌, ℕ}
use native.Mathlib.Omega.{arith}
use lib.Dec.{eqb}
use lib.ListN.{length}
use borrow.Author.Tests.{eq-eqb, eqb-true}
use Rattle.entry.specs.States.{one}
use Rattle.page.specs.State.{is_free, state_of}
use Rattle.page.specs.Walk.{Laid}
use Rattle.flash.specs.Step.{sector}
use Rattle.lists.specs.Lists.{sum_of, sum_to}
use Rattle.lists.proofs.Member.{◌∈◌}
use Rattle.lists.proofs.Maps.{flat_map_in, map_in}
use Rattle.lists.proofs.Sums.{sum_ext, sum-ge}
use Rattle.lists.proofs.Range.{sum_to_ext}
use Rattle.table.specs.declared.Page.{Page}
use Rattle.table.specs.Table.{frees, in_sector, items_in, pages, sectors_of}
use Rattle.table.proofs.Pages.{length-frees, once, pages_in, sum-pages, listed-items}
use Rattle.table.proofs.Places.{one_cond}
use Rattle.found.specs.Found.{Found, found, found_on}
use Rattle.duplicates.proofs.Apart.{found_once}
use Rattle.duplicates.proofs.Once.{Once}
use Rattle.quick.specs.Calm.{tot}
use Rattle.quick.proofs.Counts.{one_true, pos_in}
use Rattle.power.specs.Demand3.{total}
use Rattle.power.proofs.Erasing.{Stands}
use Rattle.power.proofs.Steps.{free_at}
use Rattle.power.proofs.Totals.{found_total, total-walked, walked}

abbrev pub Lists : List ℕ → List Page → Type 0
Lists l ps = (h : ℕ → ℕ) → sum_of (λ (p : Page). h p.sector) ps ≡ sum_of (λ (p : Page). h p.sector) (pages l)

-- where the same sectors are free
pub lists_same : (l m : List ℕ) (ps : List Page) → length m ≡ length l → ((u : ℕ) → is_free (state_of (sector u m)) ≡ is_free (state_of (sector u l))) → Lists l ps → Lists m ps
lists_same l m ps e s P h =
    let a = sum-pages m (λ (p : Page). h p.sector) ∙ ap (λ (k : ℕ). sum_to (λ (u : ℕ). cond (is_free (state_of (sector u m))) 0 (h u)) (k / 4096)) e in
    let b = sum_to_ext (λ (u : ℕ). cond (is_free (state_of (sector u m))) 0 (h u)) (λ (u : ℕ). cond (is_free (state_of (sector u l))) 0 (h u)) (sectors_of l) (λ u k. rw (s u)) in
    let c = sum-pages l (λ (p : Page). h p.sector) in
    P h ∙ c ∙ sym b ∙ sym a

-- there are as many free ones
pub frees_same : (l m : List ℕ) → length m ≡ length l → ((u : ℕ) → is_free (state_of (sector u m)) ≡ is_free (state_of (sector u l))) → length (frees m) ≡ length (frees l)
frees_same l m e s =
    length-frees m ∙ ap (λ (k : ℕ). sum_to (free_at m) (k / 4096)) e ∙ sum_to_ext (free_at m) (free_at l) (sectors_of l) (λ u h. rw (s u)) ∙ sym (length-frees l)

module _ (l : List ℕ) (ps : List Page) (P : Lists l ps) where
  pub listed-total : (f : List ℕ → ℕ) → tot f (found ps l) ≡ total f l
  listed-total f = found_total f ps l ∙ P (walked f l) ∙ sym (total-walked f l)

  -- each is a page of the image, and stands there once
  pub listed-page : (p : Page) → p ∈ ps → (p.sector < sectors_of l) × (is_free (state_of (sector p.sector l)) ≡ false)
  listed-page p m =
      let a = sum-ge (λ (q : Page). one (eqb q.sector p.sector)) ps p m in
      let b = one_true (eqb p.sector p.sector) (eq-eqb p.sector p.sector refl) in
      let c = P (λ (u : ℕ). one (eqb u p.sector)) in
      let q = pos_in (λ (q : Page). eqb q.sector p.sector) (pages l) (omega arith) in
      let r = pages_in l q.0 q.1 in
      rw (← eqb-true q.0.sector p.sector q.2) (r.1, r.2)

  pub listed-stands : (x : Found) → x ∈ found ps l → Stands l x
  unfolding found found_on
  listed-stands x m =
      let g = flat_map_in (found_on l) ps x m in
      let k = map_in _ (items_in g.0.sector l) x g.2 in
      at g.0 k.0 (listed-page g.0 g.1) k.1 k.2
    where
      at : (p : Page) (i : Laid) → (p.sector < sectors_of l) × (is_free (state_of (sector p.sector l)) ≡ false) → i ∈ items_in p.sector l
          → x ≡ record { sector = p.sector; sequence = p.seen.sequence; entry = i.entry; raw = i.raw } → Stands l x
      at p i h k e = rw e (h.0, rw (listed-items p.sector l h.1) at k)

  pub listed-count : (u : ℕ) → sum_of (λ (p : Page). one (in_sector u p)) ps ≤ 1
  listed-count u = rw (P (λ (v : ℕ). one (eqb v u)), sum_ext (λ (p : Page). one (in_sector u p)) _ (pages l) (λ p m. one_cond (in_sector u p))) (once l u)

  pub listed-once : Once (found ps l)
  listed-once = found_once ps l listed-count
