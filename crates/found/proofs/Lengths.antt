-- How many items are found, and how many steps erase them all: 126 a page at most, as a page has 126 entries. Assumes nothing.
use mathlib.Core.Path.{◌≡◌, refl}
use mathlib.Core.Bool.{Bool, true, false, cond}
use mathlib.Core.List.{List, ◌∷◌}
use Prim.Native.Nat.{ℕ, zero, suc, ◌+◌, ◌-◌, ◌≤◌}
use native.Mathlib.Omega.{arith}
use lib.ListN.{length, length-map}
use Rattle.entry.specs.Fields.{entry_at, span_of}
use Rattle.page.specs.Walk.{Laid, is_item, laid_at, on_from, walk}
use Rattle.page.proofs.Walking.{item_span, raw-span}
use Rattle.page.proofs.Items.{walk_most}
use Rattle.flash.specs.Step.{sector}
use Rattle.item.specs.Erase.{erasing}
use Rattle.item.proofs.Lengths.{length-erasing}
use Rattle.lists.specs.Lists.{sum_of}
use Rattle.lists.proofs.Maps.{sum-flat_map, sum-map}
use Rattle.lists.proofs.Lengths.{length_flat, flat_most, sum_most}
use Rattle.table.specs.declared.Page.{Page}
use Rattle.table.specs.Table.{items_in}
use Rattle.found.specs.Found.{Found, found_on, found, erase_all}

-- the steps that erase an item
abbrev pub steps_for : Found → ℕ
steps_for x = length (erasing x.sector x.entry (span_of x.raw))

pub length-erased : (xs : List Found) → length (erase_all xs) ≡ sum_of steps_for xs
unfolding erase_all
length-erased xs = length_flat (λ (x : Found). erasing x.sector x.entry (span_of x.raw)) xs

-- a walk from entry i on
walk_steps : (s : ℕ) (t : List ℕ) (n i : ℕ) → sum_of (λ (x : Laid). length (erasing s x.entry (span_of x.raw))) (walk t n i) ≤ 126 - i
unfolding walk sum_of
walk_steps s t zero i = omega arith
walk_steps s t (suc n) i = go (is_item t i) refl (walk_steps s t n (on_from t i))
  where
    f : Laid → ℕ
    f x = length (erasing s x.entry (span_of x.raw))

    go : (b : Bool) → is_item t i ≡ b → sum_of f (walk t n (on_from t i)) ≤ 126 - cond b (i + span_of (entry_at t i)) (i + 1)
        → sum_of f (cond b (laid_at t i ∷ walk t n (on_from t i)) (walk t n (on_from t i))) ≤ 126 - i
    go true q rest =
        let e = raw-span t i q in
        let p = item_span t i q in
        omega (arith, length-erasing s i (span_of (laid_at t i).raw))
    go false q rest = omega arith

-- 16 pages of 126 entries
abbrev pub most_found : ℕ
most_found = 2016

pub found_most : (ps : List Page) (l : List ℕ) → length ps ≤ 16 → length (found ps l) ≤ most_found
unfolding found found_on items_in
found_most ps l h = flat_most (found_on l) 126 16 page ps h
  where
    page : (p : Page) → length (found_on l p) ≤ 126
    page p = rw (length-map {B = Found} (walk (sector p.sector l) 126 0) (λ (x : Laid). record { sector = p.sector; sequence = p.seen.sequence; entry = x.entry; raw = x.raw })) (walk_most (sector p.sector l) 126 0)

pub erased_most : (ps : List Page) (l : List ℕ) → length ps ≤ 16 → length (erase_all (found ps l)) ≤ most_found
unfolding found found_on items_in
erased_most ps l h = rw (length-erased (found ps l), sum-flat_map steps_for (found_on l) ps) (sum_most (λ (p : Page). sum_of steps_for (found_on l p)) 126 16 page ps h)
  where
    page : (p : Page) → sum_of steps_for (found_on l p) ≤ 126
    page p = rw (sum-map steps_for (λ (x : Laid). record { sector = p.sector; sequence = p.seen.sequence; entry = x.entry; raw = x.raw }) (walk (sector p.sector l) 126 0)) (walk_steps p.sector (sector p.sector l) 126 0)
