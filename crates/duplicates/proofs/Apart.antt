-- The items found on the listed pages stand at different places: each sector stands in the list once, and the walk goes on. Assumes nothing.
use mathlib.Core.Path.{◌≡◌, refl}
use mathlib.Core.Bool.{Bool, true, false, cond, ◌&&◌}
use mathlib.Core.List.{List, ◌∷◌, map}
use Prim.Native.Nat.{ℕ, zero, suc, ◌+◌, ◌^◌, ◌<◌, ◌≤◌}
use native.Mathlib.Omega.{arith}
use lib.Dec.{eqb, leb, ltb}
use lib.ListN.{get_or}
use borrow.Author.Tests.{eqb-true, leb-true, le-leb}
use Rattle.entry.specs.States.{one}
use Rattle.entry.specs.Fields.{key_of, key_number}
use Rattle.flash.specs.Step.{sector}
use Rattle.page.specs.Walk.{Laid, is_item, laid_at, on_from, walk}
use Rattle.page.proofs.Walking.{goes_on}
use Rattle.lists.specs.Lists.{sum_of}
use Rattle.lists.proofs.Member.{◌∈◌}
use Rattle.lists.proofs.Sums.{sum-le, sum-zero}
use Rattle.lists.proofs.Maps.{sum-flat_map, sum-map, map_in}
use Rattle.table.specs.declared.Page.{Page}
use Rattle.table.specs.Table.{items_in, in_sector}
use Rattle.table.specs.PagesPlaced.{times_in, PagesPlaced}
use Rattle.table.proofs.Places.{one_le}
use Rattle.found.specs.Found.{Found, found, found_on}
use Rattle.found.specs.Places.{place_of, item_at, Lies}
use Rattle.lists.specs.Each.{Each}
use Rattle.found.proofs.Finding.{found_as, items_found}
use Rattle.found.proofs.Keys.{item_key}
use Rattle.duplicates.specs.Duplicates.{same_place}
use Rattle.duplicates.proofs.Once.{Once}
use Rattle.duplicates.proofs.Grouping.{Apart}

-- ---- a page: the walk meets an entry once at most
later : (i j e : ℕ) → i < j → one (eqb i e) + one (leb j e) ≤ one (leb i e)
later i j e h = go (eqb i e) refl (leb j e) refl
  where
    go : (a : Bool) → eqb i e ≡ a → (b : Bool) → leb j e ≡ b → one a + one b ≤ one (leb i e)
    go true p true q = let x = eqb-true i e p in let y = leb-true j e q in absurd (omega arith)
    go true p false q = let x = eqb-true i e p in rw (le-leb i e (omega arith)) (omega arith)
    go false p true q = let y = leb-true j e q in rw (le-leb i e (omega arith)) (omega arith)
    go false p false q = omega arith

entry-once : (t : List ℕ) (e n i : ℕ) → sum_of (λ (w : Laid). one (eqb w.entry e)) (walk t n i) ≤ one (leb i e)
unfolding walk sum_of
entry-once t e zero i = omega arith
entry-once t e (suc n) i = go (is_item t i) (on_from t i) (goes_on t i) (entry-once t e n (on_from t i))
  where
    go : (b : Bool) (j : ℕ) → i < j → sum_of (λ (w : Laid). one (eqb w.entry e)) (walk t n j) ≤ one (leb j e)
        → sum_of (λ (w : Laid). one (eqb w.entry e)) (cond b (laid_at t i ∷ walk t n j) (walk t n j)) ≤ one (leb i e)
    go true j h ih = let a = later i j e h in omega arith
    go false j h ih = let a = later i j e h in omega arith

page-once : (l : List ℕ) (z : Found) (p : Page) → sum_of (λ (x : Found). one (same_place x z)) (found_on l p) ≤ one (in_sector z.sector p)
unfolding found_on items_in
page-once l z p =
    let a = sum-map (λ (x : Found). one (same_place x z)) (found_as p) (walk t 126 0) in
    let b = go (eqb p.sector z.sector) in
    omega arith
  where
    t : List ℕ
    t = sector p.sector l

    go : (b : Bool) → sum_of (λ (w : Laid). one (b && eqb w.entry z.entry)) (walk t 126 0) ≤ one b
    go true = let a = entry-once t z.entry 126 0 in let b = one_le (leb 0 z.entry) in omega arith
    go false = let a = sum-zero (λ (w : Laid). 0) (walk t 126 0) (λ w m. refl) in omega arith

-- ---- the list
pub found_once : (ps : List Page) (l : List ℕ) → ((u : ℕ) → sum_of (λ (p : Page). one (in_sector u p)) ps ≤ 1) → Once (found ps l)
unfolding found
found_once ps l h =
    record {
      times = λ z.
          let a = sum-flat_map (λ (x : Found). one (same_place x z)) (found_on l) ps in
          let b = sum-le (λ (p : Page). sum_of (λ (x : Found). one (same_place x z)) (found_on l p)) (λ (p : Page). one (in_sector z.sector p)) ps (λ p m. page-once l z p) in
          let c = h z.sector in
          omega arith;
    }

placed_once : {n : ℕ} {ps : List Page} {frees : List ℕ} → PagesPlaced n ps frees → (u : ℕ) → sum_of (λ (p : Page). one (in_sector u p)) ps ≤ 1
unfolding times_in
placed_once {n} h u = let c = h.once u in let d = one_le (ltb u n) in omega arith

pub found_apart : {n : ℕ} {ps : List Page} {frees : List ℕ} (l : List ℕ) → PagesPlaced n ps frees → Each (Lies l) ps → ((i : ℕ) → get_or l i 0 < 256) → Apart (found ps l)
found_apart {n} {ps} l h lies small = record { once = found_once ps l (placed_once h); keys = λ x m. key x (map_in (item_at l) (map place_of (found ps l)) x (rw (items_found l ps lies) m)) }
  where
    key : (x : Found) → ((p : ℕ) × (p ∈ map place_of (found ps l)) × (x ≡ item_at l p)) → key_number (key_of x.raw) < 2 ^ 128
    key x r = rw r.2 (item_key l r.0 small)
