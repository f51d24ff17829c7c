-- Items found are erased as a whole, so the walk of each sector leaves as many entries unread as before. Assumes nothing.
use mathlib.Core.Path.{◌≡◌, refl, sym, ap, ◌∙◌}
use mathlib.Core.Logic.{◌⊎◌}
use mathlib.Core.Bool.{Bool, true, false}
use mathlib.Core.List.{List, [], ◌∷◌, flat_map}
use Prim.Native.Nat.{ℕ, ◌+◌, ◌*◌, ◌<◌, ◌≤◌}
use native.Mathlib.Omega.{arith}
use lib.Dec.{eqb}
use lib.ListN.{drop, length}
use lib.Seq.{take-length}
use borrow.Author.Tests.{eqb-true, eqb-false}
use Rattle.entry.specs.States.{state_at}
use Rattle.entry.specs.Fields.{entry_at, span_of}
use Rattle.page.specs.Walk.{Laid, walk}
use Rattle.page.specs.Unread.{unread_from}
use Rattle.page.proofs.Walking.{raw-span}
use Rattle.page.proofs.Items.{Real, is_item_lem, walk_in}
use Rattle.page.proofs.Thinned.{Thinned, thinned_none, thinned_more, thinned_unread}
use Rattle.flash.specs.Step.{Step, run, sector}
use Rattle.flash.proofs.Erased.{length-sector}
use Rattle.flash.proofs.Frame.{drop-kept, length_run, sector-kept}
use Rattle.flash.proofs.Laws.{run-append}
use Rattle.flash.proofs.Lent.{sector-local}
use Rattle.marking.specs.Marking.{unmarking}
use Rattle.item.specs.Erase.{erasing}
use Rattle.item.proofs.Local.{erasing-shift, unmarking_fit}
use Rattle.item.proofs.Safe.{erasing_in}
use Rattle.marking.proofs.Spans.{unmarking_ends, unmarking_in, unmarking-keeps}
use Rattle.lists.specs.Each.{Each}
use Rattle.lists.proofs.Each.{of_each}
use Rattle.lists.proofs.Maps.{flat_map_in, map_in}
use Rattle.lists.proofs.Member.{◌∈◌}
use Rattle.table.specs.declared.Page.{Page}
use Rattle.table.specs.Table.{items_in}
use Rattle.found.specs.Found.{Found, found, found_on, erase_all}
use Rattle.found.specs.Places.{Lies}
use Rattle.found.proofs.Finding.{found_as}

-- an item that the walk of its sector meets
pub record Met (l : List ℕ) (x : Found) : Type 0 where
  pub room : x.sector * 4096 + 4096 ≤ length l
  pub met : record { entry = x.entry; raw = x.raw } ∈ walk (sector x.sector l) 126 0

-- m is the image l of which such items were erased
record Thin (l m : List ℕ) : Type 0 where
  size : length m ≡ length l
  rest : (u : ℕ) → drop 64 (sector u m) ≡ drop 64 (sector u l)
  thin : (u : ℕ) → Thinned (sector u l) (sector u m) 126 0

-- ---- one item more

module _ (l m : List ℕ) (x : Found) (here : Met l x) (so : Thin l m) where
  abbrev s : ℕ
  s = x.sector

  abbrev e : ℕ
  e = x.entry

  abbrev n : ℕ
  n = span_of x.raw

  abbrev this : Laid
  this = record { entry = e; raw = x.raw }

  real : Real (sector s l) this
  real = walk_in (sector s l) 126 0 this here.met

  span : span_of (entry_at (sector s l) e) ≡ n
  span = sym (ap span_of real.bytes ∙ raw-span (sector s l) e (is_item_lem (sector s l) e real.is))

  fits : e + n ≤ 126
  fits = let q = span in let a = real.is.ends in omega arith

  long : 4096 ≤ length (sector s m)
  long = let q = length-sector s m in let h = here.room in let z = so.size in omega arith

  -- the steps, on the sector's own bytes
  abbrev steps : List Step
  steps = unmarking 0 e n

  local : sector s (run (erasing s e n) m) ≡ run steps (sector s m)
  local = rw (erasing-shift s e n) (sector-local s steps m (unmarking_fit e n fits))

  keeps : (j : ℕ) → (j < e) ⊎ (e + n ≤ j) → state_at (run steps (sector s m)) j ≡ state_at (sector s m) j
  keeps j o = rw (take-length steps) at (unmarking-keeps 0 e n fits j o (sector s m) long (length steps))

  thin_more : Thin l (run (erasing s e n) m)
  thin_more = record {
    size = length_run (erasing s e n) m ∙ so.size;
    rest = λ u. rest_at u (eqb u s) refl;
    thin = λ u. thin_at u (eqb u s) refl;
  }
    where
      other : (u : ℕ) → eqb u s ≡ false → sector u (run (erasing s e n) m) ≡ sector u m
      other u q = sector-kept u s (erasing s e n) m (eqb-false u s q) (erasing_in s e n fits)

      rest_at : (u : ℕ) (b : Bool) → eqb u s ≡ b → drop 64 (sector u (run (erasing s e n) m)) ≡ drop 64 (sector u l)
      rest_at u true q = rw (eqb-true u s q, local) (drop-kept 32 64 steps (sector s m) (unmarking_in 0 e n fits) ∙ so.rest s)
      rest_at u false q = rw (other u q) (so.rest u)

      thin_at : (u : ℕ) (b : Bool) → eqb u s ≡ b → Thinned (sector u l) (sector u (run (erasing s e n) m)) 126 0
      thin_at u true q =
          rw (eqb-true u s q, local)
          (thinned_more (sector s l) (sector s m) (run steps (sector s m)) this (unmarking_ends 0 e n fits (sector s m) long) keeps here.met (so.thin s))
      thin_at u false q = rw (other u q) (so.thin u)

-- ---- all of them

all_thin : (l : List ℕ) (xs : List Found) → Each (Met l) xs → (m : List ℕ) → Thin l m → Thin l (run (erase_all xs) m)
unfolding Each erase_all flat_map run
all_thin l [] h m t = t
all_thin l (x ∷ xs) h m t =
    let a = erasing x.sector x.entry (span_of x.raw) in
    rw (run-append a (erase_all xs) m) (all_thin l xs h.1 (run a m) (thin_more l m x h.0 t))

pub erased-unread : (l : List ℕ) (xs : List Found) → Each (Met l) xs → (u : ℕ)
    → unread_from (sector u (run (erase_all xs) l)) 126 0 ≡ unread_from (sector u l) 126 0
erased-unread l xs h u =
    let t = all_thin l xs h l (record { size = refl; rest = λ u. refl; thin = λ u. thinned_none (sector u l) 126 0 }) in
    thinned_unread (sector u l) (sector u (run (erase_all xs) l)) (t.rest u) (t.thin u)

-- ---- the items found

pub found_met : (ps : List Page) (l : List ℕ) → Each (Lies l) ps → (x : Found) → x ∈ found ps l → Met l x
unfolding found found_on items_in
found_met ps l h x m =
    let p = flat_map_in (found_on l) ps x m in
    let y = map_in (found_as p.0) (walk (sector p.0.sector l) 126 0) x p.2 in
    rw y.2 (record { room = (of_each (Lies l) ps h p.0 p.1).room; met = y.1 })
