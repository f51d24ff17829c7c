-- Rule. Demand 3: "Take a store that recovery accepts and leaves unchanged, with no blob part in namespace 0, no Active or Freeing page, a free sector, a
-- page with fewer than 126 written entries, page sequences distinct and below 0xFFFFFFF0, and no two items sharing namespace, key and chunk index. Reclaim,
-- cut after any number of flash steps, then recovery, itself cut and begun again any number of times and at last run to its end: the store holds exactly the
-- items it held before, each once, header and payload byte for byte, and no fewer free sectors. A step is one 4-byte word programmed or one sector erased."
-- Reclaim's and recovery's lists of steps are those that the calls' promises cite. Assumes nothing.
use Rattle.std.specs.Prelude.{◌≡◌, true, false, ◌&&◌, ◌||◌, ℕ, ◌≤◌, ◌<◌, eqb, ltb, length, get_or, take}
use mathlib.Core.List.{List, [], ◌∷◌, flat_map}
use Rattle.entry.specs.States.{one}
use Rattle.entry.specs.Fields.{namespace_of}
use Rattle.page.specs.Walk.{Laid}
use Rattle.flash.specs.Step.{run}
use Rattle.lists.specs.Lists.{sum_of, every, some_of}
use Rattle.table.specs.declared.Page.{Page}
use Rattle.table.specs.Table.{pages, frees, items_in, sequence, active_page, freeing_page}
use Rattle.finish.specs.Finish.{same_bytes, name_of}
use Rattle.found.specs.Found.{is_part}
use Rattle.answer.specs.Staged.{untag}
use Rattle.stages.specs.Stages.{recovering, accepted, recovery}
use Rattle.plan.specs.Plan.{candidate}
use Rattle.reclaim.specs.Reclaim.{reclaiming}

-- the items of a store: those of each page of the list, each with its bytes, header and payload
unfoldable pub stored : List ℕ → List Laid
stored l = flat_map (λ (p : Page). items_in p.sector l) (pages l)

-- f summed over the items by their bytes; and how many are the bytes x
unfoldable pub total : (List ℕ → ℕ) → List ℕ → ℕ
total f l = sum_of (λ (i : Laid). f i.raw) (stored l)

abbrev pub held : List ℕ → List ℕ → ℕ
held x l = total (λ (r : List ℕ). one (same_bytes r x)) l

-- the premises that the general form (General.antt) has too
pub record Premises (l : List ℕ) : Type 0 where
  -- an image is made of bytes
  pub bytes : (i : ℕ) → get_or l i 0 < 256
  -- "that recovery accepts"
  pub accepts : accepted l ≡ true
  -- "no blob part in namespace 0"
  pub part_in_0 : total (λ (r : List ℕ). one (is_part r && eqb (namespace_of r) 0)) l ≡ 0
  -- "no Active or Freeing page"
  pub active-or-freeing : some_of (λ (p : Page). active_page p || freeing_page p) (pages l) ≡ false
  -- "a free sector", "a page with fewer than 126 written entries": by these reclaim is not refused (Calls.antt: `Reclaims`); what a cut leaves does not need them
  pub free_sector : 1 ≤ length (frees l)
  pub below_126 : some_of candidate (pages l) ≡ true
  -- "page sequences distinct": no proof needs it
  pub distinct : (q : ℕ) → sum_of (λ (p : Page). one (eqb (sequence p) q)) (pages l) ≤ 1
  -- "and below 0xFFFFFFF0"
  pub below : every (λ (p : Page). ltb (sequence p) 0xFFFFFFF0) (pages l) ≡ true
  -- "no two items sharing namespace, key and chunk index"
  pub unshared : (x : List ℕ) → total (λ (r : List ℕ). one (same_bytes (name_of r) x)) l ≤ 1

pub record Store (l : List ℕ) : Type 0 where
  pub premises : Premises l
  -- "and leaves unchanged"
  pub unchanged : run (untag (recovering l)) l ≡ l

-- recovery begun, and cut after k steps, for each k of the list
unfoldable pub recoveries : List ℕ → List ℕ → List ℕ
recoveries [] l = l
recoveries (k ∷ ks) l = recoveries ks (run (take k (untag (recovery l))) l)

-- "Reclaim, cut after any number of flash steps, then recovery, itself cut and begun again any number of times": the power fails once, and once for each k
unfoldable pub failing : ℕ → List ℕ → List ℕ → List ℕ
failing c ks l = recoveries ks (run (take c (reclaiming l)) l)

-- "and at last run to its end"
unfoldable pub recovered : List ℕ → List ℕ
recovered m = run (untag (recovery m)) m

-- l is the store at the start, and m what stands when recovery is begun: for the last time, or to be cut again
pub record Safe (l m : List ℕ) : Type 0 where
  -- recovery is not refused
  pub accepts : accepted m ≡ true
  -- "exactly the items it held before", "header and payload byte for byte"
  pub items : (x : List ℕ) → held x (recovered m) ≡ held x l
  -- "each once"
  pub once : (x : List ℕ) → held x (recovered m) ≤ 1
  -- "no fewer free sectors"
  pub free : length (frees l) ≤ length (frees (recovered m))

abbrev pub Demand3 : Type 0
Demand3 = (l : List ℕ) → Store l → (c : ℕ) (ks : List ℕ) → Safe l (failing c ks l)
