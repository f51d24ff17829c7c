-- What goes with the old items of a group, one after the other. Assumes nothing.
use mathlib.Core.Path.{◌≡◌, refl, sym, ap, ◌∙◌}
use mathlib.Core.Bool.{true, false, cond}
use mathlib.Core.Option.{Option, some}
use mathlib.Core.List.{List, [], ◌∷◌, ◌++◌, get_last?, drop_last, flat_map}
use Prim.Native.Nat.{ℕ, suc, ◌+◌, ◌-◌, ◌<◌, ◌≤◌}
use native.Mathlib.Omega.{arith}
use lib.ListN.{length, get_or, take, drop, length-drop, length-map}
use Rattle.entry.specs.Fields.{span_of}
use Rattle.flash.specs.Step.{Step}
use Rattle.item.specs.Erase.{erasing}
use Rattle.lists.proofs.Maps.{flat_map-append}
use Rattle.lists.proofs.Sorting.{drop_last_short}
use Rattle.found.specs.Found.{Found, version_of, chunks, erase_all}
use Rattle.found.specs.Places.{item_at, items_at}
use Rattle.found.proofs.Reading.{items_more, items-front}
use Rattle.duplicates.specs.Turns.{takes_chunks, old_one, old_once, old_with, old_of, last_at}

-- ---- the steps of one old item
module _ (fs : List Found) (k : Found) (before : List Found) (x : Found) where
  pub one_steps : erase_all (old_one fs k before x) ≡ erasing x.sector x.entry (span_of x.raw) ++ erase_all (cond (takes_chunks before k x) (chunks (version_of x.raw) fs) [])
  unfolding old_one erase_all flat_map
  one_steps = refl

  pub with-chunks : takes_chunks before k x ≡ true → erase_all (cond (takes_chunks before k x) (chunks (version_of x.raw) fs) []) ≡ erase_all (chunks (version_of x.raw) fs)
  with-chunks e = rw e

  pub with_none : takes_chunks before k x ≡ false → erase_all (cond (takes_chunks before k x) (chunks (version_of x.raw) fs) []) ≡ []
  unfolding erase_all flat_map
  with_none e = rw e

pub erase-append : (a b : List Found) → erase_all (a ++ b) ≡ erase_all a ++ erase_all b
unfolding erase_all
erase-append a b = flat_map-append (λ (x : Found). erasing x.sector x.entry (span_of x.raw)) a b

-- ---- a list of places
last_item : (l : List ℕ) (p : ℕ) (ps : List ℕ) → get_last? (items_at l (p ∷ ps)) ≡ some (item_at l (last_at (p ∷ ps)))
last_item l p [] = refl
last_item l p (q ∷ ps) =
    let a : length (q ∷ ps) - 1 ≡ length ps = omega arith in
    let b : length (p ∷ (q ∷ ps)) - 1 ≡ suc (length ps) = omega arith in
    last_item l q ps ∙ ap (λ (n : ℕ). some (item_at l n)) (ap (λ (n : ℕ). get_or (q ∷ ps) n 0) a ∙ sym (ap (λ (n : ℕ). get_or (p ∷ (q ∷ ps)) n 0) b))

drop_last_cons : (x : Found) (ys : List Found) → 0 < length ys → drop_last (x ∷ ys) ≡ x ∷ drop_last ys
drop_last_cons x [] h = absurd (omega arith)
drop_last_cons x (y ∷ ys) h = refl

-- the steps of the old items from number j on
abbrev pub left_from : List ℕ → List ℕ → List ℕ → ℕ → List Step
left_from l places sorted j =
    erase_all (old_once (items_at l places) (item_at l (last_at sorted)) (items_at l (take j sorted)) (drop_last (items_at l (drop j sorted))))

module _ (l places : List ℕ) where
  pub left_start : (sorted : List ℕ) → erase_all (old_of (items_at l places) (items_at l sorted)) ≡ left_from l places sorted 0
  unfolding old_of old_with old_once
  left_start [] = refl
  left_start (p ∷ ps) = ap (λ (o : Option Found). erase_all (old_with (items_at l places) (items_at l (p ∷ ps)) o)) (last_item l p ps)

  module _ (sorted : List ℕ) (j : ℕ) where
    abbrev fs : List Found
    fs = items_at l places

    abbrev k : Found
    k = item_at l (last_at sorted)

    abbrev x : Found
    x = item_at l (get_or sorted j 0)

    pub left_more : j + 1 < length sorted
        → left_from l places sorted j ≡ erase_all (old_one (items_at l places) (item_at l (last_at sorted)) (items_at l (take j sorted)) (item_at l (get_or sorted j 0))) ++ left_from l places sorted (j + 1)
    unfolding old_once
    left_more h =
        let long : 0 < length (items_at l (drop (j + 1) sorted)) = rw (length-map (drop (j + 1) sorted) (item_at l), length-drop (j + 1) sorted) (omega arith) in
        let rest = drop_last (items_at l (drop (j + 1) sorted)) in
        let parts : drop_last (items_at l (drop j sorted)) ≡ x ∷ rest = ap drop_last (items_more l sorted j (omega arith)) ∙ drop_last_cons x (items_at l (drop (j + 1) sorted)) long in
        ap (λ (ys : List Found). erase_all (old_once fs k (items_at l (take j sorted)) ys)) parts
        ∙ erase-append (old_one fs k (items_at l (take j sorted)) x) (old_once fs k (items_at l (take j sorted) ++ (x ∷ [])) rest)
        ∙ ap (λ (b : List Found). erase_all (old_one fs k (items_at l (take j sorted)) x) ++ erase_all (old_once fs k b rest)) (sym (items-front l sorted j (omega arith)))

    pub left_end : length sorted ≤ j + 1 → left_from l places sorted j ≡ []
    unfolding old_once erase_all flat_map
    left_end h =
        let short : length (items_at l (drop j sorted)) ≤ 1 = rw (length-map (drop j sorted) (item_at l), length-drop j sorted) (omega arith) in
        ap (λ (ys : List Found). erase_all (old_once fs k (items_at l (take j sorted)) ys)) (drop_last_short (items_at l (drop j sorted)) short)
