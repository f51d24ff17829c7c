-- What a round leaves: lists that stand in the image, with sequences at most one above the greatest that there was. Assumes nothing.
use mathlib.Core.Path.{◌≡◌, refl, ap}
use mathlib.Core.Logic.{inl, ⊎_elim}
use mathlib.Core.Bool.{Bool, true, false, cond}
use mathlib.Core.Option.{Option, none, some}
use mathlib.Core.List.{List, [], ◌∷◌, ◌++◌, get_last?}
use Prim.Native.Nat.{ℕ, suc, ◌≤◌, ◌<◌}
use native.Mathlib.Omega.{arith}
use lib.ListN.{length}
use Rattle.flash.specs.Step.{erase, run, sector}
use Rattle.flash.proofs.Frame.{length_run}
use Rattle.relocate.specs.Move.{moving}
use Rattle.relocate.proofs.Filling.{moved-sequence}
use Rattle.lists.specs.Lists.{greatest, first_of, take_out}
use Rattle.lists.proofs.Member.{◌∈◌, in_append}
use Rattle.lists.proofs.Search.{last_in}
use Rattle.lists.proofs.Sums.{greatest-ge, greatest-lt}
use Rattle.table.specs.declared.Page.{Page}
use Rattle.table.specs.Table.{sectors_of, sequence, page_at, items_in, active_page, in_sector}
use Rattle.table.specs.PagesPlaced.{PagesPlaced}
use Rattle.page.proofs.Fields.{sequence-below}
use Rattle.table.proofs.Seeking.{first_member}
use Rattle.table.proofs.Places.{free_other, free_fits, apart_placed, freed_placed, source_placed, moved_placed, full_placed, greatest-out}
use Rattle.finish.specs.Finish.{Round, copy_of, newest, newest_holds, next_sequence, afresh, after, round_with, round}

-- its lists stand in an image of n sectors, and no sequence is above b
pub record Stands (n b : ℕ) (w : Round) : Type 0 where
  pub placed : PagesPlaced n w.list w.free
  pub below : greatest sequence w.list ≤ b

module _ (k : List ℕ) (b : ℕ) (small : b < 0x100000000) (x : Page) where
  -- k is the image that the round began with
  afresh-stands : (ps : List Page) (fs l : List ℕ) → length l ≡ length k → PagesPlaced (sectors_of k) (x ∷ ps) fs → next_sequence x ps ≤ b
      → Stands (sectors_of k) b (afresh x ps fs l (get_last? fs))
  unfolding afresh
  afresh-stands ps fs l e h q = go (get_last? fs) refl
    where
      -- the page that the copy makes
      made : ℕ → Page
      made t = page_at t (run (moving x.sector t (next_sequence x ps) (items_in x.sector l) l) l)

      moved : (t : ℕ) → t ∈ fs → sequence (made t) ≤ next_sequence x ps
      moved t m =
          unfold items_in in (
          let r = moved-sequence (next_sequence x ps) (sector x.sector l) x.sector t l (free_other h x (inl refl) t m) (free_fits k l h e t m) (omega arith) in
          let a = sequence-below (sector t (run (moving x.sector t (next_sequence x ps) (items_in x.sector l) l) l)) in
          omega arith
          )

      most : (p : Page) → sequence p ≤ next_sequence x ps → greatest sequence (ps ++ (p ∷ [])) ≤ b
      most p r =
          let g = greatest-lt sequence (ps ++ (p ∷ [])) (suc b) (omega arith) (λ y m.
          ⊎_elim (λ i. let a = greatest-ge sequence ps y i in omega arith)
          (λ i. ⊎_elim (λ s. let a : sequence y ≡ sequence p = ap sequence s in omega arith) (λ s. absurd s) i) (in_append y ps (p ∷ []) m)) in
          omega arith

      go : (o : Option ℕ) → get_last? fs ≡ o → Stands (sectors_of k) b (afresh x ps fs l o)
      go none r = record { placed = full_placed x h; below = unfold greatest in omega arith }
      go (some t) r = record { placed = moved_placed x (made t) h r; below = most (made t) (moved t (last_in fs t r)) }

  with-stands : (ps : List Page) (fs : List ℕ) → PagesPlaced (sectors_of k) (x ∷ ps) fs → next_sequence x ps ≤ b → (o : Option Page) → first_of active_page ps ≡ o
      → Stands (sectors_of k) b (round_with x ps fs k o)
  unfolding round_with after
  with-stands ps fs h q none r = go (newest_holds x k (newest ps))
    where
      go : (c : Bool) → Stands (sectors_of k) b (cond c (record { steps = erase x.sector ∷ []; list = ps; free = fs ++ (x.sector ∷ []) }) (afresh x ps fs k (get_last? fs)))
      go true = record { placed = source_placed x h; below = omega arith }
      go false = afresh-stands ps fs k refl h q
  with-stands ps fs h q (some y) r = go (copy_of (items_in y.sector k) (items_in x.sector k))
    where
      gs : List ℕ
      gs = fs ++ (y.sector ∷ [])

      qs : List Page
      qs = take_out (in_sector y.sector) ps

      m : List ℕ
      m = run (erase y.sector ∷ []) k

      first : Stands (sectors_of k) b (afresh x qs gs m (get_last? gs))
      first =
          let g = greatest-out (in_sector y.sector) ps (suc (greatest sequence ps)) (omega arith) (omega arith) in
          afresh-stands qs gs m (length_run (erase y.sector ∷ []) k) (freed_placed x y h (first_member active_page ps y r)) (omega arith)

      go : (c : Bool) → Stands (sectors_of k) b (cond c (after (erase y.sector ∷ []) (afresh x qs gs m (get_last? gs))) (afresh x ps fs k (get_last? fs)))
      go true = record { placed = first.placed; below = first.below }
      go false = afresh-stands ps fs k refl h q

pub round-stands : (x : Page) {ps : List Page} {fs : List ℕ} (l : List ℕ) → PagesPlaced (sectors_of l) ps fs → x ∈ ps → greatest sequence ps < 0xFFFFFFFF
    → Stands (sectors_of l) (suc (greatest sequence ps)) (round x ps fs l)
unfolding round
round-stands x {ps} {fs} l h m g =
    let a = greatest-out (in_sector x.sector) ps (suc (greatest sequence ps)) (omega arith) (omega arith) in
    let c = greatest-ge sequence ps x m in
    with-stands l (suc (greatest sequence ps)) (omega arith) x (take_out (in_sector x.sector) ps) fs (apart_placed x h m) (omega arith) _ refl
