-- The pages that count as Freeing, one at a time; and the rounds, one more or none, with what holds before each. Assumes nothing.
use Rattle.std.specs.Prelude.{Ok}
use mathlib.Core.Path.{◌≡◌, refl, ap, ◌∙◌}
use mathlib.Core.Bool.{Bool, true, false, cond}
use mathlib.Core.Option.{none, some}
use mathlib.Core.List.{List, [], ◌∷◌, ◌++◌}
use Prim.Native.Nat.{ℕ, zero, suc, ◌+◌, ◌-◌, ◌≤◌, ◌<◌}
use native.Mathlib.Omega.{arith}
use lib.ListN.{length}
use Rattle.entry.specs.States.{one}
use Rattle.flash.specs.Step.{run}
use Rattle.flash.proofs.Laws.{did_all}
use Rattle.flash.proofs.Frame.{length_run}
use Rattle.answer.specs.declared.Stage.TheVariants.{Finish}
use Rattle.answer.specs.Staged.{Staged, tag}
use Rattle.answer.specs.Went.{Making}
use Rattle.answer.proofs.Made.{making-then}
use Rattle.flash.specs.Did.{Ran}
use Rattle.page.specs.declared.state.PageState.TheVariants.{Freeing}
use Rattle.lists.specs.Lists.{keep, sum_of, first_of, greatest}
use Rattle.table.specs.declared.Page.{Page}
use Rattle.table.specs.declared.Table.{Table}
use Rattle.table.specs.Table.{sectors_of, sequence, freeing_page, listed, freed}
use Rattle.table.specs.PagesPlaced.{PagesPlaced}
use Rattle.table.specs.Sought.{in_state}
use Rattle.table.proofs.Seeking.{first_member, freeing_is}
use Rattle.finish.specs.Finish.{round}
use Rattle.finish.specs.Rounds.{Makes}
use Rattle.finish.proofs.Leaves.{round-stands}
use Rattle.finishing.specs.Finishing.{freeings, finish_from, finishing}

pub counted : (xs : List Page) → length (keep (in_state Freeing) xs) ≡ freeings xs
unfolding freeings keep sum_of
counted [] = refl
counted (x ∷ xs) = rw (freeing_is x) (go (freeing_page x) (counted xs))
  where
    go : (b : Bool) → length (keep (in_state Freeing) xs) ≡ sum_of (λ (p : Page). one (freeing_page p)) xs
        → length (cond b (x ∷ keep (in_state Freeing) xs) (keep (in_state Freeing) xs)) ≡ one b + sum_of (λ (p : Page). one (freeing_page p)) xs
    go true ih = omega (arith, ih)
    go false ih = omega (arith, ih)

module _ (ps : List Page) (fs l : List ℕ) (n : ℕ) where
  pub rounds_none : n ≡ 0 → finishing n ps fs l ≡ []
  unfolding finishing
  rounds_none e = rw e

  -- no page counts as Freeing
  pub rounds_idle : first_of freeing_page ps ≡ none → finishing n ps fs l ≡ []
  unfolding finishing finish_from
  rounds_idle e = go n
    where
      go : (n : ℕ) → finishing n ps fs l ≡ []
      go zero = refl
      go (suc n) = rw e

  pub rounds_more : (x : Page) → 0 < n → first_of freeing_page ps ≡ some x
      → finishing n ps fs l
      ≡ tag (Finish x.sector) (round x ps fs l).steps ++ finishing (n - 1) (round x ps fs l).list (round x ps fs l).free (run (round x ps fs l).steps l)
  unfolding finishing finish_from
  rounds_more x h e = let q : n ≡ suc (n - 1) = omega arith in ap (λ (k : ℕ). finishing k ps fs l) q ∙ rw e

-- n rounds are left, on the lists of the table t and the image l with k steps allowed
pub record Left (T : List Staged) (N : ℕ) (L : List ℕ) (n : ℕ) (t : Table) (k : ℕ) (l : List ℕ) : Type 0 where
  pub placed : PagesPlaced (sectors_of l) (listed t) (freed t)
  pub below : greatest sequence (listed t) + n ≤ 0xFFFFFFFE
  pub making : Making T N L (finishing n (listed t) (freed t) l) k l

-- a round that ended
pub left_more : {T : List Staged} {N n k j : ℕ} {L l m : List ℕ} {t u : Table} {r : Ran} (x : Page) → Left T N L n t k l → 0 < n → first_of freeing_page (listed t) ≡ some x
    → Makes (round x (listed t) (freed t) l) k l m r u → r ≡ Ok j → Left T N L (n - 1) u j m
left_more {n} {j} {l} {m} {t} x g h e w q =
    let s = round-stands x l g.placed (first_member freeing_page (listed t) x e) (omega (arith, g.below)) in
    let o = w.table j q in
    let len : length m ≡ length l = ap length (did_all (rw q at w.did)) ∙ length_run _ _ in
    let v = round x (listed t) (freed t) l in
    record {
      placed = rw (o.list, o.free, len) s.placed;
      below = rw o.list (omega (arith, s.below, g.below));
      making = rw (o.list, o.free) (making-then g.making (Finish x.sector) (finishing (n - 1) v.list v.free) (rounds_more (listed t) (freed t) l n x h e) w.did q);
    }
