-- How many steps a round of stage 2 takes. Assumes nothing.
use mathlib.Core.Bool.{Bool, true, false, cond}
use mathlib.Core.Option.{Option, none, some}
use mathlib.Core.List.{List, [], ◌∷◌, ◌++◌, get_last?}
use Prim.Native.Nat.{ℕ, suc, ◌≤◌}
use native.Mathlib.Omega.{arith}
use lib.ListN.{length}
use Rattle.flash.specs.Step.{erase, run, sector}
use Rattle.relocate.proofs.Lengths.{most_moving, moving_most}
use Rattle.lists.specs.Lists.{first_of, take_out}
use Rattle.table.specs.declared.Page.{Page}
use Rattle.table.specs.Table.{active_page, in_sector, items_in}
use Rattle.finish.specs.Finish.{copy_of, newest, newest_holds, Round, next_sequence, afresh, after, round_with, round}

afresh_most : (x : Page) (ps : List Page) (fs l : List ℕ) (o : Option ℕ) → length (afresh x ps fs l o).steps ≤ most_moving
unfolding afresh items_in
afresh_most x ps fs l none = omega arith
afresh_most x ps fs l (some t) = moving_most x.sector t (next_sequence x ps) (sector x.sector l) l

-- a copy erased, and a move
abbrev pub most_in_round : ℕ
most_in_round = suc most_moving

pub round_most : (x : Page) (ps : List Page) (fs l : List ℕ) → length (round x ps fs l).steps ≤ most_in_round
unfolding round round_with after
round_most x ps fs l = go (take_out (in_sector x.sector) ps) (first_of active_page (take_out (in_sector x.sector) ps))
  where
    go : (rs : List Page) (o : Option Page) → length (round_with x rs fs l o).steps ≤ most_in_round
    go rs none = held (newest_holds x l (newest rs))
      where
        held : (b : Bool) → length (cond b (record { steps = erase x.sector ∷ []; list = rs; free = fs ++ (x.sector ∷ []) }) (afresh x rs fs l (get_last? fs))).steps ≤ most_in_round
        held true = omega arith
        held false = omega (arith, afresh_most x rs fs l (get_last? fs))
    go rs (some y) = copied (copy_of (items_in y.sector l) (items_in x.sector l))
      where
        rest : Round
        rest = afresh x (take_out (in_sector y.sector) rs) (fs ++ (y.sector ∷ [])) (run (erase y.sector ∷ []) l) (get_last? (fs ++ (y.sector ∷ [])))

        copied : (b : Bool) → length (cond b (after (erase y.sector ∷ []) rest) (afresh x rs fs l (get_last? fs))).steps ≤ most_in_round
        copied true = omega (arith, afresh_most x (take_out (in_sector y.sector) rs) (fs ++ (y.sector ∷ [])) (run (erase y.sector ∷ []) l) (get_last? (fs ++ (y.sector ∷ []))))
        copied false = omega (arith, afresh_most x rs fs l (get_last? fs))
