-- Rule. Document 01, Reclaim: points, choice and refusals of a page list ps with its free list fs. Assumes nothing.
use Rattle.std.specs.Prelude.{Bool, Result, Ok, Err, cond, ℕ, suc, ◌+◌, ◌-◌, ◌*◌, eqb, leb, ltb}
use Rattle.std.proofs.Math.Option.{Option, none, some}
use mathlib.Core.List.{List, get_last?}
use Rattle.answer.specs.declared.Answer.{Answer}
use Rattle.answer.specs.declared.Answer.TheVariants.{ActiveStands, AllWritten, NoFreeSector, SequencesSpent}
use Rattle.plan.specs.declared.Plan.{Plan}
use Rattle.plan.specs.declared.Plan.TheVariants.{Clear, Move}
use Rattle.lists.specs.Lists.{keep, some_of, best, greatest}
use Rattle.table.specs.declared.Page.{Page}
use Rattle.table.specs.Table.{sequence, active_page}

-- "next one above the greatest sequence, in whole numbers that do not wrap"
abbrev pub next : List Page → ℕ
next ps = suc (greatest sequence ps)

-- "Points of a page with fewer than 126 Written entries: 0 if none is Erased, else 10 x Erased + (next - sequence)"
unfoldable pub points : ℕ → Page → ℕ
points n p = cond (eqb p.seen.erased 0) 0 (10 * p.seen.erased + (n - sequence p))

abbrev pub candidate : Page → Bool
candidate p = ltb p.seen.written 126

-- y, which stands later, goes before x: "Most points win, the last in the list among equals."
abbrev pub no_fewer_points : ℕ → Page → Page → Bool
no_fewer_points n y x = leb (points n x) (points n y)

unfoldable pub chosen : List Page → Option Page
chosen ps = best (no_fewer_points (next ps)) (keep candidate ps)

-- 6 "greatest sequence above 0xFFFFFFFD"
abbrev pub sequences_spent : List Page → Bool
sequences_spent ps = ltb 0xFFFFFFFD (greatest sequence ps)

-- "a copy is needed": 5 "no sector free", then 6
unfoldable pub plan_to : List Page → ℕ → Option ℕ → Result Plan Answer
plan_to ps s none = Err NoFreeSector
plan_to ps s (some t) = cond (sequences_spent ps) (Err SequencesSpent) (Ok (Move s t (next ps)))

-- "If all 126 are Erased it is erased. Otherwise" a copy is needed; 4 "no page below 126 Written"
unfoldable pub plan_with : List Page → List ℕ → Option Page → Result Plan Answer
plan_with ps fs none = Err AllWritten
plan_with ps fs (some x) = cond (eqb x.seen.erased 126) (Ok (Clear x.sector)) (plan_to ps x.sector (get_last? fs))

-- "reclaim 1, 3, 4, .. 5, 6; then steps", without the 8 (specs/Closed): 3 "an Active page stands"
unfoldable pub plan : List Page → List ℕ → Result Plan Answer
plan ps fs = cond (some_of active_page ps) (Err ActiveStands) (plan_with ps fs (chosen ps))
