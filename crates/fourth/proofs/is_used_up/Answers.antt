-- `fourth::is_used_up` meets its contract: the part lent is the sector. Assumes nothing.
use Rattle.std.proofs.Common.{◌∙◌, sym, ap, List, ℕ}
use lib.Dec.{eqb}
use mathlib.Core.Bool.{Bool, ◌&&◌}
use Rattle.entry.specs.declared.states.Totals.{Totals}
use Rattle.entry.specs.States.{empty, count_state, totals_of}
use Rattle.flash.specs.Step.{sector}
use Rattle.flash.proofs.Sectors.{lent-sector}
use Rattle.fourth.proofs.is_used_up.Goals as goal

pub returns-then-is_active : goal.returns-then-is_active
unfolding totals_of
returns-then-is_active c =
    let l = c.args.image.now in
    let u = c.from-a.result in
    let left = ap (λ (t : Totals). t.empty) c.totals_of.ensures
    ∙ ap (λ (t : List ℕ). count_state t empty) (lent-sector u l)
    ∙ ap (λ (s : ℕ). count_state (sector s l) empty) c.from-a.ensures in
    ap (λ (n : ℕ). eqb n 0) left
    ∙ ap (λ (b : Bool). b && eqb (count_state (sector c.args.p.sector l) empty) 0) (sym (sym c.is_active.ensures ∙ c.if-is_active.true))
