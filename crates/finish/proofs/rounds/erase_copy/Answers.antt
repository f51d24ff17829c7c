-- `finish::erase_copy` meets its contract: the copy's erasure, then a copy afresh on what that left. Assumes nothing.
use mathlib.Core.Logic.{inr}
use mathlib.Core.List.{List, [], ◌∷◌, ◌++◌}
use Rattle.flash.proofs.Laws.{did_all}
use Rattle.flash.proofs.Frame.{length_run}
use Rattle.lists.proofs.Member.{◌∈◌}
use Rattle.table.specs.Table.{active_page, in_sector, listed}
use Rattle.table.proofs.Seeking.{first_member}
use Rattle.table.proofs.Places.{page-fits, freed_placed}
use Rattle.finish.proofs.Makes.{makes_then, makes_same, makes_stop, next-out}
use mathlib.Core.Path.{◌≡◌, refl, ap, ◌∙◌}
use Prim.Native.Nat.{ℕ}
use native.Mathlib.Omega.{arith}
use lib.ListN.{length}
use Rattle.finish.proofs.rounds.erase_copy.Goals as goal
use Rattle.finish.proofs.rounds.erase_copy.Goals.{Start}

-- the copy is listed
copy_in : (c : Start) → c.args.y ∈ listed c.args.table.now
copy_in c = first_member active_page (listed c.args.table.now) c.args.y c.requires.1

pub join_free-requires : goal.join_free-requires
join_free-requires c = omega (arith, c.requires.0.sixteen, ap length c.take_out.ensures.free)

pub erase_sector-requires : goal.erase_sector-requires
erase_sector-requires c =
    let l = c.args.image.now in
    rw c.from.ensures (page-fits l l c.requires.0 refl c.args.y (inr (copy_in (goal.at.erase_sector-requires c).Start)))

pub returns-in_err-left : goal.returns-in_err-left
returns-in_err-left c = makes_stop _ _ (rw c.from.ensures at c.erase_sector.ensures) c.in_err-left.was c.from_residual.ensures.0

pub copy_afresh-requires : goal.copy_afresh-requires
copy_afresh-requires c =
    let o = c.take_out.ensures in
    let f = c.join_free.ensures in
    let e : length c.erase_sector.new.image ≡ length c.args.image.now = ap length c.erase_sector.ensures.image ∙ length_run _ _ in (
      rw (f.list, f.free, o.list, o.free, e) (freed_placed c.args.x c.args.y c.requires.0 (copy_in (goal.at.copy_afresh-requires c).Start)),
      rw (f.list, o.list) (next-out (in_sector c.args.y.sector) c.args.x (listed c.args.table.now) c.requires.2),
    )

pub returns : goal.returns
returns c =
    let o = c.take_out.ensures in
    let f = c.join_free.ensures in
    let d = rw c.from.ensures at c.erase_sector.ensures in
    let i = did_all (rw c.in_ok-left.was at d) in
    makes_then d c.in_ok-left.was (makes_same c.args.x (f.list ∙ o.list) (f.free ∙ ap (λ (g : List ℕ). g ++ (c.args.y.sector ∷ [])) o.free) i c.copy_afresh.ensures)
