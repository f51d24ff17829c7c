-- `finish::without_active` meets its contract: whether the newest page holds all decides. Assumes nothing.
use mathlib.Core.Path.{◌≡◌, refl, sym, ◌∙◌}
use mathlib.Core.Bool.{true, false}
use mathlib.Core.Logic.{inl}
use native.Mathlib.Omega.{arith}
use Rattle.table.specs.Table.{listed}
use Rattle.table.proofs.Places.{page-fits, rest_placed}
use Rattle.finish.specs.Finish.{newest, newest_holds, round_with}
use Rattle.finish.proofs.rounds.without_active.Goals as goal

pub newest_holds-requires : goal.newest_holds-requires
newest_holds-requires c =
    let l = c.args.image.now in
    (rest_placed c.args.x c.requires.0, page-fits l l c.requires.0 refl c.args.x (inl refl))

pub join_free-requires : goal.join_free-requires
join_free-requires c = omega (arith, c.requires.0.sixteen)

pub erase_sector-requires : goal.erase_sector-requires
erase_sector-requires c =
    let l = c.args.image.now in
    rw c.from.ensures (page-fits l l c.requires.0 refl c.args.x (inl refl))

pub returns-then-newest_holds : goal.returns-then-newest_holds
unfolding round_with
returns-then-newest_holds c =
    let a = c.args in
    let e : newest_holds a.x a.image.now (newest (listed a.table.now)) ≡ true = sym c.newest_holds.ensures ∙ c.if-newest_holds.true in
    rw e (record { did = rw c.from.ensures at c.erase_sector.ensures; table = λ k q. c.join_free.ensures })

pub returns : goal.returns
unfolding round_with
returns c =
    let a = c.args in
    let e : newest_holds a.x a.image.now (newest (listed a.table.now)) ≡ false = sym c.newest_holds.ensures ∙ c.if-newest_holds.false in
    rw e c.copy_afresh.ensures
