use Rattle.std.proofs.Common.{◌-◌}
use Rattle.table.specs.Table.{listed, freed}
use Rattle.finishing.specs.Finishing.{finishing}
use Rattle.finishing.proofs.Rounds.{Left}
use Rattle.finishing.proofs.finish_all.Given as goal

abbrev pub invariant-loop : goal.invariant-loop
invariant-loop l = Left (finishing l.rounds (listed l.fn.table) (freed l.fn.table) l.initial.image) l.allowed l.initial.image (l.rounds - l.counter) l.table l.left l.image
