use mathlib.Core.Path.{◌≡◌}
use Prim.Native.Nat.{ℕ, ◌≤◌}
use lib.ListN.{take, drop}
use Rattle.lists.specs.Lists.{keep}
use Rattle.found.specs.Found.{is_part}
use Rattle.found.specs.Places.{item_at}
use Rattle.blobs.proofs.front.keep_parts.Given as goal

abbrev pub invariant-loop-i : goal.invariant-loop-i
invariant-loop-i l = record {
  low : l.k ≤ l.i;
  rest : drop l.i (take l.n l.room) ≡ drop l.i (take l.n l.initial.room);
  front : take l.k l.room ≡ keep (λ (p : ℕ). is_part (item_at l.image p).raw) (take l.i l.initial.room);
}
