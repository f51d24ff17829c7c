-- Bridge: the code's answer where no sector is free. Assumes nothing.
use Rattle.std.proofs.Math.Option.{Option as Chosen, none, some}
use Rattle.std.specs.Prelude.{ℕ, Option, Some, None}

abbrev pub target_of : Chosen ℕ → Option ℕ
target_of none = None
target_of (some t) = Some t
