-- Bridge: "Versions are taken in ascending (namespace, start, key)", groups in "ascending (namespace, key)": a rank of the code, as a number. Assumes nothing.
use Rattle.std.specs.Prelude.{ℕ, ◌+◌, ◌*◌, ◌^◌}
use Rattle.entry.specs.Fields.{key_number}
use Rattle.found.specs.declared.ranks.Rank.{Rank}

abbrev pub rank_number : Rank → ℕ
rank_number r = r.high * 2 ^ 128 + key_number r.key
