-- Bridge: what the code of stage 3 makes of the sorted parts, run by run. Assumes nothing.
use mathlib.Core.List.{List, [], ◌∷◌, ◌++◌, flat_map}
use Rattle.std.specs.Prelude.{ℕ}
use Rattle.entry.specs.Fields.{namespace_of}
use Rattle.flash.specs.Step.{Step}
use Rattle.found.specs.Found.{Found}
use Rattle.sort.specs.Rank.{group_by}
use Rattle.lists.specs.Runs.{runs}
use Rattle.versions.specs.Versions.{version_in, judge, older}

-- the group of a run, and the namespace of an item
abbrev pub head_group : List Found → ℕ
head_group [] = 0
head_group (x ∷ xs) = group_by x

abbrev pub space_by : Found → ℕ
space_by x = namespace_of x.raw

-- of a group the version of one start; of a namespace first those of start 0, then those of start 0x80; of a group the older
unfoldable pub start_steps : ℕ → List Found → List Step
start_steps start xs = judge xs (version_in (head_group xs) start)

unfoldable pub space_steps : List Found → List Step
space_steps xs = flat_map (start_steps 0) (runs group_by xs) ++ flat_map (start_steps 0x80) (runs group_by xs)

unfoldable pub older_steps : List Found → List Step
older_steps xs = older xs (head_group xs)
