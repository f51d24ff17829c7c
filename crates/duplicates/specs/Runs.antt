-- Bridge: what the code of stage 4 erases of a run, which are the items of one group, in list order. Assumes nothing.
use Rattle.std.specs.Prelude.{List, length, drop}
use Rattle.flash.specs.Step.{Step}
use Rattle.lists.specs.Lists.{keep, sort_by}
use Rattle.found.specs.Found.{Found, is_chunk, erase_all}
use Rattle.duplicates.specs.Duplicates.{ranked, older_than}
use Rattle.duplicates.specs.Turns.{old_of}

unfoldable pub run_steps : List Found → List Step
run_steps xs = erase_all (old_of xs (sort_by older_than (keep (λ (x : Found). ranked x.raw) xs)))

-- the same, of the items in order of age: chunks stand in front
unfoldable pub aged_steps : List Found → List Step
aged_steps xs = erase_all (old_of xs (drop (length (keep (λ (x : Found). is_chunk x.raw) xs)) xs))
