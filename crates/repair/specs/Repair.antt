-- Rule. Document 01, Recovery: stages 3 and 4 in order, for the list ps of pages and the image l, each step with its stage. Assumes nothing.
use Rattle.std.specs.Prelude.{List, ◌++◌, ℕ}
use Rattle.flash.specs.Step.{run}
use Rattle.answer.specs.declared.Stage.TheVariants.{Blobs, Duplicates}
use Rattle.answer.specs.Staged.{Staged, tag}
use Rattle.table.specs.declared.Page.{Page}
use Rattle.found.specs.Found.{found}
use Rattle.blobs.specs.Blobs.{blob_steps}
use Rattle.duplicates.specs.Duplicates.{duplicate_stage}

-- 3 and 4: "This stage and the next each judge by the items found as they begin"
unfoldable pub last_stages : List Page → List ℕ → List Staged
last_stages ps l = let b = blob_steps (found ps l) in tag Blobs b ++ tag Duplicates (duplicate_stage ps (run b l))
