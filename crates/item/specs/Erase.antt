-- Rule. Document 01, The flash model and the allowance: "Erase an item": the states of its span, one entry a step (document 02, No. 4), "descending, set
-- Erased, so the header's word is last." Assumes nothing.
use Rattle.std.specs.Prelude.{List, ℕ, ◌*◌}
use Rattle.flash.specs.Step.{Step}
use Rattle.marking.specs.Marking.{unmarking}

-- n entries from entry i on of sector s
unfoldable pub erasing : ℕ → ℕ → ℕ → List Step
erasing s i n = unmarking (s * 4096) i n
