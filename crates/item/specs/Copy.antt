-- Rule. Document 01, The flash model and the allowance: "Copy an item". Assumes nothing.
use Rattle.std.specs.Prelude.{cond, List, [], ◌∷◌, ◌++◌, ℕ, ◌+◌, ◌*◌, eqb}
use Rattle.entry.specs.Fields.{span_of}
use Rattle.flash.specs.Step.{Step}
use Rattle.flash.specs.Words.{words}
use Rattle.item.specs.Mark.{page_state}
use Rattle.marking.specs.Marking.{marking}

-- "If entry 125 is now used, program the state Full.": next is the entry past the item
unfoldable pub full_mark : ℕ → ℕ → List Step
full_mark base next = cond (eqb next 126) (page_state base 0xFC ∷ []) []

-- the item of which r are the bytes, header and payload, to entry j of the page at the address base: "All its words, ascending; then" the states of its
-- entries, one a step (document 02, No. 4), "ascending, set Written. If entry 125 is now used, program the state Full."
unfoldable pub copying : ℕ → ℕ → List ℕ → List Step
copying base j r = words (base + 64 + j * 32) r 0 (span_of r * 8) ++ (marking base j (span_of r) ++ full_mark base (j + span_of r))
