-- Rule. Document 02, No. 4: the state steps of a span, which are n entries from entry j on of the page at the address base: "Mark entry states one entry a
-- step, ascending, and erase them one a step, descending, each clearing only that entry's own bits." Assumes nothing.
use Rattle.std.specs.Prelude.{cond, List, [], ◌∷◌, reverse, ℕ, zero, suc, ◌+◌, ◌-◌, ◌*◌, ◌/◌, ◌%◌, ◌^◌, eqb}
use Rattle.entry.specs.States.{empty, written, erased}
use Rattle.flash.specs.Step.{Step, program}

-- byte b of the entry states to program for entry e: ones, less d in its own two bits ("in byte 32 + i/4, shifted by 2 x (i mod 4)")
unfoldable pub mask_of : ℕ → ℕ → ℕ → ℕ
mask_of d e b = cond (eqb b (e / 4)) (255 - d * 2 ^ (2 * (e % 4))) 255

-- the step of entry e: the word that holds its state, with those of fifteen others
abbrev pub state_step : ℕ → ℕ → ℕ → Step
state_step base d e =
    program (base + 32 + e / 16 * 4) (mask_of d e (e / 16 * 4)) (mask_of d e (e / 16 * 4 + 1)) (mask_of d e (e / 16 * 4 + 2)) (mask_of d e (e / 16 * 4 + 3))

-- the steps of a span: one for each entry, ascending
unfoldable pub state_steps : ℕ → ℕ → ℕ → ℕ → List Step
state_steps base d j zero = []
state_steps base d j (suc n) = state_step base d j ∷ state_steps base d (j + 1) n

-- "Mark entry states one entry a step, ascending": from Empty, Written
unfoldable pub marking : ℕ → ℕ → ℕ → List Step
marking base j n = state_steps base (empty - written) j n

-- "and erase them one a step, descending"
unfoldable pub unmarking : ℕ → ℕ → ℕ → List Step
unmarking base j n = reverse (state_steps base (empty - erased) j n)
