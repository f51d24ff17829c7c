-- Rule. Document 01, The flash model and the allowance: "Mark: program the state word." Assumes nothing.
use Rattle.std.specs.Prelude.{ℕ, ◌*◌}
use Rattle.flash.specs.Step.{Step, program}

-- the state word of the page at the address base: b, and three bytes 0xFF
abbrev pub page_state : ℕ → ℕ → Step
page_state base b = program base b 0xFF 0xFF 0xFF

-- "Full 0xFFFFFFFC, Freeing 0xFFFFFFF8": of sector s
abbrev pub mark_full : ℕ → Step
mark_full s = page_state (s * 4096) 0xFC

abbrev pub mark_freeing : ℕ → Step
mark_freeing s = page_state (s * 4096) 0xF8
