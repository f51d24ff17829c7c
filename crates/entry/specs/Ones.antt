-- Bridge: what the code counts in a word: "Totals are counted in four 64-bit words by the ones in masked words"; and the numbers of the states' names. Assumes
-- nothing.
use Rattle.std.specs.Prelude.{ℕ, ◌/◌}
use Rattle.std.specs.Int.Bits.{bit_and, bit_xor}
use Rattle.std.specs.Int.Count.{ones}
use Rattle.entry.specs.declared.states.EntryState.{EntryState}
use Rattle.entry.specs.declared.states.EntryState.TheVariants.{Erased, Illegal, Written, Empty}
use Rattle.entry.specs.States.{empty, written, erased, illegal}

-- the pairs at the places of the mask of which both digits are one once the word is flipped
unfoldable pub masked : ℕ → ℕ → ℕ → ℕ
masked w flip mask = ones (bit_and (bit_and (bit_xor w flip) (bit_xor w flip / 2)) mask)

-- the state's two bits
abbrev pub state_code : EntryState → ℕ
state_code Erased = erased
state_code Illegal = illegal
state_code Written = written
state_code Empty = empty
