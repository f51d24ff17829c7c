-- Rule. Document 01, Reading a page: the state of a sector t of 4,096 bytes. Assumes nothing.
use Rattle.std.specs.Prelude.{Bool, true, false, cond, ◌&&◌, List, [], ◌∷◌, ℕ, eqb, leb, get_or}
use Rattle.word.specs.Number.{part, le}
use Rattle.crc.specs.Crc.{crc_of}
use Rattle.page.specs.declared.state.PageState.{PageState}
use Rattle.page.specs.declared.state.PageState.TheVariants.{Blank, Corrupt, Active, Full, Freeing}

-- "All bytes 0xFF"
unfoldable pub all_ones : List ℕ → Bool
all_ones [] = true
all_ones (b ∷ bs) = eqb b 0xFF && all_ones bs

-- "State words: Active 0xFFFFFFFE, Full 0xFFFFFFFC, Freeing 0xFFFFFFF8": three bytes 0xFF above a lowest byte that tells them apart
unfoldable pub word_state : List ℕ → PageState
word_state w =
    cond (eqb (get_or w 1 0) 0xFF && (eqb (get_or w 2 0) 0xFF && eqb (get_or w 3 0) 0xFF))
    (cond (eqb (get_or w 0 0) 0xFE) Active (cond (eqb (get_or w 0 0) 0xFC) Full (cond (eqb (get_or w 0 0) 0xF8) Freeing Corrupt)))
    Corrupt

-- "version 0xFE or 0xFF" (a byte from 0xFE on), "header CRC right": bytes "28-31 CRC of bytes 4-27"
unfoldable pub header_right : List ℕ → Bool
header_right t = leb 0xFE (get_or t 8 0) && eqb (le t 28 4) (crc_of (part t 4 24))

-- "All bytes 0xFF: Blank. State one of the three words, version 0xFE or 0xFF, header CRC right: that state. Anything else: Corrupt."
unfoldable pub state_of : List ℕ → PageState
state_of t = cond (all_ones t) Blank (cond (header_right t) (word_state (part t 0 4)) Corrupt)

-- "Blank and Corrupt sectors are free."
abbrev pub is_free : PageState → Bool
is_free Blank = true
is_free Corrupt = true
is_free Active = false
is_free Full = false
is_free Freeing = false

-- bytes "4-7 sequence"
abbrev pub sequence_of : List ℕ → ℕ
sequence_of t = le t 4 4
