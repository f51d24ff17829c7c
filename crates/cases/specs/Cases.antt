-- Rule. Document 01, Cases; P marks those proved: one table, and one statement of all its rows. Assumes nothing.
use Rattle.std.specs.Prelude.{Bool, true, false, ◌&&◌, List, [], ◌∷◌, ◌++◌, ℕ, ◌-◌, ◌*◌, ◌/◌, ◌%◌, ◌^◌, T, eqb, replicate}
use Rattle.std.proofs.Math.Option.{Option, none, some}
use Rattle.word.specs.Number.{le}
use Rattle.crc.specs.Crc.{crc_bit, crc_bits, crc_byte, crc_from, crc_of}
use Rattle.entry.specs.States.{state_at}
use Rattle.entry.specs.Kinds.{kind_of}
use Rattle.entry.specs.Fields.{entry_crc, start_of}
use Rattle.page.specs.declared.state.PageState.TheVariants.{Full}
use Rattle.page.specs.Walk.{right_header, is_item, on_from}
use Rattle.flash.specs.Step.{and8, put, and_word}
use Rattle.item.specs.Initialise.{bytes4}
use Rattle.lists.specs.Lists.{keep, better, best, greatest}
use Rattle.table.specs.declared.Page.{Page}
use Rattle.plan.specs.Plan.{points, chosen}

-- a sector's bytes up to its first four states, which are b
abbrev pub states_of : ℕ → List ℕ
states_of b = replicate 32 0xFF ++ (b ∷ replicate 31 0xFF)

-- a right entry of span n: namespace 1, type 0x01, no chunk index, key and data zero
abbrev pub entry_of : ℕ → List ℕ
entry_of n = 1 ∷ 0x01 ∷ n ∷ 0xFF ∷ (bytes4 (crc_of (1 ∷ 0x01 ∷ n ∷ 0xFF ∷ replicate 24 0)) ++ replicate 24 0)

-- a sector of which only entry i, below 4, is Written: that entry
abbrev pub page_of : ℕ → ℕ → List ℕ
page_of i n = states_of (0xFF - 4 ^ i) ++ (replicate (i * 32) 0xFF ++ entry_of n)

-- a Full page in sector s with that sequence and so many Erased entries, the others Empty
abbrev pub full_page : ℕ → ℕ → ℕ → Page
full_page s q e = record { sector = s; seen = record { state = Full; sequence = q; written = 0; erased = e; empty = 126 - e; illegal = 0 } }

abbrev pub is_sector : ℕ → Option Page → Bool
is_sector s none = false
is_sector s (some p) = eqb p.sector s

-- what a row states
pub data Case : Type 0 where
  -- the state byte b gives entry i the state v
  state : (b i v : ℕ) → Case
  -- the CRC of s is r
  crc : (s : List ℕ) (r : ℕ) → Case
  -- from a right entry of span n at entry i the walk goes on to entry m
  goes : (n i m : ℕ) → Case
  -- with n as next, a page of that sequence and so many Erased entries has r points
  pointed : (n sequence erased r : ℕ) → Case
  -- of these pages the one in sector s is chosen
  wins : (ps : List Page) (s : ℕ) → Case
  -- the word a programmed with the word b gives r
  programmed : (a b r : ℕ) → Case
  -- the start byte b is judged as r
  start : (b r : ℕ) → Case

abbrev pub right : Case → Bool
right (state b i v) = eqb (state_at (states_of b) i) v
right (crc s r) = eqb (crc_of s) r
right (goes n i m) = eqb (on_from (page_of i n) i) m
right (pointed n q e r) = eqb (points n (full_page 0 q e)) r
right (wins ps s) = is_sector s (chosen ps)
right (programmed a b r) = eqb (le (and_word (bytes4 a) 0 (b % 256) (b / 256 % 256) (b / 65536 % 256) (b / 16777216)) 0 4) r
right (start b r) = eqb (start_of b) r

abbrev pub all_right : List Case → Bool
all_right [] = true
all_right (c ∷ cs) = right c && all_right cs

abbrev pub table : List Case
table =
    state 0xFA 0 2 ∷ state 0xFA 1 2 ∷ state 0xFA 2 3 ∷ state 0xFA 3 3  -- P1
    ∷ state 0xFD 0 1  -- P2
    ∷ crc [] 0xFFFF_FFFF ∷ crc (0 ∷ []) 0xFFFF_FFFF  -- P3
    ∷ goes 126 0 126  -- P4
    ∷ goes 126 1 2  -- P5
    ∷ goes 0 0 1  -- P6
    ∷ pointed 20 2 3 48 ∷ pointed 20 12 4 48  -- P7
    ∷ wins (full_page 0 2 3 ∷ full_page 1 12 4 ∷ full_page 2 19 0 ∷ []) 1 ∷ wins (full_page 0 12 4 ∷ full_page 1 2 3 ∷ full_page 2 19 0 ∷ []) 1  -- P7
    ∷ pointed 9 1 0 0  -- P8
    ∷ programmed 0xFFFF_FFFC 0xFFFF_FFF8 0xFFFF_FFF8  -- P9
    ∷ start 0x7F 0 ∷ start 0x80 0x80  -- P10
    ∷ []

-- every row holds
pub cases : T (all_right table)
unfolding le crc_bit crc_bits crc_byte crc_from crc_of state_at kind_of entry_crc right_header is_item and8 put and_word bytes4 keep better best greatest points chosen
cases = tt
