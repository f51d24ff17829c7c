-- Bridge: where the items found stand: a place is the number of an item's first block of 32 bytes in the image, so its sector, its entry and what its bytes
-- say are read at it. Assumes nothing.
use Rattle.std.specs.Prelude.{◌≡◌, ◌⊎◌, List, map, ℕ, ◌+◌, ◌-◌, ◌*◌, ◌/◌, ◌%◌, ◌<◌, ◌≤◌, length, get_or}
use Rattle.word.specs.Number.{part}
use Rattle.entry.specs.Fields.{span_of}
use Rattle.flash.specs.Step.{sector}
use Rattle.page.specs.State.{sequence_of}
use Rattle.table.specs.declared.Page.{Page}
use Rattle.table.specs.Table.{sequence}
use Rattle.found.specs.Found.{Found}

abbrev pub place_of : Found → ℕ
place_of x = x.sector * 128 + 2 + x.entry

-- as many items as an image can have: 126 on each of sixteen pages; and room for their places and for a sort of these
abbrev pub most_items : ℕ
most_items = 2016

abbrev pub sort_room : ℕ
sort_room = 4032

-- the item at a place
unfoldable pub item_at : List ℕ → ℕ → Found
item_at l p =
    record {
      sector = p / 128;
      sequence = sequence_of (sector (p / 128) l);
      entry = p % 128 - 2;
      raw = part l (p * 32) (span_of (part l (p * 32) 32) * 32);
    }

abbrev pub items_at : List ℕ → List ℕ → List Found
items_at l places = map (item_at l) places

-- the page lies in the image, and its list tells the sequence that stands there
pub record Lies (l : List ℕ) (p : Page) : Type 0 where
  pub sixteen : p.sector < 16
  pub room : p.sector * 4096 + 4096 ≤ length l
  pub told : sequence p ≡ sequence_of (sector p.sector l)

-- an item's entries begin at the place and end on its page, which lies in the image
pub record Placed (l : List ℕ) (p : ℕ) : Type 0 where
  pub entries : 2 ≤ p % 128
  pub some : 1 ≤ span_of (part l (p * 32) 32)
  pub ends : p % 128 + span_of (part l (p * 32) 32) ≤ 128
  pub room : p / 128 * 4096 + 4096 ≤ length l

-- two images that differ in entry states alone, which are bytes 32 to 63 of a sector: all that an erased item changes
pub record Alike (l m : List ℕ) : Type 0 where
  pub size : length m ≡ length l
  pub same : (j : ℕ) → (j % 4096 < 32) ⊎ (64 ≤ j % 4096) → get_or m j 0 ≡ get_or l j 0
