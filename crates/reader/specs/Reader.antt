-- Rule. Document 01, Reading a page: "An item reader keeps the lent sector and its place on it, and hands out the next item until none is left. A Blank or
-- Corrupt sector has none. A length other than 4,096 is result 1." And document 02, No. 7: "the count of Written entries that the walk reached and could not
-- take as an item. [...] Recovery, the item reader and the listing must agree on it.": the reader counts those that it passes over, and says how many when no
-- item is left. Assumes nothing.
use Rattle.std.specs.Prelude.{cond, List, [], ◌∷◌, ℕ, zero, suc}
use Rattle.std.specs.Borrow.{Bor}
use Rattle.page.specs.declared.walk.ItemHeader.{ItemHeader}
use Rattle.reading.specs.declared.Handed.{Handed}
use Rattle.reading.specs.declared.Handed.TheVariants.{Item, End, NotSector}
use Rattle.reading.specs.declared.Read.{Read}
use Rattle.reader.specs.declared.ItemReader.{ItemReader}
use Rattle.reading.specs.Reading.{counted_on, read_of, read_on, has_none, begins_at}

-- what is handed out at any place e of the lent bytes s, u entries having been passed over: of a sector that has no item none, whatever the place
unfoldable pub read_from : List ℕ → ℕ → ℕ → Read
read_from s e u = cond (has_none s) (read_of (counted_on u 0) []) (read_on s e u)

-- it has passed nothing yet
abbrev pub new_reader : Bor (List ℕ) → ItemReader
new_reader s = record { sector = s; entry = begins_at s.now; unread = 0 }

-- what its next call reads
abbrev pub read_next : ItemReader → Read
read_next r = read_on r.sector.now r.entry r.unread

-- the same sector, at the place behind what was handed out, with what was passed over on the way
abbrev pub moved_reader : ItemReader → ItemReader
moved_reader r = record { sector = r.sector; entry = (read_next r).next; unread = (read_next r).unread }

-- the reader of the lent bytes s after n calls of next
unfoldable pub reader_after : Bor (List ℕ) → ℕ → ItemReader
reader_after s zero = new_reader s
reader_after s (suc n) = moved_reader (reader_after s n)

-- what is handed out in n calls from place e and count u on, up to the first answer that is no item; at a place and a count a call gives what f says
abbrev pub hand_on : Handed → List ItemHeader → List ItemHeader
hand_on (Item h) hs = h ∷ hs
hand_on (End n) hs = []
hand_on NotSector hs = []

unfoldable pub handed_out : (ℕ → ℕ → Read) → ℕ → ℕ → ℕ → List ItemHeader
handed_out f zero e u = []
handed_out f (suc n) e u = hand_on (f e u).handed (handed_out f n (f e u).next (f e u).unread)
