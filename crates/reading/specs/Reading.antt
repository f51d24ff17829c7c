-- Rule. Document 01, Reading a page: what is read at a place of a lent sector. "A Blank or Corrupt sector has none. A length other than 4,096 is result 1." And
-- document 02, No. 7: "the count of Written entries that the walk reached and could not take as an item.": those passed over are counted, and it is said how
-- many when no item is left. Assumes nothing.
use Rattle.std.specs.Prelude.{Bool, cond, ◌&&◌, List, [], ◌∷◌, ℕ, ◌+◌, eqb, leb, length}
use Rattle.entry.specs.Fields.{span_of}
use Rattle.page.specs.State.{state_of, is_free}
use Rattle.page.specs.Walk.{Laid, walk, header_of}
use Rattle.page.specs.Unread.{passed_from}
use Rattle.reading.specs.declared.Handed.{Handed}
use Rattle.reading.specs.declared.Handed.TheVariants.{Item, End, NotSector}
use Rattle.reading.specs.declared.Read.{Read}

-- u entries passed over unread before, and p more: at most 126, as many as a page has entries. A reader never comes to more (reader/proofs/Passed); a count that a
-- caller makes up may
unfoldable pub counted_on : ℕ → ℕ → ℕ
counted_on u p = cond (leb (u + p) 126) (u + p) 126

-- the next of the items that the walk still meets, and the place behind it; u entries have been passed over unread, as is said when no item is left
unfoldable pub read_of : ℕ → List Laid → Read
read_of u [] = record { handed = End u; next = 126; unread = u }
read_of u (x ∷ xs) = record { handed = Item (header_of x.entry x.raw); next = x.entry + span_of x.raw; unread = u }

-- what a reader hands out whose place is e and whose count is u, on the lent bytes s: the walk's next from there on, nothing judged. "A length other than 4,096
-- is result 1."
unfoldable pub read_on : List ℕ → ℕ → ℕ → Read
read_on s e u = cond (eqb (length s) 4096) (read_of (counted_on u (passed_from s 126 e)) (walk s 126 e)) (record { handed = NotSector; next = e; unread = u })

-- "A Blank or Corrupt sector has none."
unfoldable pub has_none : List ℕ → Bool
has_none s = eqb (length s) 4096 && is_free (state_of s)

-- where a reader begins, and the sector is judged: at the first entry, or, where there is no item, at the end
unfoldable pub begins_at : List ℕ → ℕ
begins_at s = cond (has_none s) 126 0

-- document 01's number of an answer: a length other than 4,096 is result 1
abbrev pub result_of : Handed → ℕ
result_of (Item h) = 0
result_of (End n) = 0
result_of NotSector = 1
