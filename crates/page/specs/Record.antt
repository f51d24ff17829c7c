-- Rule. Document 01, Result numbers: the record of a sector t: "state, sequence (0 if free), Written, Erased, Empty, Illegal (all 0 if free)"; and document 02,
-- No. 7: "Add to each page record the count of Written entries that the walk reached and could not take as an item." What the scan sees of a sector is its
-- record without this count, which takes a walk. Assumes nothing.
use Rattle.std.specs.Prelude.{cond, List, ℕ}
use Rattle.entry.specs.States.{totals_of}
use Rattle.page.specs.declared.state.PageState.{PageState}
use Rattle.page.specs.declared.seen.Seen.{Seen}
use Rattle.page.specs.declared.«record».PageRecord.{PageRecord}
use Rattle.page.specs.State.{state_of, is_free, sequence_of}
use Rattle.page.specs.Unread.{unread_of}

abbrev pub free_seen : PageState → Seen
free_seen p = record { state = p; sequence = 0; written = 0; erased = 0; empty = 0; illegal = 0 }

abbrev pub used_seen : PageState → List ℕ → Seen
used_seen p t =
    record {
      state = p;
      sequence = sequence_of t;
      written = (totals_of t).written;
      erased = (totals_of t).erased;
      empty = (totals_of t).empty;
      illegal = (totals_of t).illegal;
    }

unfoldable pub seen_of : List ℕ → Seen
seen_of t = cond (is_free (state_of t)) (free_seen (state_of t)) (used_seen (state_of t) t)

abbrev pub with_unread : Seen → ℕ → PageRecord
with_unread s n =
    record { state = s.state; sequence = s.sequence; written = s.written; erased = s.erased; empty = s.empty; illegal = s.illegal; unread = n }

unfoldable pub record_of : List ℕ → PageRecord
record_of t = with_unread (seen_of t) (unread_of t)
