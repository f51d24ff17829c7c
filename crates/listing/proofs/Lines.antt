-- One line more, and the lines of what recovery answered. Assumes nothing.
use mathlib.Core.Path.{◌≡◌, refl, sym, ap, ◌∙◌}
use mathlib.Core.List.{List, [], ◌∷◌, ◌++◌, append_assoc, append-nil}
use Prim.Native.Nat.{ℕ, suc, ◌+◌, ◌/◌, ◌<◌}
use native.Mathlib.Omega.{arith}
use lib.ListN.{length, take, get_or}
use lib.Seq.{length-take-le}
use Rattle.std.proofs.lemmas.List.{take_more}
use Rattle.page.specs.declared.«record».PageRecord.{PageRecord}
use Rattle.table.specs.Table.{sectors_of}
use Rattle.answer.specs.declared.Answer.{Answer}
use Rattle.answer.specs.declared.Answer.TheVariants.{Done, NotSectors, FewRecords, ActiveStands, AllWritten, NoFreeSector, SequencesSpent, Stopped}
use Rattle.answer.specs.Answer.{number_of}
use Rattle.records.specs.declared.Rows.{Rows}
use Rattle.page.specs.Record.{record_of}
use Rattle.records.specs.Records.{blank_record, no_rows}
use Rattle.records.proofs.Reading.{rows-read}
use Rattle.recover.specs.declared.Recovered.{Recovered}
use Rattle.recover.specs.Promise.{rows_for, Recovers}
use Rattle.recover.proofs.Ends.{unstopped}
use Rattle.recover.proofs.Fixed.{recovers_answer}
use Rattle.lines.specs.Lines.{line, head}
use Rattle.listing.specs.Listing.{lines, lines_for, lent, allowance, answered, listing}

pub lines-behind : (n : ℕ) (rs : List PageRecord) (r : PageRecord) → lines n (rs ++ (r ∷ [])) ≡ lines n rs ++ line (n + length rs) r
unfolding lines
lines-behind n [] r = append-nil (line n r) ∙ ap (λ (k : ℕ). line k r) (omega arith)
lines-behind n (q ∷ rs) r =
    ap (λ (l : List ℕ). line n q ++ l) (lines-behind (suc n) rs r ∙ ap (λ (k : ℕ). lines (suc n) rs ++ line k r) (omega arith)) ∙
    sym (append_assoc (line n q) (lines (suc n) rs) (line (n + suc (length rs)) r))

pub lines_more : (rs : List PageRecord) (n : ℕ) (d : PageRecord) → n < length rs → lines 0 (take (n + 1) rs) ≡ lines 0 (take n rs) ++ line n (get_or rs n d)
lines_more rs n d h =
    ap (lines 0) (take_more rs n d h) ∙ lines-behind 0 (take n rs) (get_or rs n d) ∙
    ap (λ (k : ℕ). lines 0 (take n rs) ++ line k (get_or rs n d)) (omega (arith, length-take-le n rs (omega arith)))

-- the rows that recovery hands out are the records that are listed: none where it is refused, and it is never stopped
module _ (m : List ℕ) (t : Rows) where
  abbrev listed : List ℕ
  listed = lines 0 (take t.count t.rows)

  none : t ≡ no_rows → listed ≡ []
  unfolding lines
  none e = ap (λ (u : Rows). lines 0 (take u.count u.rows)) e

  handed_out : (a : Answer) → (number_of a ≡ 7 → ⊥) → t ≡ rows_for (number_of a) m → listed ≡ lines_for a m
  unfolding lines_for
  handed_out (Done k) u e = ap (λ (u : Rows). lines 0 (take u.count u.rows)) e ∙ ap (lines 0) (rows-read record_of m blank_record (sectors_of m))
  handed_out NotSectors u e = none e
  handed_out FewRecords u e = none e
  handed_out ActiveStands u e = none e
  handed_out AllWritten u e = none e
  handed_out NoFreeSector u e = none e
  handed_out SequencesSpent u e = none e
  handed_out (Stopped x k) u e = absurd (u refl)

module _ (l m : List ℕ) (r : Recovered) (p : Recovers l lent allowance m r) where
  pub listing_is : (bytes : ℕ) → head (bytes / 4096) r.answer ++ lines 0 (take r.rows.count r.rows.rows) ≡ listing l bytes
  unfolding listing
  listing_is bytes =
      ap (λ (s : List ℕ). head (bytes / 4096) r.answer ++ s) (handed_out m r.rows r.answer (unstopped l lent allowance p.answer (omega arith)) p.rows) ∙
      ap (λ (a : Answer). head (bytes / 4096) a ++ lines_for a m) (recovers_answer p) ∙ ap (λ (i : List ℕ). head (bytes / 4096) (answered l) ++ lines_for (answered l) i) p.image
