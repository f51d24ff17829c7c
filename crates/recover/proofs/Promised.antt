-- From the refusals and from what the stages made to the promise, and from the rows to the records stored. Assumes nothing.
use Rattle.std.specs.Prelude.{Err, Ok}
use mathlib.Core.Path.{◌≡◌, refl, sym, ap, ◌∙◌}
use mathlib.Core.Bool.{Bool, true, false}
use mathlib.Core.List.{List, [], ◌++◌}
use Prim.Native.Nat.{ℕ, zero, suc, ◌/◌, ◌≤◌, ◌<◌}
use native.Mathlib.Omega.{arith}
use lib.Dec.{ltb}
use lib.ListN.{length, take, drop, get_or, replicate, get_or-replicate, get_or-eq_default}
use borrow.Author.Tests.{le-leb, lt-leb, ltb-true, ltb-false}
use Rattle.flash.specs.Step.{run}
use Rattle.flash.proofs.Frame.{length_run}
use Rattle.answer.specs.declared.Stage.{Stage}
use Rattle.answer.specs.declared.Answer.{Answer}
use Rattle.answer.specs.declared.Answer.TheVariants.{NotSectors, FewRecords, SequencesSpent}
use Rattle.answer.specs.Answer.{number_of}
use Rattle.answer.specs.Staged.{Staged, untag}
use Rattle.answer.specs.Told.{Told}
use Rattle.answer.specs.Went.{Made, told_of, Went}
use Rattle.answer.proofs.Made.{made_idle, told_is}
use Rattle.answer.proofs.Values.{idle}
use Rattle.page.specs.declared.«record».PageRecord.{PageRecord}
use Rattle.table.specs.Table.{sectors_of, whole_sectors, pages}
use Rattle.records.specs.declared.Rows.{Rows}
use Rattle.page.specs.Record.{record_of}
use Rattle.records.specs.Records.{filled, blank_record, no_rows, rows_of}
use Rattle.records.specs.Scanned.{scanned_of}
use Rattle.records.specs.Notes.{NoneNoted}
use Rattle.records.proofs.Reading.{rows-read}
use Rattle.recover.specs.declared.Recovered.{Recovered}
use Rattle.stages.specs.Stages.{too_high, recovering}
use Rattle.recover.specs.Promise.{called, calling, recover_table, whole_answer, recover_answer, records_after, rows_for, Recovers, RecoverPromise}
use Rattle.recover.proofs.Answered.{none_whole, none_lent, none_high, steps-called, recover_told}

pub made_size : {ts : List Staged} {n : ℕ} {l m : List ℕ} {w : Went} → Made ts n l m w → length m ≡ length l
made_size {ts} {n} {l} d = ap length d.image ∙ length_run (take n (untag ts)) l

-- no step was made: what was seen of the image as it was found is what is seen of the image that is left
pub seen_idle : {ts : List Staged} {n : ℕ} {l m : List ℕ} {w : Went} → Made ts n l m w → w ≡ Ok n → (k : ℕ) → scanned_of l k ≡ scanned_of m k
seen_idle made e k = ap (λ (i : List ℕ). scanned_of i k) (sym (made_idle (rw e at made)))

-- before the stages nothing is noted
pub none_walked : NoneNoted (replicate 16 0)
none_walked = record { room = omega arith; none = λ u. go u (ltb u 16) refl }
  where
    go : (u : ℕ) (b : Bool) → ltb u 16 ≡ b → ◌≡◌ {A = ℕ} (get_or (replicate 16 0) u 0) 0
    go u true e = get_or-replicate 16 u 0 0 (ltb-true u 16 e)
    go u false e = get_or-eq_default (replicate 16 0) 0 (ltb-false u 16 e)

-- ---- the refusals

pub none_calling : (l : List ℕ) (lent : ℕ) → called l lent ≡ [] → calling l lent ≡ []
unfolding calling untag
none_calling l lent e = rw e

module _ (l : List ℕ) (lent n : ℕ) where
  answer_as : {a : Answer} → a ≡ recover_answer l lent n → Told (recover_table l lent n) n (called l lent) a
  answer_as e = rw e (recover_told l lent n)

  refused : {r : Recovered} (a : Answer) → no_rows ≡ rows_for (number_of a) l → called l lent ≡ [] → a ≡ recover_answer l lent n → r.answer ≡ a → r.rows ≡ no_rows → Recovers l lent n l r
  refused {r} a f none answer e s =
      record {
        answer = answer_as (e ∙ answer);
        image = idle n l (calling l lent) (none_calling l lent none);
        rows = rw e (s ∙ f);
      }

  pub refused-sectors : {r : Recovered} → whole_sectors l ≡ false → r.answer ≡ NotSectors → r.rows ≡ no_rows → Recovers l lent n l r
  unfolding recover_answer
  refused-sectors w e s = refused NotSectors refl (none_whole l lent w) (rw w) e s

  pub refused-records : {r : Recovered} → whole_sectors l ≡ true → lent < sectors_of l → r.answer ≡ FewRecords → r.rows ≡ no_rows → Recovers l lent n l r
  unfolding recover_answer
  refused-records w h e s = refused FewRecords refl (none_lent l lent h) (rw (w, lt-leb (sectors_of l) lent h)) e s

  pub refused-sequences : {r : Recovered} → whole_sectors l ≡ true → sectors_of l ≤ lent → too_high (pages l) ≡ true → r.answer ≡ SequencesSpent → r.rows ≡ no_rows → Recovers l lent n l r
  unfolding recover_answer whole_answer
  refused-sequences w h t e s = refused SequencesSpent refl (none_high l lent t) (rw (w, le-leb (sectors_of l) lent h, t)) e s

  -- ---- what the stages made

  module _ {m : List ℕ} {w : Went} (whole : whole_sectors l ≡ true) (enough : sectors_of l ≤ lent) (low : too_high (pages l) ≡ false) (made : Made (recovering l) n l m w) where
    answer_is : told_of w n ≡ recover_answer l lent n
    unfolding recover_answer whole_answer
    answer_is = rw (whole, le-leb (sectors_of l) lent enough, low) (ap (λ (v : Went). told_of v n) made.answer ∙ told_is n (recovering l))

    image_is : m ≡ run (take n (calling l lent)) l
    unfolding calling
    image_is = rw (steps-called l lent whole enough low) made.image

    sectors-are : sectors_of m ≡ sectors_of l
    sectors-are = ap (λ (x : ℕ). x / 4096) (made_size made)

    pub stopped_short : {r : Recovered} {x : Stage} → w ≡ Err x → r.answer ≡ told_of w n → r.rows ≡ no_rows → Recovers l lent n m r
    stopped_short {r} {x} e a s =
        record {
          answer = answer_as (a ∙ answer_is);
          image = image_is;
          rows = rw (a, e) s;
        }

    pub ended-rows : {r : Recovered} {k : ℕ} → w ≡ Ok k → r.answer ≡ told_of w n → r.rows ≡ rows_of m (sectors_of l) → Recovers l lent n m r
    ended-rows {r} {k} e a s =
        record {
          answer = answer_as (a ∙ answer_is);
          image = image_is;
          rows = rw (a, e, sectors-are) s;
        }

-- ---- the records stored

stored-rows : (k : ℕ) (m : List ℕ) (ys : List PageRecord) → filled (rows_for k m).count (rows_for k m).rows ys ≡ records_after k m ys
unfolding records_after
stored-rows zero m ys = ap (λ (rs : List PageRecord). rs ++ drop (sectors_of m) ys) (rows-read record_of m blank_record (sectors_of m))
stored-rows (suc k) m ys = refl

pub stored : {l m : List ℕ} {ys zs : List PageRecord} {n : ℕ} {r : Recovered} → Recovers l (length ys) n m r → zs ≡ filled r.rows.count r.rows.rows ys → RecoverPromise l ys n m zs r.answer
stored {l} {m} {ys} {zs} {n} {r} h e =
    record {
      answer = h.answer;
      image = h.image;
      records = e ∙ ap (λ (s : Rows). filled s.count s.rows ys) h.rows ∙ stored-rows (number_of r.answer) m ys;
    }
