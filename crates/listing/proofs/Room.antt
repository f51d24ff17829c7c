-- No listing is longer than a head of 46 bytes and 16 lines of 78. Assumes nothing.
use mathlib.Core.Path.{◌≡◌, refl, ap, subst}
use mathlib.Core.Bool.{Bool, true, false, cond}
use mathlib.Core.List.{List, [], ◌∷◌, ◌++◌}
use Prim.Native.Nat.{ℕ, zero, suc, ◌+◌, ◌*◌, ◌/◌, ◌%◌, ◌^◌, ◌≤◌, ◌<◌}
use native.Mathlib.Nat.{pow-suc, div-lt_iff_lt-mul}
use native.Mathlib.Omega.{arith}
use lib.Dec.{ltb}
use lib.ListN.{length, take, length-append}
use borrow.Author.Tests.{ltb-false}
use Rattle.word.proofs.Bytes.{le_four}
use Rattle.entry.specs.States.{state_at, written, erased, empty, illegal, totals_of}
use Rattle.entry.proofs.Counting.{count-le}
use Rattle.page.specs.declared.state.PageState.{PageState}
use Rattle.page.specs.declared.state.PageState.TheVariants.{Blank, Corrupt, Active, Full, Freeing}
use Rattle.page.specs.declared.«record».PageRecord.{PageRecord}
use Rattle.page.specs.State.{is_free, state_of}
use Rattle.page.specs.Unread.{unread_from, unread_of}
use Rattle.page.specs.Record.{free_seen, used_seen, seen_of, with_unread, record_of}
use Rattle.page.proofs.Split.{unread_most}
use Rattle.flash.specs.Step.{sector}
use Rattle.flash.proofs.Frame.{length_run}
use Rattle.flash.proofs.Small.{Small, run_small, part_small}
use Rattle.table.specs.Table.{sectors_of, whole_sectors}
use Rattle.table.proofs.Whole.{whole_is}
use Rattle.answer.specs.declared.Answer.{Answer}
use Rattle.answer.specs.Answer.{number_of, steps_of, refusal}
use Rattle.answer.proofs.Unused.{number_most}
use Rattle.lists.proofs.Member.{true≢false}
use Rattle.records.specs.Records.{each_to, records_to}
use Rattle.recover.specs.Promise.{most_steps, recover_answer, calling}
use Rattle.recover.proofs.Answered.{recover_told}
use Rattle.recover.proofs.Ends.{steps_most}
use Rattle.io.specs.Digits.{hex_digit_ascii}
use Rattle.text.specs.Text.{space, newline, spelled, decimal}
use Rattle.lines.specs.Lines.{state_name, counts, page_text, line, head}
use Rattle.listing.specs.Listing.{lines, lines_for, allowance, lent, image_after, answered, listing, room}
use Rattle.records.proofs.Reading.{length-each}
use Rattle.listing.proofs.Lines.{lines-behind}

-- a number below 10 ^ k has k digits at most
spelled_most : (turns n k : ℕ) → n < 10 ^ suc k → length (spelled turns n) ≤ suc k
unfolding spelled
spelled_most zero n k h = omega arith
spelled_most (suc turns) n k h = go (ltb n 10) refl k h (spelled_most turns (n / 10))
  where
    go : (b : Bool) → ltb n 10 ≡ b → (k : ℕ) → n < 10 ^ suc k → ((j : ℕ) → n / 10 < 10 ^ suc j → length (spelled turns (n / 10)) ≤ suc j)
        → length (cond b (hex_digit_ascii n ∷ []) (spelled turns (n / 10) ++ (hex_digit_ascii (n % 10) ∷ []))) ≤ suc k
    go true q k h rest = omega arith
    go false q zero h rest = absurd (let a = ltb-false n 10 q in omega arith)
    go false q (suc k) h rest =
        let tenth = (div-lt_iff_lt-mul {k = 10} (omega arith)).1 (subst (λ (x : ℕ). n < x) (pow-suc 10 (suc k)) h) in
        omega (arith, rest k tenth, length-append (spelled turns (n / 10)) (hex_digit_ascii (n % 10) ∷ []))

decimal_most : (n k : ℕ) → n < 10 ^ suc k → length (decimal n) ≤ suc k
unfolding decimal
decimal_most n k h = spelled_most n n k h

-- ---- the head

head_most : (sectors : ℕ) (a : Answer) → sectors < 10 ^ 16 → steps_of a ≤ most_steps → length (head sectors a) ≤ 46
unfolding head
head_most sectors a h k =
    simp length-append
    (omega (arith, decimal_most sectors 15 h, decimal_most (number_of a) 0 (omega (arith, number_most a)), decimal_most (steps_of a) 4 (omega (arith, k))))

-- ---- a line

pub record Short (r : PageRecord) : Type 0 where
  pub sequence : r.sequence < 10 ^ 10
  pub written : r.written < 10 ^ 3
  pub erased : r.erased < 10 ^ 3
  pub empty : r.empty < 10 ^ 3
  pub illegal : r.illegal < 10 ^ 3
  pub unread : r.unread < 10 ^ 3

record_short : (t : List ℕ) → Small t → Short (record_of t)
unfolding record_of seen_of unread_of totals_of
record_short t h = go (is_free (state_of t))
  where
    go : (b : Bool) → Short (with_unread (cond b (free_seen (state_of t)) (used_seen (state_of t) t)) (cond b 0 (unread_from t 126 0)))
    go true = record { sequence = omega arith; written = omega arith; erased = omega arith; empty = omega arith; illegal = omega arith; unread = omega arith }
    go false =
        record {
          sequence = omega (arith, le_four t 4, h 4, h 5, h 6, h 7);
          written = omega (arith, count-le written (state_at t) 126);
          erased = omega (arith, count-le erased (state_at t) 126);
          empty = omega (arith, count-le empty (state_at t) 126);
          illegal = omega (arith, count-le illegal (state_at t) 126);
          unread = omega (arith, unread_most t);
        }

name_most : (s : PageState) → length (state_name s) ≤ 7
name_most Blank = omega arith
name_most Corrupt = omega arith
name_most Active = omega arith
name_most Full = omega arith
name_most Freeing = omega arith

module _ (r : PageRecord) (h : Short r) where
  counts_most : length (counts r) ≤ 45
  unfolding counts
  counts_most =
      simp length-append
      (omega (arith, decimal_most r.written 2 h.written, decimal_most r.erased 2 h.erased, decimal_most r.empty 2 h.empty, decimal_most r.illegal 2 h.illegal))

  page_most : length (page_text r) ≤ 67
  unfolding page_text
  page_most =
      simp length-append (omega (arith, decimal_most r.unread 2 h.unread, decimal_most r.sequence 9 h.sequence, counts_most))

  line_most : (n : ℕ) → n < 10 ^ 2 → length (line n r) ≤ 78
  unfolding line
  line_most n k = go (is_free r.state)
    where
      go : (b : Bool) → length (decimal n ++ (space ++ (state_name r.state ++ (cond b [] (page_text r) ++ newline)))) ≤ 78
      go true = simp length-append (omega (arith, decimal_most n 1 k, name_most r.state))
      go false = simp length-append (omega (arith, decimal_most n 1 k, name_most r.state, page_most))

-- ---- the lines of n sectors
lines_most : (m : List ℕ) → Small m → (n : ℕ) → n ≤ 16 → length (lines 0 (records_to m n)) ≤ 78 * n
unfolding each_to sector
lines_most m h zero k = unfold lines in omega arith
lines_most m h (suc n) k =
    let r = record_of (sector n m) in
    let one = line_most r (record_short (sector n m) (part_small m (n * 4096) 4096 h)) (0 + length (records_to m n)) (omega (arith, length-each record_of m n)) in
    omega (arith, ap length (lines-behind 0 (records_to m n) r), length-append {A = ℕ}, lines_most m h n (omega arith), one)

-- an image that is not refused has 16 sectors at most
few-sectors : (l : List ℕ) → refusal (answered l) ≡ false → sectors_of l ≤ 16
unfolding recover_answer
few-sectors l e = go (whole_sectors l) refl
  where
    go : (b : Bool) → whole_sectors l ≡ b → sectors_of l ≤ 16
    go true w = (whole_is l w).1
    go false w = absurd (true≢false {b = true} refl (rw w at e))

for_most : (l : List ℕ) → Small l → length (lines_for (answered l) (image_after l)) ≤ 1248
unfolding lines_for
for_most l h = go (refusal (answered l)) refl
  where
    m : List ℕ
    m = image_after l

    go : (b : Bool) → refusal (answered l) ≡ b → length (cond b [] (lines 0 (records_to m (sectors_of m)))) ≤ 1248
    go true e = omega arith
    go false e =
        let few : sectors_of m ≤ 16 = omega (arith, few-sectors l e, length_run (take allowance (calling l lent)) l) in
        omega (arith, few, lines_most m (run_small (take allowance (calling l lent)) l h) (sectors_of m) few)

pub listing-fits : (l : List ℕ) (bytes : ℕ) → Small l → bytes < 2 ^ 64 → length (listing l bytes) ≤ room
unfolding listing
listing-fits l bytes h k =
    simp length-append
    (omega (arith, head_most (bytes / 4096) (answered l) (omega (arith, k)) (steps_most l lent allowance (recover_told l lent allowance)), for_most l h))
