-- The rule in force leaves the image that document 01's rule by covering words left, of every image of bytes and for every span, and takes no fewer steps. So no
-- judgement that is made after a copy or an erasure moved with document 02's No. 4: each is a function of the image. Assumes nothing.
use mathlib.Core.Path.{◌≡◌, ap}
use mathlib.Core.Logic.{⊎_elim}
use mathlib.Core.List.{List, ◌++◌, reverse}
use Prim.Native.Nat.{ℕ, ◌+◌, ◌*◌, ◌/◌, ◌≤◌}
use native.Mathlib.Omega.{arith}
use lib.ListN.{length, length-reverse, get_or-eq_default}
use Rattle.entry.specs.Fields.{span_of}
use Rattle.flash.specs.Step.{blank, run}
use Rattle.flash.specs.Words.{words}
use Rattle.flash.proofs.Erased.{blank-byte, length-blank}
use Rattle.flash.proofs.Every.{every_reverse}
use Rattle.flash.proofs.Frame.{In, length_run, run-other}
use Rattle.flash.proofs.Laws.{run-append}
use Rattle.flash.proofs.Order.{le-or-gt}
use Rattle.flash.proofs.Small.{Small, run_small}
use Rattle.item.specs.Copy.{copying, full_mark}
use Rattle.item.specs.Erase.{erasing}
use Rattle.marking.specs.Marking.{marking, unmarking}
use Rattle.marking.proofs.Ends.{Set, set_one, marking-set, unmarking-set}
use Rattle.marking.proofs.Spans.{Leaves, run-leaves, run_sets, length-marking, length-unmarking}
use Rattle.covering.specs.Covering.{state_words, covering, marking_words, erasing_words, copying_words}
use Rattle.covering.proofs.Words.{length-words, words-every, words_leave, words-split, reverse_split, before-leaves, after-leaves, the_word}

module _ (base j n : ℕ) (some : 1 ≤ n) (fits : j + n ≤ 126) where
  abbrev w : ℕ
  w = j / 16

  abbrev k : ℕ
  k = covering j n

  -- never shorter
  pub marking_more : length (marking_words base j n) ≤ length (marking base j n)
  unfolding marking_words
  marking_more = omega (arith, length-words base 1 j n w k, length-marking base j n)

  pub erasing_more : length (erasing_words base j n) ≤ length (unmarking base j n)
  unfolding erasing_words
  erasing_more = omega (arith, length-reverse (state_words base 3 j n w k), length-words base 3 j n w k, length-unmarking base j n)

  module _ (l : List ℕ) (long : base + 4096 ≤ length l) (bytes : Small l) where
    words-set : Set base j n 2 l (run (marking_words base j n) l)
    unfolding marking_words
    words-set =
        let ss = state_words base 1 j n w k in
        record {
          size = length_run ss l;
          bytes = run_small ss l bytes;
          beside = λ i o. run-other (base + 32) (base + 64) ss l i (words-every base 1 j n (In (base + 32) (base + 64)) w k (λ v a b. (omega arith, omega arith))) o;
          others = λ e o. run-leaves base e ss l long (words_leave base 1 j n (omega arith) w k (omega arith) e o);
          own = λ e a b. rw (words-split base 1 j n (omega arith) w k (omega arith) e (omega arith) (omega arith)) (run_sets base e 2 _ _ _ l long
              (before-leaves base 1 j n (omega arith) w k (omega arith) e (omega arith) (omega arith)) (the_word base 1 j n (omega arith) w k (omega arith) e (omega arith) (omega arith) a b)
              (after-leaves base 1 j n (omega arith) w k (omega arith) e (omega arith) (omega arith)));
        }

    words-erased : Set base j n 0 l (run (erasing_words base j n) l)
    unfolding erasing_words
    words-erased =
        let ss = state_words base 3 j n w k in
        record {
          size = length_run (reverse ss) l;
          bytes = run_small (reverse ss) l bytes;
          beside = λ i o. run-other (base + 32) (base + 64) (reverse ss) l i (every_reverse (In (base + 32) (base + 64)) ss (words-every base 3 j n (In (base + 32) (base + 64)) w k (λ v a b. (omega arith, omega arith)))) o;
          others = λ e o. run-leaves base e (reverse ss) l long (every_reverse (Leaves base e) ss (words_leave base 3 j n (omega arith) w k (omega arith) e o));
          own = λ e a b. rw (reverse_split base 3 j n (omega arith) w k (omega arith) e (omega arith) (omega arith)) (run_sets base e 0 _ _ _ l long
              (every_reverse (Leaves base e) _ (after-leaves base 3 j n (omega arith) w k (omega arith) e (omega arith) (omega arith))) (the_word base 3 j n (omega arith) w k (omega arith) e (omega arith) (omega arith) a b)
              (every_reverse (Leaves base e) _ (before-leaves base 3 j n (omega arith) w k (omega arith) e (omega arith) (omega arith))));
        }

    pub marked_same : run (marking base j n) l ≡ run (marking_words base j n) l
    marked_same = set_one base j n 2 l _ _ (marking-set base j n fits l long bytes) words-set

    pub erased_same : run (unmarking base j n) l ≡ run (erasing_words base j n) l
    erased_same = set_one base j n 0 l _ _ (unmarking-set base j n fits l long bytes) words-erased

-- a copy, and an erasure
pub copied_same : (base j : ℕ) (r : List ℕ) → 1 ≤ span_of r → j + span_of r ≤ 126 → (l : List ℕ) → base + 4096 ≤ length l → Small l
    → run (copying base j r) l ≡ run (copying_words base j r) l
unfolding copying copying_words
copied_same base j r some fits l long bytes =
    let n = span_of r in
    let a = words (base + 64 + j * 32) r 0 (n * 8) in
    let f = full_mark base (j + n) in
    let m = run a l in
    rw (run-append a (marking base j n ++ f) l, run-append a (marking_words base j n ++ f) l, run-append (marking base j n) f m, run-append (marking_words base j n) f m) (
    ap (run f) (marked_same base j n some fits m (rw (length_run a l) long) (run_small a l bytes))
    )

pub dropped_same : (s i n : ℕ) → 1 ≤ n → i + n ≤ 126 → (l : List ℕ) → s * 4096 + 4096 ≤ length l → Small l
    → run (erasing s i n) l ≡ run (erasing_words (s * 4096) i n) l
unfolding erasing
dropped_same s i n some fits l long bytes = erased_same (s * 4096) i n some fits l long bytes

-- there are such images: a blank sector, on which entries 10 to 29 are marked, in 20 steps or by 2 words
blank_small : Small (blank 4096)
blank_small i =
    ⊎_elim (λ h. rw (get_or-eq_default (blank 4096) 0 {n = i} (let n = length-blank 4096 in omega arith)) (omega arith)) (λ h. rw (blank-byte 4096 i h) (omega arith)) (le-or-gt 4096 i)

pub example : run (marking 0 10 20) (blank 4096) ≡ run (marking_words 0 10 20) (blank 4096)
example = marked_same 0 10 20 (omega arith) (omega arith) (blank 4096) (let n = length-blank 4096 in omega arith) blank_small
