-- A page packed up to an entry: all before it is Written, and from it on the sector is as it was made. An item copied to that entry packs the page up to
-- the item's end. Assumes nothing.
use mathlib.Core.Path.{◌∙◌, ◌≡◌}
use mathlib.Core.Logic.{◌⊎◌, inl, inr, ⊎_elim}
use mathlib.Core.List.{List}
use Prim.Native.Nat.{◌*◌, ◌+◌, ◌/◌, ◌<◌, ◌≤◌, suc, ℕ}
use native.Mathlib.Omega.{arith}
use lib.ListN.{get_or, length}
use Rattle.entry.specs.States.{empty, state_at, written}
use Rattle.entry.specs.Fields.{span_of}
use Rattle.flash.specs.Step.{Step, and8, run}
use Rattle.flash.specs.Words.{words}
use Rattle.flash.proofs.Order.{le-or-gt}
use Rattle.flash.proofs.Every.{every_none, every_one}
use Rattle.flash.proofs.Frame.{AllIn, In, length_run, run-other}
use Rattle.flash.proofs.Words.{words_in}
use Rattle.item.specs.Copy.{full_mark}
use Rattle.marking.specs.Marking.{marking}
use Rattle.item.proofs.Turns.{full-no, full-yes}
use Rattle.marking.proofs.States.{state-byte}
use Rattle.marking.proofs.Spans.{marking_ends, marking_in, marking-keeps, marking_whole}

-- ones from byte a on
abbrev pub Ones : List ℕ → ℕ → Type 0
Ones T a = (i : ℕ) → a ≤ i → i < 4096 → get_or T i 0 ≡ 0xFF

-- packed up to entry p: the entries before it are Written, the others Empty, and their bytes ones
pub record Packed (T : List ℕ) (p : ℕ) : Type 0 where
  pub len : length T ≡ 4096
  pub written_to : (e : ℕ) → e < p → state_at T e ≡ written
  pub empty_from : (e : ℕ) → p ≤ e → e < 126 → state_at T e ≡ empty
  pub ones_from : Ones T (64 + p * 32)

-- an item's words lie in its entries
pub item_words_in : (p : ℕ) (r : List ℕ) → AllIn (64 + p * 32) (64 + (p + span_of r) * 32) (words (0 + 64 + p * 32) r 0 (span_of r * 8))
item_words_in p r = words_in (0 + 64 + p * 32) r _ _ 0 (span_of r * 8) (omega arith) (omega arith)

-- an item's steps: its words, its states, the Full mark where it is due
module _ (T : List ℕ) (p : ℕ) (r : List ℕ) (K : Packed T p) (some : 1 ≤ span_of r) (fit : p + span_of r ≤ 126) where
  abbrev n : ℕ
  n = span_of r

  abbrev ws : List Step
  ws = words (0 + 64 + p * 32) r 0 (n * 8)

  abbrev st : List Step
  st = marking 0 p n

  abbrev fm : List Step
  fm = full_mark 0 (p + n)

  abbrev T1 : List ℕ
  T1 = run ws T

  abbrev T2 : List ℕ
  T2 = run st T1

  fm_in : AllIn 0 4 fm
  fm_in =
      ⊎_elim (λ h. rw (full-yes 0 (p + n) (omega arith)) (every_one (In 0 4) _ (omega arith, omega arith)))
      (λ h. rw (full-no 0 (p + n) (λ e. omega arith)) (every_none (In 0 4))) (le-or-gt 126 (p + n))

  len_1 : length T1 ≡ 4096
  len_1 = length_run ws T ∙ K.len

  -- the states go by the marking alone
  states_1 : (e : ℕ) → e < 126 → state_at T1 e ≡ state_at T e
  states_1 e h = state-byte 0 e T T1 (run-other (64 + p * 32) (64 + (p + n) * 32) ws T (0 + (32 + e / 4)) (item_words_in p r) (inl (omega arith)))

  states_3 : (e : ℕ) → state_at (run fm T2) e ≡ state_at T2 e
  states_3 e = state-byte 0 e T2 (run fm T2) (run-other 0 4 fm T2 (0 + (32 + e / 4)) fm_in (inr (omega arith)))

  others : (e : ℕ) → e < 126 → (e < p) ⊎ (p + n ≤ e) → state_at (run fm T2) e ≡ state_at T e
  others e h o = states_3 e ∙ (rw (marking_whole 0 p n) at (marking-keeps 0 p n fit e o T1 (let a = len_1 in omega arith) (suc (length st)))) ∙ states_1 e h

  own : (e : ℕ) → p ≤ e → e < p + n → state_at (run fm T2) e ≡ written
  unfolding and8
  own e a b =
      states_3 e ∙ marking_ends 0 p n fit T1 (let c = len_1 in omega arith) e a b ∙ rw (states_1 e (omega arith), K.empty_from e a (omega arith))

  behind : Ones (run fm T2) (64 + (p + n) * 32)
  behind i a b =
      run-other 0 4 fm T2 i fm_in (inr (omega arith))
      ∙ run-other 32 64 st T1 i (marking_in 0 p n fit) (inr (omega arith))
      ∙ run-other (64 + p * 32) (64 + (p + n) * 32) ws T i (item_words_in p r) (inr a)
      ∙ K.ones_from i (omega arith) b

  pub item_packed : Packed (run fm T2) (p + n)
  item_packed = record {
    len = length_run fm T2 ∙ length_run st T1 ∙ len_1;
    written_to = λ e h. ⊎_elim (λ a. own e a h) (λ a. others e (omega arith) (inl a) ∙ K.written_to e a) (le-or-gt p e);
    empty_from = λ e a b. others e b (inr a) ∙ K.empty_from e (omega arith) b;
    ones_from = behind;
  }
