-- What the state steps of a span leave, entry by entry, and that this fixes the image: whoever sets the same entries the same way, in steps of any kind, leaves
-- the same bytes. Document 01's rule, which marked by the words that cover the span, left just this, so by `set_one` no judgement of an image at the end of a
-- copy or an erasure moved with document 02's No. 4. Assumes nothing.
use mathlib.Core.Path.{◌≡◌, refl, sym, ◌∙◌}
use mathlib.Core.Logic.{◌⊎◌, inl, inr, ⊎_elim}
use mathlib.Core.Bool.{true}
use mathlib.Core.List.{List}
use Prim.Native.Nat.{ℕ, ◌+◌, ◌-◌, ◌*◌, ◌/◌, ◌%◌, ◌^◌, ◌≤◌, ◌<◌}
use native.Mathlib.Omega.{arith}
use lib.Dec.{eqb}
use lib.ListN.{length, get_or, drop}
use lib.Seq.{ext_get_or, get_or-drop, take-length}
use borrow.Author.Tests.{eqb-true}
use Rattle.entry.specs.States.{state_at}
use Rattle.flash.specs.Step.{run, and8}
use Rattle.flash.proofs.And.{and8_none}
use Rattle.flash.proofs.Frame.{length_run, run-other}
use Rattle.flash.proofs.Order.{le-or-gt}
use Rattle.flash.proofs.Small.{Small, run_small}
use Rattle.lists.specs.Lists.{all_to}
use Rattle.lists.proofs.Passing.{all_at}
use Rattle.marking.specs.Marking.{marking, unmarking}
use Rattle.marking.proofs.Spans.{marking_in, unmarking_in, marking-keeps, unmarking-keeps, marking_ends, unmarking_ends}

-- m is the image l, of which n entries from entry j on of the page at base have had their states ANDed with v
pub record Set (base j n v : ℕ) (l m : List ℕ) : Type 0 where
  pub size : length m ≡ length l
  pub bytes : Small m
  pub beside : (i : ℕ) → (i < base + 32) ⊎ (base + 64 ≤ i) → get_or m i 0 ≡ get_or l i 0
  pub others : (e : ℕ) → (e < j) ⊎ (j + n ≤ e) → state_at (drop base m) e ≡ state_at (drop base l) e
  pub own : (e : ℕ) → j ≤ e → e < j + n → state_at (drop base m) e ≡ and8 (state_at (drop base l) e) v

-- ---- a byte is its four pairs

abbrev from_pairs : ℕ → ℕ
from_pairs x = x / 2 ^ (2 * 0) % 4 + x / 2 ^ (2 * 1) % 4 * 4 + x / 2 ^ (2 * 2) % 4 * 16 + x / 2 ^ (2 * 3) % 4 * 64

-- all 256 of them, computed
bytes_right : all_to (λ (x : ℕ). eqb x (from_pairs x)) 256 ≡ true
unfolding all_to
bytes_right = refl

byte_pairs : (x : ℕ) → x < 256 → x ≡ from_pairs x
byte_pairs x h = eqb-true x (from_pairs x) (all_at (λ (y : ℕ). eqb y (from_pairs y)) 256 bytes_right x h)

pairs_byte : (x y : ℕ) → x < 256 → y < 256 → ((i : ℕ) → i < 4 → x / 2 ^ (2 * i) % 4 ≡ y / 2 ^ (2 * i) % 4) → x ≡ y
pairs_byte x y a b f = byte_pairs x a ∙ rw (f 0 (omega arith), f 1 (omega arith), f 2 (omega arith), f 3 (omega arith)) (sym (byte_pairs y b))

module _ (base j n v : ℕ) (l m k : List ℕ) (M : Set base j n v l m) (K : Set base j n v l k) where
  state_one : (e : ℕ) → state_at (drop base m) e ≡ state_at (drop base k) e
  state_one e =
      ⊎_elim (λ a. ⊎_elim (λ b. M.others e (inr b) ∙ sym (K.others e (inr b))) (λ b. M.own e a b ∙ sym (K.own e a b)) (le-or-gt (j + n) e))
      (λ a. M.others e (inl a) ∙ sym (K.others e (inl a))) (le-or-gt j e)

  -- pair i of byte b of the states
  pair_one : (b i : ℕ) → i < 4 → get_or m (base + (32 + b)) 0 / 2 ^ (2 * i) % 4 ≡ get_or k (base + (32 + b)) 0 / 2 ^ (2 * i) % 4
  unfolding state_at
  pair_one b i h =
      let p : (b * 4 + i) / 4 ≡ b = omega arith in
      let q : (b * 4 + i) % 4 ≡ i = omega arith in
      rw (p, q, get_or-drop base m, get_or-drop base k) at (state_one (b * 4 + i))

  byte_one : (i : ℕ) → get_or m i 0 ≡ get_or k i 0
  byte_one i = ⊎_elim (λ a. ⊎_elim (λ b. M.beside i (inr b) ∙ sym (K.beside i (inr b))) (λ b. inside a b) (le-or-gt (base + 64) i)) (λ a. M.beside i (inl a) ∙ sym (K.beside i (inl a))) (le-or-gt (base + 32) i)
    where
      inside : base + 32 ≤ i → i < base + 64 → get_or m i 0 ≡ get_or k i 0
      inside a b =
          let e : base + (32 + (i - (base + 32))) ≡ i = omega arith in
          rw e at (pairs_byte _ _ (M.bytes (base + (32 + (i - (base + 32))))) (K.bytes (base + (32 + (i - (base + 32))))) (pair_one (i - (base + 32))))

  -- the image is fixed
  pub set_one : m ≡ k
  set_one = ext_get_or 0 m k (M.size ∙ sym K.size) (λ i h. byte_one i)

-- ---- what the steps leave, of an image of bytes

module _ (base j n : ℕ) (fits : j + n ≤ 126) (l : List ℕ) (long : base + 4096 ≤ length l) (bytes : Small l) where
  -- each entry of the span Written where it was Empty: the image of a copy's marks
  pub marking-set : Set base j n 2 l (run (marking base j n) l)
  marking-set = record {
    size = length_run (marking base j n) l;
    bytes = run_small (marking base j n) l bytes;
    beside = λ i o. run-other (base + 32) (base + 64) (marking base j n) l i (marking_in base j n fits) o;
    others = λ e o. rw (take-length (marking base j n)) at (marking-keeps base j n fits e o l long (length (marking base j n)));
    own = marking_ends base j n fits l long;
  }

  -- each Erased
  pub unmarking-set : Set base j n 0 l (run (unmarking base j n) l)
  unfolding and8
  unmarking-set = record {
    size = length_run (unmarking base j n) l;
    bytes = run_small (unmarking base j n) l bytes;
    beside = λ i o. run-other (base + 32) (base + 64) (unmarking base j n) l i (unmarking_in base j n fits) o;
    others = λ e o. rw (take-length (unmarking base j n)) at (unmarking-keeps base j n fits e o l long (length (unmarking base j n)));
    own = λ e a b. unmarking_ends base j n fits l long e a b ∙ sym (and8_none (state_at (drop base l) e));
  }
