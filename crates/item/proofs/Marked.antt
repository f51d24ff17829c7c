-- A page whose state is marked: all but the state word stays, and the state is the new one. Assumes nothing.
use mathlib.Core.Path.{◌∙◌, ◌≡◌, ap, refl}
use mathlib.Core.Bool.{true}
use mathlib.Core.List.{List, [], ◌∷◌}
use Prim.Native.Nat.{◌+◌, ◌<◌, ◌≤◌, ℕ}
use native.Mathlib.Omega.{arith}
use lib.ListN.{drop, get_or, length, take}
use Rattle.word.specs.Number.{part}
use Rattle.page.specs.declared.state.PageState.TheVariants.{Active, Freeing, Full}
use Rattle.page.specs.State.{header_right, sequence_of, state_of}
use Rattle.page.proofs.Read.{Word4, right_same, sequence_same, state_inv, state_is, word_by}
use Rattle.flash.specs.Step.{and8, apply, run}
use Rattle.flash.proofs.Bytes.{nth4, word_byte}
use Rattle.flash.proofs.Every.{every_one}
use Rattle.flash.proofs.Frame.{In, drop-kept}
use Rattle.item.specs.Mark.{page_state}

module _ (T : List ℕ) (b : ℕ) (h : 4 ≤ length T) where
  abbrev marked : List ℕ
  marked = run (page_state 0 b ∷ []) T

  -- a mark leaves all but the state word
  pub marked-drop : (p : ℕ) → 4 ≤ p → drop p marked ≡ drop p T
  marked-drop p k = drop-kept 0 p (page_state 0 b ∷ []) T (every_one (In 0 p) _ (omega arith, omega arith))

  marked-byte : (i : ℕ) → i < 4 → get_or marked i 0 ≡ and8 (get_or T i 0) (nth4 b 0xFF 0xFF 0xFF i)
  unfolding run apply
  marked-byte i k = let z : 0 + i ≡ i = omega arith in rw z at (word_byte T 0 b 0xFF 0xFF 0xFF i k h)

  pub marked-word : (x y : ℕ) → Word4 T x → and8 x b ≡ y → Word4 marked y
  unfolding and8
  marked-word x y w e = (
    marked-byte 0 (omega arith) ∙ rw w.0 e,
    marked-byte 1 (omega arith) ∙ rw w.1,
    marked-byte 2 (omega arith) ∙ rw w.2,
    marked-byte 3 (omega arith) ∙ rw w.3,
  )

  marked-header : part marked 4 28 ≡ part T 4 28
  marked-header = ap (take 28) (marked-drop 4 (omega arith))

  marked-state : (x y : ℕ) → (y ≡ 0xFF → ⊥) → header_right T ≡ true → Word4 T x → and8 x b ≡ y → state_of marked ≡ word_by y true
  marked-state x y ne g w e = state_is marked y ne (right_same T marked marked-header ∙ g) (marked-word x y w e)

  pub marked-sequence : sequence_of marked ≡ sequence_of T
  marked-sequence = sequence_same T marked marked-header

-- Full to Freeing, Active to Full
pub to_freeing : (T : List ℕ) → 4 ≤ length T → state_of T ≡ Full → state_of (run (page_state 0 0xF8 ∷ []) T) ≡ Freeing
unfolding and8
to_freeing T h e = let i = state_inv T Full e refl in marked-state T 0xF8 h 0xFC 0xF8 (λ q. omega arith) i.0 i.1 refl

pub to_full : (T : List ℕ) → 4 ≤ length T → state_of T ≡ Active → state_of (run (page_state 0 0xFC ∷ []) T) ≡ Full
unfolding and8
to_full T h e = let i = state_inv T Active e refl in marked-state T 0xFC h 0xFE 0xFC (λ q. omega arith) i.0 i.1 refl
