-- Programming raises no byte, and leaves none above the byte that was programmed. Assumes nothing.
use mathlib.Core.Path.{◌≡◌, refl}
use mathlib.Core.Logic.{⊎_elim}
use mathlib.Core.Bool.{Bool, true, false}
use mathlib.Core.List.{List, [], ◌∷◌}
use Prim.Native.Nat.{ℕ, ◌+◌, ◌*◌, ◌≤◌, ◌<◌}
use native.Mathlib.Omega.{arith}
use lib.Dec.{eqb}
use lib.ListN.{length, get_or}
use lib.Seq.{set_out}
use borrow.Author.Tests.{eqb-true, eqb-false}
use Rattle.flash.specs.Step.{Step, program, erase, run, apply, put, and_word, and8}
use Rattle.flash.specs.Words.{word}
use Rattle.flash.proofs.Order.{le-or-gt}
use Rattle.flash.proofs.And.{and8_left, and8_right}
use Rattle.flash.proofs.Bytes.{put_other, put_same_at, word_byte, nth_of}
use Rattle.flash.proofs.Every.{Every}
use Rattle.flash.proofs.Lent.{AllFit}

pub put-le : (l : List ℕ) (i b j : ℕ) → get_or (put l i b) j 0 ≤ get_or l j 0
put-le l i b j = go (eqb j i) refl
  where
    past : length l ≤ i → get_or (put l i b) i 0 ≤ get_or l i 0
    past h = unfold put in rw (set_out l i (and8 (get_or l i 0) b) h) (omega arith)

    within : i < length l → get_or (put l i b) i 0 ≤ get_or l i 0
    within h = rw (put_same_at l i b h) (and8_left (get_or l i 0) b)

    go : (c : Bool) → eqb j i ≡ c → get_or (put l i b) j 0 ≤ get_or l j 0
    go true q = rw (eqb-true j i q) (⊎_elim past within (le-or-gt (length l) i))
    go false q = let e = put_other l i b j (eqb-false j i q) in omega arith

-- steps that program alone
pub fit_le : (n : ℕ) (ss : List Step) (l : List ℕ) (j : ℕ) → AllFit n ss → get_or (run ss l) j 0 ≤ get_or l j 0
unfolding run apply and_word Every
fit_le n [] l j f = omega arith
fit_le n (program at b0 b1 b2 b3 ∷ ss) l j f =
    let a = put-le l at b0 j in
    let b = put-le (put l at b0) (at + 1) b1 j in
    let c = put-le (put (put l at b0) (at + 1) b1) (at + 2) b2 j in
    let d = put-le (put (put (put l at b0) (at + 1) b1) (at + 2) b2) (at + 3) b3 j in
    let r = fit_le n ss (and_word l at b0 b1 b2 b3) j f.1 in
    omega arith
fit_le n (erase s ∷ ss) l j f = absurd f.0

-- a word that was programmed
pub word-le : (at : ℕ) (e l : List ℕ) (k i : ℕ) → at + k * 4 + 4 ≤ length l → i < 4 → get_or (apply (word at e k) l) (at + k * 4 + i) 0 ≤ get_or e (k * 4 + i) 0
unfolding apply
word-le at e l k i h g = rw (word_byte l (at + k * 4) _ _ _ _ i g h, nth_of (λ j. get_or e j 0) (k * 4) i g) (and8_right _ _)
