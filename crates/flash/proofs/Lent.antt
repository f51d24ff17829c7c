-- Steps on a part of the image that was lent are the shifted steps on the image: each byte of the part stands so much further on. Assumes nothing.
use mathlib.Core.Path.{◌≡◌, refl, sym, ap, ◌∙◌}
use mathlib.Core.List.{List, [], ◌∷◌, ◌++◌, map, reverse, reverse-cons}
use Prim.Native.Nat.{ℕ, zero, suc, ◌+◌, ◌*◌, ◌≤◌, ◌<◌}
use native.Mathlib.Omega.{arith}
use lib.ListN.{take, drop, set, length-map}
use lib.Seq.{get_or-take, get_or-drop, drop-set-add, take-set-lt, drop-drop}
use borrow.Rule.Slice.PartMut.{mid_of, post_of, put_mid, put_same}
use Rattle.word.specs.Number.{part}
use Rattle.flash.specs.Step.{Step, program, erase, run, apply, put, and_word, and8, sector}
use Rattle.flash.specs.Did.{Did, Ran}
use Rattle.flash.proofs.Every.{Every, every_take}
use Rattle.flash.proofs.Frame.{AllIn, take-kept, drop-kept}

-- a step on a part that starts at a, as a step on the whole
abbrev pub shift1 : ℕ → Step → Step
shift1 a (program at b0 b1 b2 b3) = program (a + at) b0 b1 b2 b3
shift1 a (erase s) = erase s

abbrev pub shift : ℕ → List Step → List Step
shift a ss = map (shift1 a) ss

-- the step programs a word that lies within n bytes
abbrev pub Fit : ℕ → Step → Type 0
Fit n (program at b0 b1 b2 b3) = at + 4 ≤ n
Fit n (erase s) = ⊥

abbrev pub AllFit : ℕ → List Step → Type 0
AllFit n ss = Every (Fit n) ss

module _ (a : ℕ) where
  pub shift-append : (x y : List Step) → shift a (x ++ y) ≡ shift a x ++ shift a y
  shift-append [] y = refl
  shift-append (s ∷ x) y = ap (λ (t : List Step). shift1 a s ∷ t) (shift-append x y)

  pub shift_reverse : (x : List Step) → shift a (reverse x) ≡ reverse (shift a x)
  shift_reverse [] = refl
  shift_reverse (s ∷ x) = rw (reverse-cons s x, reverse-cons (shift1 a s) (shift a x), shift-append (reverse x) (s ∷ []), shift_reverse x)

  pub take-shift : (n : ℕ) (ss : List Step) → take n (shift a ss) ≡ shift a (take n ss)
  take-shift zero ss = refl
  take-shift (suc n) [] = refl
  take-shift (suc n) (s ∷ ss) = ap (λ (t : List Step). shift1 a s ∷ t) (take-shift n ss)

  -- steps that fit n bytes, shifted by a, lie within [a, a + n)
  pub shift_in : (n : ℕ) (ss : List Step) → AllFit n ss → AllIn a (a + n) (shift a ss)
  unfolding Every
  shift_in n [] f = tt
  shift_in n (program at b0 b1 b2 b3 ∷ ss) f = ((omega arith, omega (arith, f.0)), shift_in n ss f.1)
  shift_in n (erase s ∷ ss) f = absurd f.0

  part-put : (n : ℕ) (l : List ℕ) (i b : ℕ) → i < n → part (put l (a + i) b) a n ≡ put (part l a n) i b
  unfolding put
  part-put n l i b h =
      ap (take n) (drop-set-add a l i _)
      ∙ take-set-lt n (drop a l) i _ h
      ∙ ap (λ (v : ℕ). set (part l a n) i (and8 v b)) (sym (get_or-take n (drop a l) i 0 h ∙ get_or-drop a l i 0))

  part-word : (n : ℕ) (l : List ℕ) (at b0 b1 b2 b3 : ℕ) → at + 4 ≤ n → part (and_word l (a + at) b0 b1 b2 b3) a n ≡ and_word (part l a n) at b0 b1 b2 b3
  unfolding and_word
  part-word n l at b0 b1 b2 b3 h =
      let e1 : a + at + 1 ≡ a + (at + 1) = omega arith in
      let e2 : a + at + 2 ≡ a + (at + 2) = omega arith in
      let e3 : a + at + 3 ≡ a + (at + 3) = omega arith in
      rw (e1, e2, e3, part-put n _ (at + 3) b3 (omega arith), part-put n _ (at + 2) b2 (omega arith), part-put n _ (at + 1) b1 (omega arith), part-put n _ at b0 (omega arith))

  pub part-local : (n : ℕ) (ss : List Step) (l : List ℕ) → AllFit n ss → part (run (shift a ss) l) a n ≡ run ss (part l a n)
  unfolding run Every apply
  part-local n [] l f = refl
  part-local n (program at b0 b1 b2 b3 ∷ ss) l f = part-local n ss _ f.1 ∙ ap (λ (z : List ℕ). run ss z) (part-word n l at b0 b1 b2 b3 f.0)
  part-local n (erase s ∷ ss) l f = absurd f.0

  -- what is put back in the place of the part is what the shifted steps make of the whole
  lent-run : (n : ℕ) (ss : List Step) (l : List ℕ) → AllFit n ss → put_mid a n l (run ss (mid_of a n l)) ≡ run (shift a ss) l
  lent-run n ss l f =
      let m = run (shift a ss) l in
      let i = shift_in n ss f in
      let t : take a m ≡ take a l = take-kept a (a + n) (shift a ss) l i in
      let p : post_of a n m ≡ post_of a n l = drop-drop n a m ∙ drop-kept a (a + n) (shift a ss) l i ∙ sym (drop-drop n a l) in
      let q : mid_of a n m ≡ run ss (mid_of a n l) = part-local n ss l f in
      rw (← t, ← p, ← q) (put_same a n m)

  -- what a callee did that was lent the image from a on, n bytes of it
  pub did-lent : {ss : List Step} {k : ℕ} (n : ℕ) (l : List ℕ) {m : List ℕ} {r : Ran} → AllFit n ss → Did ss k (mid_of a n l) m r → Did (shift a ss) k l (put_mid a n l m) r
  did-lent {ss} {k} n l f d =
      record {
        image = rw (d.image, lent-run n (take k ss) l (every_take (Fit n) k ss f), take-shift k ss);
        answer = rw (length-map ss (shift1 a)) d.answer;
      }

-- steps in one sector, as steps on its bytes
pub sector-local : (t : ℕ) (ss : List Step) (l : List ℕ) → AllFit 4096 ss → sector t (run (shift (t * 4096) ss) l) ≡ run ss (sector t l)
unfolding sector
sector-local t ss l f = part-local (t * 4096) 4096 ss l f
