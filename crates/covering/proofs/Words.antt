-- A word of the rule by covering words: it sets the states of the span's entries in it, and leaves all others. The words of a span leave the entries that
-- are not of it and set each that is. Assumes nothing.
use mathlib.Core.Path.{◌≡◌, refl, ap, ◌∙◌}
use mathlib.Core.Logic.{◌⊎◌, inl, inr, ⊎_elim}
use mathlib.Core.Bool.{Bool, true, false, cond}
use mathlib.Core.List.{List, [], ◌∷◌, ◌++◌, reverse, reverse-cons, reverse-append, append_assoc}
use Prim.Native.Nat.{ℕ, zero, suc, ◌+◌, ◌-◌, ◌*◌, ◌/◌, ◌%◌, ◌^◌, ◌≤◌, ◌<◌}
use native.Mathlib.Nat.{add-zero}
use native.Mathlib.Omega.{arith}
use lib.Dec.{eqb, leb, ltb}
use lib.ListN.{length, get_or, drop}
use lib.Seq.{get_or-drop}
use borrow.Author.Tests.{eqb-true, eqb-false, lt-ltb, le-ltb, le-leb, lt-leb}
use Rattle.entry.specs.States.{state_at}
use Rattle.flash.specs.Step.{Step, apply, and8}
use Rattle.flash.proofs.Order.{le-or-gt}
use Rattle.flash.proofs.And.{and8-pair}
use Rattle.flash.proofs.Bytes.{word_byte, nth4, nth_of}
use Rattle.flash.proofs.Every.{Every}
use Rattle.flash.proofs.Frame.{Outside, apply-other}
use Rattle.marking.proofs.States.{and-three, state-byte}
use Rattle.marking.proofs.Spans.{Leaves, Sets}
use Rattle.covering.specs.Covering.{pair_of, mask_of, state_word, state_words}

-- ---- the pairs of a mask

module _ (d j n : ℕ) where
  pair-out : (e : ℕ) → (e < j) ⊎ (j + n ≤ e) → pair_of d j n e ≡ 0
  unfolding pair_of
  pair-out e (inl h) = rw (lt-ltb e j h)
  pair-out e (inr h) = rw (le-ltb e j (omega arith), le-leb (j + n) e h)

  pair_in : (e : ℕ) → j ≤ e → e < j + n → pair_of d j n e ≡ d
  unfolding pair_of
  pair_in e g h = rw (le-ltb e j g, lt-leb (j + n) e h)

  pair-le : (e : ℕ) → pair_of d j n e ≤ d
  unfolding pair_of
  pair-le e = go (ltb e j) (leb (j + n) e)
    where
      go : (s t : Bool) → cond s 0 (cond t 0 d) ≤ d
      go true t = omega arith
      go false true = omega arith
      go false false = omega arith

four_pairs : (p q r s : ℕ) → p ≤ 3 → q ≤ 3 → r ≤ 3 → s ≤ 3 → (i : ℕ) → i < 4 → (255 - (p + q * 4 + r * 16 + s * 64)) / 2 ^ (2 * i) % 4 ≡ 3 - nth4 p q r s i
four_pairs p q r s a b c d zero h = omega arith
four_pairs p q r s a b c d (suc zero) h = omega arith
four_pairs p q r s a b c d (suc (suc zero)) h = omega arith
four_pairs p q r s a b c d (suc (suc (suc zero))) h = omega arith
four_pairs p q r s a b c d (suc (suc (suc (suc i)))) h = absurd (omega arith)

mask-pair : (d j n b : ℕ) → d ≤ 3 → (i : ℕ) → i < 4 → mask_of d j n b / 2 ^ (2 * i) % 4 ≡ 3 - pair_of d j n (b * 4 + i)
unfolding mask_of
mask-pair d j n b h i g =
    let small : (e : ℕ) → pair_of d j n e ≤ 3 = λ e. omega (arith, pair-le d j n e) in
    four_pairs _ _ _ _ (small (b * 4)) (small (b * 4 + 1)) (small (b * 4 + 2)) (small (b * 4 + 3)) i g
    ∙ ap (λ (x : ℕ). 3 - x) (nth_of (pair_of d j n) (b * 4) i g)

-- ---- one word

module _ (base d j n w e : ℕ) (small : d ≤ 3) (page : w < 8) where
  -- the word that holds entry e
  covered : e / 16 ≡ w → Sets base e (3 - pair_of d j n e) (state_word base d j n w)
  unfolding state_at apply
  covered v l long =
      let i = e / 4 - w * 4 in
      let x : base + 32 + w * 4 + i ≡ base + (32 + e / 4) = omega arith in
      let y : w * 4 + i ≡ e / 4 = omega arith in
      let z : e / 4 * 4 + e % 4 ≡ e = omega arith in
      let b = word_byte l (base + 32 + w * 4) (mask_of d j n (w * 4)) (mask_of d j n (w * 4 + 1)) (mask_of d j n (w * 4 + 2)) (mask_of d j n (w * 4 + 3)) i (omega arith) (omega arith) in
      let byte = rw (x, nth_of (mask_of d j n) (w * 4) i (omega arith), y) at b in
      let mask : mask_of d j n (e / 4) / 2 ^ (2 * (e % 4)) % 4 ≡ 3 - pair_of d j n e = rw z at (mask-pair d j n (e / 4) small (e % 4) (omega arith)) in
      rw (get_or-drop base (apply (state_word base d j n w) l), get_or-drop base l) (
      ap (λ (r : ℕ). r / 2 ^ (2 * (e % 4)) % 4) byte
      ∙ and8-pair (get_or l (base + (32 + e / 4)) 0) (mask_of d j n (e / 4)) (2 * (e % 4))
      ∙ ap (and8 (get_or l (base + (32 + e / 4)) 0 / 2 ^ (2 * (e % 4)) % 4)) mask
      )

  -- it sets the state of an entry of the span
  word_sets : j ≤ e → e < j + n → e / 16 ≡ w → Sets base e (3 - d) (state_word base d j n w)
  word_sets p q v l long = covered v l long ∙ rw (pair_in d j n e p q)

  -- a word that does not hold it leaves it
  word-other : (e / 16 ≡ w → ⊥) → Leaves base e (state_word base d j n w)
  word-other v l long =
      let o : Outside (base + 32 + w * 4) (base + 32 + w * 4 + 4) (base + (32 + e / 4)) =
      ⊎_elim (λ h. inl (omega arith)) (λ h. inr (omega arith)) (le-or-gt (e / 16 + 1) w) in
      state-byte base e l _ (apply-other (base + 32 + w * 4) (base + 32 + w * 4 + 4) (state_word base d j n w) l (base + (32 + e / 4)) (omega arith, omega arith) o)

  -- and each word leaves an entry that is not of the span
  word_keeps : (e < j) ⊎ (j + n ≤ e) → Leaves base e (state_word base d j n w)
  word_keeps o l long = go (eqb (e / 16) w) refl
    where
      state-lt : state_at (drop base l) e < 4
      state-lt = unfold state_at in omega arith

      go : (b : Bool) → eqb (e / 16) w ≡ b → state_at (drop base (apply (state_word base d j n w) l)) e ≡ state_at (drop base l) e
      go true v = covered (eqb-true (e / 16) w v) l long ∙ rw (pair-out d j n e o) (and-three _ state-lt)
      go false v = word-other (eqb-false (e / 16) w v) l long

-- ---- the words of a span

module _ (base d j n : ℕ) where
  words_append : (w k m : ℕ) → state_words base d j n w (k + m) ≡ state_words base d j n w k ++ state_words base d j n (w + k) m
  unfolding state_words
  words_append w zero m =
      let e : zero + m ≡ m = omega arith in
      rw (e, add-zero w)
  words_append w (suc k) m =
      let e : suc k + m ≡ suc (k + m) = omega arith in
      let f : w + suc k ≡ w + 1 + k = omega arith in
      rw (e, f, words_append (w + 1) k m)

  pub length-words : (w k : ℕ) → length (state_words base d j n w k) ≡ k
  unfolding state_words
  length-words w zero = refl
  length-words w (suc k) = ap suc (length-words (w + 1) k)

  pub words-every : (P : Step → Type 0) (w k : ℕ) → ((v : ℕ) → w ≤ v → v < w + k → P (state_word base d j n v)) → Every P (state_words base d j n w k)
  unfolding state_words Every
  words-every P w zero f = tt
  words-every P w (suc k) f = (f w (omega arith) (omega arith), words-every P (w + 1) k (λ v a b. f v (omega arith) (omega arith)))

  module _ (small : d ≤ 3) (w k : ℕ) (page : w + k ≤ 8) (e : ℕ) where
    -- an entry that is not of the span
    pub words_leave : (e < j) ⊎ (j + n ≤ e) → Every (Leaves base e) (state_words base d j n w k)
    words_leave o = words-every (Leaves base e) w k (λ v a b. word_keeps base d j n v e small (omega arith) o)

    module _ (from : w ≤ e / 16) (to : e / 16 < w + k) where
      abbrev before : List Step
      before = state_words base d j n w (e / 16 - w)

      abbrev after : List Step
      after = state_words base d j n (e / 16 + 1) (w + k - (e / 16 + 1))

      -- the words before the one that holds e, it, and those behind it
      pub words-split : state_words base d j n w k ≡ before ++ (state_word base d j n (e / 16) ∷ after)
      unfolding state_words
      words-split =
          let p : k ≡ e / 16 - w + suc (w + k - (e / 16 + 1)) = omega arith in
          let q : w + (e / 16 - w) ≡ e / 16 = omega arith in
          ap (state_words base d j n w) p ∙ words_append w (e / 16 - w) (suc (w + k - (e / 16 + 1))) ∙ ap (λ (x : ℕ). before ++ state_words base d j n x (suc (w + k - (e / 16 + 1)))) q

      pub reverse_split : reverse (state_words base d j n w k) ≡ reverse after ++ (state_word base d j n (e / 16) ∷ reverse before)
      reverse_split =
          ap (λ (x : List Step). reverse x) words-split ∙ reverse-append before (state_word base d j n (e / 16) ∷ after)
          ∙ ap (λ (x : List Step). x ++ reverse before) (reverse-cons (state_word base d j n (e / 16)) after)
          ∙ append_assoc (reverse after) (state_word base d j n (e / 16) ∷ []) (reverse before)

      pub before-leaves : Every (Leaves base e) before
      before-leaves = words-every (Leaves base e) w (e / 16 - w) (λ v a b. word-other base d j n v e small (omega arith) (λ i. omega arith))

      pub after-leaves : Every (Leaves base e) after
      after-leaves = words-every (Leaves base e) (e / 16 + 1) (w + k - (e / 16 + 1)) (λ v a b. word-other base d j n v e small (omega arith) (λ i. omega arith))

      pub the_word : j ≤ e → e < j + n → Sets base e (3 - d) (state_word base d j n (e / 16))
      the_word p q = word_sets base d j n (e / 16) e small (omega arith) p q refl
