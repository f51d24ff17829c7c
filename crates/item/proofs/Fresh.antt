-- A fresh sector: a blank one is free, and initialising makes no page of it until its last step, and then an Active one with every entry Empty. Assumes nothing.
use mathlib.Core.Path.{◌∙◌, ◌≡◌, ap, refl, sym}
use mathlib.Core.Logic.{inl, inr}
use mathlib.Core.Bool.{true}
use mathlib.Core.List.{List, [], ◌++◌}
use Prim.Native.Nat.{◌%◌, ◌*◌, ◌+◌, ◌/◌, ◌<◌, ◌^◌, ◌≤◌, suc, zero, ℕ}
use native.Mathlib.Omega.{arith}
use lib.ListN.{get_or, length, length-drop, length-take, take}
use lib.Seq.{ext_get_or}
use Rattle.word.specs.Number.{part}
use Rattle.word.proofs.Bytes.{part-byte}
use Rattle.entry.specs.States.{empty, state_at}
use Rattle.page.specs.State.{is_free, state_of}
use Rattle.page.proofs.Read.{Word4, state_free}
use Rattle.flash.specs.Step.{Step, blank, run}
use Rattle.flash.specs.Words.{words}
use Rattle.flash.proofs.Erased.{blank-byte}
use Rattle.flash.proofs.Frame.{AllIn, In, length_run, run-other}
use Rattle.flash.proofs.Words.{words_in, words-read}
use Rattle.flash.proofs.Laws.{run-append}
use Rattle.flash.proofs.Every.{every_take}
use Rattle.item.specs.Initialise.{header}
use Rattle.item.proofs.Header.{header-length, header_small}
use Rattle.item.proofs.Packed.{Ones, Packed}
use Rattle.item.proofs.Shape.{Shape}

-- a blank sector is free
pub blank_free : is_free (state_of (blank 4096)) ≡ true
blank_free = state_free (blank 4096) (blank-byte 4096 0 (omega arith))

-- the words of the header, the state word last
abbrev pub init_steps : ℕ → List Step
init_steps q = words 0 (header q) 1 7 ++ words 0 (header q) 0 1

module _ (q : ℕ) (T : List ℕ) (len : length T ≡ 4096) (on : Ones T 0) where
  abbrev T1 : List ℕ
  T1 = run (words 0 (header q) 1 7) T

  in_1 : AllIn 4 32 (words 0 (header q) 1 7)
  in_1 = words_in 0 (header q) 4 32 1 7 (omega arith) (omega arith)

  in_0 : AllIn 0 4 (words 0 (header q) 0 1)
  in_0 = words_in 0 (header q) 0 4 0 1 (omega arith) (omega arith)

  -- a cut before word 0: the state word is still all ones
  pub init_junk : (k : ℕ) → is_free (state_of (run (take k (words 0 (header q) 1 7)) T)) ≡ true
  init_junk k = state_free _ (run-other 4 32 (take k (words 0 (header q) 1 7)) T 0 (every_take (In 4 32) k _ in_1) (inl (omega arith)) ∙ on 0 (omega arith) (omega arith))

  abbrev T2 : List ℕ
  T2 = run (init_steps q) T

  T2_is : T2 ≡ run (words 0 (header q) 0 1) T1
  T2_is = run-append (words 0 (header q) 1 7) (words 0 (header q) 0 1) T

  len-T1 : length T1 ≡ 4096
  len-T1 = length_run _ T ∙ len

  -- the state word, and what stands behind the header
  pub low : (j : ℕ) → j < 4 → get_or T2 j 0 ≡ get_or (header q) j 0
  low j h =
      let z : 0 + j ≡ j = omega arith in
      let w = words-read 0 (header q) T1 0 1 (let a = len-T1 in omega arith) (header_small q) (λ i a b. run-other 4 32 (words 0 (header q) 1 7) T (0 + i) in_1 (inl (omega arith)) ∙ on (0 + i) (omega arith) (omega arith)) j (omega arith) (omega arith) in
      ap (λ (r : List ℕ). get_or r j 0) T2_is ∙ (rw z at w)

  mid : (j : ℕ) → 4 ≤ j → j < 32 → get_or T2 j 0 ≡ get_or (header q) j 0
  mid j g h =
      let z : 0 + j ≡ j = omega arith in
      let w = words-read 0 (header q) T 1 7 (omega arith) (header_small q) (λ i a b. on (0 + i) (omega arith) (omega arith)) j (omega arith) (omega arith) in
      ap (λ (r : List ℕ). get_or r j 0) T2_is ∙ run-other 0 4 (words 0 (header q) 0 1) T1 j in_0 (inr g) ∙ (rw z at w)

  pub high : Ones T2 32
  high j g h =
      ap (λ (r : List ℕ). get_or r j 0) T2_is ∙ run-other 0 4 (words 0 (header q) 0 1) T1 j in_0 (inr (omega arith))
      ∙ run-other 4 32 (words 0 (header q) 1 7) T j in_1 (inr g) ∙ on j (omega arith) h

  -- it is Active
  pub init_word : Word4 T2 0xFE
  unfolding header
  init_word = (low 0 (omega arith), low 1 (omega arith), low 2 (omega arith), low 3 (omega arith))

  len-T2 : length T2 ≡ 4096
  len-T2 = length_run _ T ∙ len

  init_tail : part T2 4 28 ≡ part (header q) 4 28
  init_tail =
      ext_get_or 0 _ _ (simp (length-take, length-drop, len-T2, header-length)) (λ i g.
      let b : i < 28 = omega (arith, simp (length-take, length-drop) at g) in
      part-byte T2 4 28 i b ∙ mid (4 + i) (omega arith) (omega arith) ∙ sym (part-byte (header q) 4 28 i b))

  init_state : (e : ℕ) → e < 126 → state_at T2 e ≡ empty
  unfolding state_at
  init_state e h = rw (high (32 + e / 4) (omega arith) (omega arith)) (pair (e % 4) (omega arith))
    where
      pair : (i : ℕ) → i < 4 → 0xFF / 2 ^ (2 * i) % 4 ≡ 3
      pair zero g = refl
      pair (suc zero) g = refl
      pair (suc (suc zero)) g = refl
      pair (suc (suc (suc zero))) g = refl
      pair (suc (suc (suc (suc i)))) g = absurd (omega arith)

  -- and nothing is laid
  pub init_shape : Shape q T2 [] 0
  init_shape = record { len = len-T2; tail = init_tail; laid = refl; empty_from = λ e a b. init_state e b; fits = omega arith; fine = tt }

  pub init_packed : Packed T2 0
  init_packed = record { len = len-T2; written_to = λ e h. absurd (omega arith); empty_from = λ e a b. init_state e b; ones_from = λ i a b. high i (omega arith) b }
