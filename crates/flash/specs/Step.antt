-- Rule. Document 01, The flash model and the allowance: a step, and what a list of steps makes of an image. Assumes nothing.
use Rattle.std.specs.Prelude.{List, [], ◌∷◌, ◌++◌, ℕ, ◌+◌, ◌*◌, length, get_or, take, drop, set, replicate}
use Rattle.std.specs.Int.Bits.{bit_and}
use Rattle.word.specs.Number.{part}

-- "Programming a word" (the byte address of the word, its four bytes, the lowest first), "Erasing .. a sector" (its number): "Each is one step"
pub data Step : Type 0 where
  program : ℕ → ℕ → ℕ → ℕ → ℕ → Step
  erase : ℕ → Step

-- the AND of two bytes, and of the byte at i with b
unfoldable pub and8 : ℕ → ℕ → ℕ
and8 x y = bit_and x y

unfoldable pub put : List ℕ → ℕ → ℕ → List ℕ
put l i b = set l i (and8 (get_or l i 0) b)

-- "Programming a word replaces it by its AND with the new word."
unfoldable pub and_word : List ℕ → ℕ → ℕ → ℕ → ℕ → ℕ → List ℕ
and_word l at b0 b1 b2 b3 = put (put (put (put l at b0) (at + 1) b1) (at + 2) b2) (at + 3) b3

-- n bytes of 0xFF
unfoldable pub blank : ℕ → List ℕ
blank n = replicate n 0xFF

-- "A sector is 4,096 bytes"
unfoldable pub sector : ℕ → List ℕ → List ℕ
sector u l = part l (u * 4096) 4096

-- "Erasing sets a sector to 0xFF." As many bytes as the image has there, so that its length is kept whatever it is
unfoldable pub erased : List ℕ → ℕ → List ℕ
erased l s = take (s * 4096) l ++ (blank (length (sector s l)) ++ drop (s * 4096 + 4096) l)

-- what a step makes of an image, and a list of steps, one after the other
unfoldable pub apply : Step → List ℕ → List ℕ
apply (program at b0 b1 b2 b3) l = and_word l at b0 b1 b2 b3
apply (erase s) l = erased l s

unfoldable pub run : List Step → List ℕ → List ℕ
run [] l = l
run (s ∷ ss) l = run ss (apply s l)
