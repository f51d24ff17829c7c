-- Rule. Document 02, No. 5: "a step that is only partly done: a programmed word in which any of the bits to be cleared are cleared and the others not. Erasing
-- a sector stays whole." A torn step is itself a step, so all that is known of steps is known of it. And what a power failure leaves of a list of steps, said
-- once for every list. Assumes nothing.
use Rattle.std.specs.Prelude.{◌≡◌, ◌⊎◌, List, [], ◌∷◌, ℕ, ◌+◌, ◌≤◌, ◌<◌, ◌/◌, ◌%◌, ◌^◌, length, get_or}
use Rattle.flash.specs.Step.{Step, program, erase, and8}

-- the byte c clears no bits but such as b clears: of b's ones it leaves as many as 0xFF does
abbrev pub Spares : ℕ → ℕ → Type 0
Spares c b = (c < 256) × (and8 b c ≡ and8 b 0xFF)

-- c is the step s torn: a program of the same word that clears some of the bits that s clears, none or all of them too, and no others. An erasure has none
unfoldable pub Torn : Step → Step → Type 0
Torn (program a c0 c1 c2 c3) (program at b0 b1 b2 b3) = (a ≡ at) × Spares c0 b0 × Spares c1 b1 × Spares c2 b2 × Spares c3 b3
Torn (program a c0 c1 c2 c3) (erase s) = ⊥
Torn (erase t) s = ⊥

-- the steps cs are a beginning of the list ss: some of its steps whole, then at most one torn
unfoldable pub Begins : List Step → List Step → Type 0
Begins [] ss = Unit {0}
Begins (c ∷ cs) [] = ⊥
Begins (c ∷ cs) (s ∷ ss) = ((c ≡ s) × Begins cs ss) ⊎ ((cs ≡ []) × Torn c s)

-- ---- the request's own words, which `Torn` is shown to say (proofs/Torn.antt)

-- bit j of a byte
abbrev pub bit : ℕ → ℕ → ℕ
bit x j = x / 2 ^ j % 2

-- m is the image l, but that each bit of the word at `at` is the old one, of l, or the new one, of n
pub record Between (at : ℕ) (l n m : List ℕ) : Type 0 where
  pub size : length m ≡ length l
  pub others : (i : ℕ) → (i < at) ⊎ (at + 4 ≤ i) → get_or m i 0 ≡ get_or l i 0
  pub bits : (i j : ℕ) → i < 4 → j < 8 → (bit (get_or m (at + i) 0) j ≡ bit (get_or l (at + i) 0) j) ⊎ (bit (get_or m (at + i) 0) j ≡ bit (get_or n (at + i) 0) j)
