-- Bridge: document 01's rule for the state steps of a span (n entries from entry j on of the page at the address base), which document 02, No. 4 replaced. It
-- stands here to be held against the rule that is in force, marking/specs/Marking. Assumes nothing.
use Rattle.std.specs.Prelude.{cond, List, [], ◌∷◌, ◌++◌, reverse, ℕ, zero, suc, ◌+◌, ◌-◌, ◌*◌, ◌/◌, leb, ltb}
use Rattle.entry.specs.Fields.{span_of}
use Rattle.entry.specs.States.{empty, written, erased}
use Rattle.flash.specs.Step.{Step, program}
use Rattle.flash.specs.Words.{words}
use Rattle.item.specs.Copy.{full_mark}

-- what is taken off the two bits of entry e: d where it is one of the span's, else nothing
unfoldable pub pair_of : ℕ → ℕ → ℕ → ℕ → ℕ
pair_of d j n e = cond (ltb e j) 0 (cond (leb (j + n) e) 0 d)

-- byte b of the entry states to program: ones, less what is taken off its four pairs
unfoldable pub mask_of : ℕ → ℕ → ℕ → ℕ → ℕ
mask_of d j n b = 255 - (pair_of d j n (b * 4) + pair_of d j n (b * 4 + 1) * 4 + pair_of d j n (b * 4 + 2) * 16 + pair_of d j n (b * 4 + 3) * 64)

-- word w of the entry states: sixteen entries
abbrev pub state_word : ℕ → ℕ → ℕ → ℕ → ℕ → Step
state_word base d j n w = program (base + 32 + w * 4) (mask_of d j n (w * 4)) (mask_of d j n (w * 4 + 1)) (mask_of d j n (w * 4 + 2)) (mask_of d j n (w * 4 + 3))

-- k words from word w on, ascending
unfoldable pub state_words : ℕ → ℕ → ℕ → ℕ → ℕ → ℕ → List Step
state_words base d j n w zero = []
state_words base d j n w (suc k) = state_word base d j n w ∷ state_words base d j n (w + 1) k

-- how many words cover the span
abbrev pub covering : ℕ → ℕ → ℕ
covering j n = (j + (n - 1)) / 16 + 1 - j / 16

-- "each entry-state word that covers its entries, ascending, set Written"
unfoldable pub marking_words : ℕ → ℕ → ℕ → List Step
marking_words base j n = state_words base (empty - written) j n (j / 16) (covering j n)

-- "the state words covering its span, descending, set Erased"
unfoldable pub erasing_words : ℕ → ℕ → ℕ → List Step
erasing_words base j n = reverse (state_words base (empty - erased) j n (j / 16) (covering j n))

-- "Copy an item": to entry j of the page at base, r its bytes
unfoldable pub copying_words : ℕ → ℕ → List ℕ → List Step
copying_words base j r = words (base + 64 + j * 32) r 0 (span_of r * 8) ++ (marking_words base j (span_of r) ++ full_mark base (j + span_of r))
