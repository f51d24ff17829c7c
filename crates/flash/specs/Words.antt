-- Rule. Document 01, The flash model and the allowance, Initialise and Copy: "program words .. ascending". Assumes nothing.
use Rattle.std.specs.Prelude.{List, [], ◌∷◌, ℕ, zero, suc, ◌+◌, ◌*◌, get_or}
use Rattle.flash.specs.Step.{Step, program}

-- word k of the bytes e, at the k-th word from `at` on
abbrev pub word : ℕ → List ℕ → ℕ → Step
word at e k = program (at + k * 4) (get_or e (k * 4) 0) (get_or e (k * 4 + 1) 0) (get_or e (k * 4 + 2) 0) (get_or e (k * 4 + 3) 0)

-- n words from word k on, ascending
unfoldable pub words : ℕ → List ℕ → ℕ → ℕ → List Step
words at e k zero = []
words at e k (suc n) = word at e k ∷ words at e (k + 1) n
