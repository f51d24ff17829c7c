-- Bridge: what a call with an allowance did. Assumes nothing.
use Rattle.std.specs.Prelude.{◌≡◌, cond, List, ℕ, ◌-◌, leb, length, take, Result, Ok, Err}
use Rattle.flash.specs.declared.Stopped.{Stopped}
use Rattle.flash.specs.Step.{Step, run}

-- what became of a list of steps: how many are still allowed, or that the allowance ended before the steps did
abbrev pub Ran : Type 0
Ran = Result ℕ Stopped

abbrev pub stopped : Ran
stopped = Err (record {})

-- n allowed and k steps to make. "If the list fits the allowance exactly, the call has ended."
unfoldable pub ran : ℕ → ℕ → Ran
ran n k = cond (leb k n) (Ok (n - k)) stopped

-- "A call has an allowance; it makes the first so many steps of the list that the rules give for the image it began with, and reports how many it
-- made": of the steps ss the first n were made on the image l, which left m, and r says whether these were all
pub record Did (ss : List Step) (n : ℕ) (l m : List ℕ) (r : Ran) : Type 0 where
  pub image : m ≡ run (take n ss) l
  pub answer : r ≡ ran n (length ss)

-- whoever does the steps ss on the image l with n allowed has then done S on L with N allowed: what holds between the calls that make up S, and each
-- time round a loop
pub record Goes (S : List Step) (N : ℕ) (L : List ℕ) (ss : List Step) (n : ℕ) (l : List ℕ) : Type 0 where
  pub on : (m : List ℕ) (r : Ran) → Did ss n l m r → Did S N L m r
