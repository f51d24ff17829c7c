-- Bridge: where a run of the places ends. Assumes nothing.
use Rattle.std.specs.Prelude.{◌≡◌, Bool, true, false, List, ◌∷◌, ℕ, ◌≤◌, ◌<◌, length, take, drop, get_or}
use Rattle.lists.specs.Runs.{runs}
use Rattle.found.specs.Found.{Found}
use Rattle.found.specs.Places.{item_at, items_at}
use Rattle.lists.specs.Each.{Each}

-- from index a to e stand places of one number, and behind them one of another
pub record RunEnds (f : Found → ℕ) (l places : List ℕ) (a e : ℕ) : Type 0 where
  pub more : a < e
  pub upto : e ≤ length places
  pub same : Each (λ (x : Found). f x ≡ f (item_at l (get_or places a 0))) (items_at l (drop a (take e places)))
  pub split : runs f (items_at l (drop a places)) ≡ items_at l (drop a (take e places)) ∷ runs f (items_at l (drop e places))

-- e is the index of the first place behind a at which the test answers false, or the end: T says what it may answer
pub record FirstFails (T : ℕ → Bool → Type 0) (places : List ℕ) (a e : ℕ) : Type 0 where
  pub more : a < e
  pub upto : e ≤ length places
  pub passed : (k : ℕ) → k < e → a < k → T (get_or places k 0) true
  pub failed : e < length places → T (get_or places e 0) false
