-- Rule. Document 01, everywhere: of lists, search, choice, sums and order. Nothing here knows of pages. What the library has (map, flatMap, get_last?,
-- drop_last) is not defined again. Assumes nothing.
use Rattle.std.specs.Prelude.{Bool, true, false, cond, ℕ, zero, suc, ◌+◌, max, length, leb, ltb}
use Rattle.std.proofs.Math.Option.{Option, none, some}
use mathlib.Core.List.{List, [], ◌∷◌, get_last?, drop_last}

module _ {A : Type 0} where
  -- those that pass, in order
  unfoldable pub keep : (A → Bool) → List A → List A
  keep p [] = []
  keep p (x ∷ xs) = cond (p x) (x ∷ keep p xs) (keep p xs)

  -- all pass; some one passes
  unfoldable pub every : (A → Bool) → List A → Bool
  every p [] = true
  every p (x ∷ xs) = cond (p x) (every p xs) false

  unfoldable pub some_of : (A → Bool) → List A → Bool
  some_of p [] = false
  some_of p (x ∷ xs) = cond (p x) true (some_of p xs)

  -- the first that passes
  unfoldable pub first_of : (A → Bool) → List A → Option A
  first_of p [] = none
  first_of p (x ∷ xs) = cond (p x) (some x) (first_of p xs)

  -- the sum of f; the greatest f, 0 of none
  unfoldable pub sum_of : (A → ℕ) → List A → ℕ
  sum_of f [] = 0
  sum_of f (x ∷ xs) = f x + sum_of f xs

  unfoldable pub greatest : (A → ℕ) → List A → ℕ
  greatest f [] = 0
  greatest f (x ∷ xs) = max (f x) (greatest f xs)

  -- the best: `over y x` says that y, which stands later, goes before x
  unfoldable pub better : (A → A → Bool) → A → Option A → A
  better over x none = x
  better over x (some y) = cond (over y x) y x

  unfoldable pub best : (A → A → Bool) → List A → Option A
  best over [] = none
  best over (x ∷ xs) = some (better over x (best over xs))

  -- y in the place of the first that passes
  unfoldable pub replace : (A → Bool) → A → List A → List A
  replace p y [] = []
  replace p y (x ∷ xs) = cond (p x) (y ∷ xs) (x ∷ replace p y xs)

  -- the first that passes is taken out, and the last takes its place
  unfoldable pub out_with : (A → Bool) → List A → Option A → List A
  out_with p xs none = []
  out_with p xs (some z) = cond (p z) (drop_last xs) (replace p z (drop_last xs))

  unfoldable pub take_out : (A → Bool) → List A → List A
  take_out p xs = out_with p xs (get_last? xs)

  -- by insertion, each before the first that is not `before` it: equals stay in order
  unfoldable pub insert_by : (A → A → Bool) → A → List A → List A
  insert_by before x [] = x ∷ []
  insert_by before x (y ∷ ys) = cond (before y x) (y ∷ insert_by before x ys) (x ∷ (y ∷ ys))

  unfoldable pub sort_by : (A → A → Bool) → List A → List A
  sort_by before [] = []
  sort_by before (x ∷ xs) = insert_by before x (sort_by before xs)

-- f 0 + .. + f (n - 1)
unfoldable pub sum_to : (ℕ → ℕ) → ℕ → ℕ
sum_to f zero = 0
sum_to f (suc n) = sum_to f n + f n

-- each number below n passes
unfoldable pub all_to : (ℕ → Bool) → ℕ → Bool
all_to p zero = true
all_to p (suc n) = cond (p n) (all_to p n) false

-- the least number of the list from v on
abbrev pub lesser : ℕ → ℕ → Option ℕ → Option ℕ
lesser v x none = cond (leb v x) (some x) none
lesser v x (some y) = cond (leb v x) (some (cond (ltb y x) y x)) (some y)

unfoldable pub least_from : ℕ → List ℕ → Option ℕ
least_from v [] = none
least_from v (x ∷ xs) = lesser v x (least_from v xs)

-- the numbers of a list ascending, each once: "repeated search for the next key"; n bounds the searches
unfoldable pub ascend_to : (ℕ → List ℕ) → Option ℕ → List ℕ
ascend_to f none = []
ascend_to f (some w) = w ∷ f w

unfoldable pub ascend_from : ℕ → ℕ → List ℕ → List ℕ
ascend_from zero v cs = []
ascend_from (suc n) v cs = ascend_to (λ (w : ℕ). ascend_from n (suc w) cs) (least_from v cs)

unfoldable pub ascending : List ℕ → List ℕ
ascending cs = ascend_from (length cs) 0 cs
