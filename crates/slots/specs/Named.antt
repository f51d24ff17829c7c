-- Bridge: what the table leads to where judged items are filled in, and where one is refused. Assumes nothing.
use Rattle.std.specs.Prelude.{◌≡◌, Bool, true, ◌&&◌, List, ◌∷◌, ◌++◌, ℕ, ◌≤◌, eqb, get_or, Some, None}
use Rattle.entry.specs.States.{one}
use Rattle.lists.specs.Lists.{some_of, sum_of}
use Rattle.lists.specs.Each.{Each}
use Rattle.slots.specs.Names.{judged, name_of}
use Rattle.slots.specs.Slots.{raw_at, stop_of, told, EachSlot, Leads}

-- a judged item of the name k
abbrev pub called : ℕ → List ℕ → Bool
called k r = judged r && eqb (name_of r) k

module _ (t l : List ℕ) where
  -- the bytes of the item to which the table leads from the name k
  abbrev pub told_raw : ℕ → List ℕ
  told_raw k = raw_at l (told t l k)

  -- if the item at place p is judged, the table leads from its name to it
  abbrev pub Led : ℕ → Type 0
  Led p = judged (raw_at l p) ≡ true → (1 ≤ p) × (told t l (name_of (raw_at l p)) ≡ p)

  -- each item in the table stands where the search for its name ends: so none stands there twice
  abbrev pub Stands : Type 0
  Stands = (i : ℕ) → 1 ≤ get_or t i 0 → stop_of t l (name_of (raw_at l (get_or t i 0))) ≡ Some i

  -- the table has the judged items at the places ps and no others, and no two of them have one name
  pub record Named (ps : List ℕ) : Type 0 where
    pub led : Each Led ps
    pub once : (k : ℕ) → sum_of (λ (p : ℕ). one (called k (raw_at l p))) ps ≤ 1
    pub only : EachSlot (λ (p : ℕ). some_of (eqb p) ps ≡ true) t
    pub judges : EachSlot (λ (p : ℕ). judged (raw_at l p) ≡ true) t
    pub stands : Stands

-- the judged items at the places ps are put into the table t, which so becomes u
pub record Filled (t u l ps : List ℕ) : Type 0 where
  pub leads : Leads u l
  pub named : (xs : List ℕ) → Named t l xs → Named u l (xs ++ ps)

-- of the items at the places ps those before one are in the table, and that one, which is judged, is refused: the search for its name ends at an item, or at
-- no slot
pub record Stopped (t l ps : List ℕ) : Type 0 where
  pub before : List ℕ
  pub place : ℕ
  pub after : List ℕ
  pub all : before ++ (place ∷ after) ≡ ps
  pub named : Named t l before
  pub judges : judged (raw_at l place) ≡ true
  pub none : told t l (name_of (raw_at l place)) ≡ 0 → stop_of t l (name_of (raw_at l place)) ≡ None
