-- Search in a page list, one page at a time: the first that passes, and the best from the end on. Assumes nothing.
use Rattle.std.specs.Prelude.{None, Some}
use mathlib.Core.Path.{◌≡◌, refl}
use mathlib.Core.Logic.{inl, inr}
use mathlib.Core.Bool.{Bool, true, false, cond}
use mathlib.Core.Option.{Option, none, some}
use mathlib.Core.List.{List, [], ◌∷◌}
use Prim.Native.Nat.{ℕ}
use native.Mathlib.Omega.{arith}
use lib.Dec.{eqb}
use Rattle.lists.specs.Lists.{first_of, better, best}
use Rattle.lists.proofs.Member.{◌∈◌, none≢some}
use Rattle.page.specs.declared.state.PageState.{PageState}
use Rattle.page.specs.declared.state.PageState.TheVariants.{Blank, Corrupt, Active, Full, Freeing}
use Rattle.table.specs.declared.Page.{Page}
use Rattle.table.specs.Table.{active, freeing, active_page, freeing_page}
use Rattle.table.specs.Sought.{sought_of, better_of, code_of, in_state}

pub first_member : (p : Page → Bool) (xs : List Page) (y : Page) → first_of p xs ≡ some y → y ∈ xs
unfolding first_of
first_member p [] y e = absurd (none≢some refl e)
first_member p (x ∷ xs) y e = go (p x) e (first_member p xs y)
  where
    go : (b : Bool) → cond b (some x) (first_of p xs) ≡ some y → (first_of p xs ≡ some y → y ∈ xs) → y ∈ (x ∷ xs)
    go true q ih = inl (cc)
    go false q ih = inr (ih q)

-- two tests that agree on each page find the same
pub first_same : (p q : Page → Bool) → ((x : Page) → p x ≡ q x) → (xs : List Page) → first_of p xs ≡ first_of q xs
unfolding first_of
first_same p q h [] = refl
first_same p q h (x ∷ xs) = rw (h x, first_same p q h xs)

-- the codes tell an Active page, and a Freeing one
codes : (s : PageState) → (eqb (code_of s) (code_of Active) ≡ active s) × (eqb (code_of s) (code_of Freeing) ≡ freeing s)
codes Blank = (refl, refl)
codes Corrupt = (refl, refl)
codes Active = (refl, refl)
codes Full = (refl, refl)
codes Freeing = (refl, refl)

pub active_is : (p : Page) → in_state Active p ≡ active_page p
active_is p = (codes p.seen.state).0

pub freeing_is : (p : Page) → in_state Freeing p ≡ freeing_page p
freeing_is p = (codes p.seen.state).1

-- what an answer says of what was sought
pub sought_found : (o : Option Page) (p : Page) → Some p ≡ sought_of o → o ≡ some p
sought_found none p e = absurd (let z : ◌≡◌ {A = ℕ} 0 1 = cc in omega arith)
sought_found (some q) p e = cc

pub sought_nothing : (o : Option Page) → None ≡ sought_of o → o ≡ none
sought_nothing none e = refl
sought_nothing (some q) e = absurd (let z : ◌≡◌ {A = ℕ} 0 1 = cc in omega arith)

module _ (over : Page → Page → Bool) where
  either : (b : Bool) (x y : Page) → cond b (Some y) (Some x) ≡ sought_of (some (cond b y x))
  either true x y = refl
  either false x y = refl

  better_is : (x : Page) (o : Option Page) → better_of over x (sought_of o) ≡ sought_of (some (better over x o))
  unfolding better
  better_is x none = refl
  better_is x (some y) = either (over y x) x y

  pub best_more : (x : Page) (xs : List Page) → better_of over x (sought_of (best over xs)) ≡ sought_of (best over (x ∷ xs))
  unfolding best
  best_more x xs = better_is x (best over xs)
