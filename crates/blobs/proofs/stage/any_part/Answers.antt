-- `blobs::any_part` meets its contract: some place passes the test. Assumes nothing.
use Rattle.std.proofs.lemmas.Iterator.{YieldsList-from_slice}
use Rattle.std.proofs.lemmas.Iterator.Adapters.{serves_from_places}
use Rattle.std.proofs.lemmas.Iterator.Search.{any_from_yields_List}
use Rattle.std.specs.List.{list_any}
use Rattle.std.proofs.Common.{rules, tests}
use mathlib.Core.Path.{◌≡◌, refl, ◌∙◌}
use mathlib.Core.Bool.{Bool, true, false, cond, ◌||◌}
use mathlib.Core.List.{List, [], ◌∷◌}
use Prim.Native.Nat.{ℕ}
use Rattle.lists.specs.Lists.{some_of}
use Rattle.found.specs.Places.{item_at, items_at, Placed}
use Rattle.found.specs.Found.{Found, is_part}
use Rattle.lists.proofs.Each.{each_at}
use Rattle.blobs.proofs.stage.any_part.Goals as goal

or_is : (a b : Bool) → (a || b) ≡ cond a true b
or_is true b = refl
or_is false b = refl

some-any : (l ps : List ℕ) → list_any (λ (p : ℕ). is_part (item_at l p).raw) ps ≡ some_of (λ (x : Found). is_part x.raw) (items_at l ps)
unfolding some_of
some-any l [] = refl
some-any l (p ∷ ps) = rw (some-any l ps) (or_is (is_part (item_at l p).raw) _)

pub any-requires-clause-callable : goal.any-requires-clause-callable
any-requires-clause-callable c =
    serves_from_places (YieldsList-from_slice c.args.places.now cc) (λ x q r. search rules) (λ x k h e. let here : Placed c.args.image.now x.now = rw e (each_at (Placed c.args.image.now) c.args.places.now _ c.requires k h) in search rules)

pub returns : goal.returns
returns c =
    any_from_yields_List (λ (p : ℕ). is_part (item_at c.args.image.now p).raw) _ _ c.any.result c.any.ensures.ran (YieldsList-from_slice c.args.places.now cc) (λ x b q k. search (rules, tests)) ∙ some-any c.args.image.now c.args.places.now
