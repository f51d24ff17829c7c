-- What a test finds among places, it finds among the items there. Assumes nothing.
use Rattle.std.specs.List.{list_any, filter}
use Rattle.std.proofs.lemmas.List.Folds.{list_any-append}
use mathlib.Core.Path.{◌≡◌, refl, ap, ◌∙◌}
use mathlib.Core.Bool.{Bool, true, false, cond, ◌||◌}
use mathlib.Core.List.{List, [], ◌∷◌, reverse, reverse-cons}
use Prim.Native.Nat.{ℕ, suc}
use lib.ListN.{length}
use Rattle.lists.specs.Lists.{keep, some_of}
use Rattle.found.specs.Found.{Found}
use Rattle.found.specs.Places.{item_at, items_at}

module _ (p : Found → Bool) (l : List ℕ) where
  abbrev test : ℕ → Bool
  test n = p (item_at l n)

  -- from the last on
  pub some-back : (ps : List ℕ) → list_any test (reverse ps) ≡ some_of p (items_at l ps)
  unfolding some_of
  some-back [] = refl
  some-back (n ∷ ps) = rw reverse-cons (list_any-append test (reverse ps) (n ∷ []) ∙ rw (some-back ps) (swap (test n) (some_of p (items_at l ps))))
    where
      swap : (a b : Bool) → (b || (a || false)) ≡ cond a true b
      swap true true = refl
      swap true false = refl
      swap false true = refl
      swap false false = refl

  pub kept_items : (ps : List ℕ) → length (filter test ps) ≡ length (keep p (items_at l ps))
  unfolding keep
  kept_items [] = refl
  kept_items (n ∷ ps) = go (test n) refl (kept_items ps)
    where
      go : (b : Bool) → test n ≡ b → length (filter test ps) ≡ length (keep p (items_at l ps)) → length (filter test (n ∷ ps)) ≡ length (cond b (item_at l n ∷ keep p (items_at l ps)) (keep p (items_at l ps)))
      go true e ih = rw e (ap suc ih)
      go false e ih = rw e ih
