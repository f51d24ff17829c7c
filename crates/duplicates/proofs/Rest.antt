-- The runs that are left, while the image and the places before them change. Assumes nothing.
use mathlib.Core.Path.{◌≡◌, refl, sym, ap, ap₂, ◌∙◌}
use mathlib.Core.List.{List, [], ◌∷◌, ◌++◌, flat_map}
use Prim.Native.Nat.{ℕ, ◌+◌, ◌-◌, ◌≤◌, ◌<◌}
use native.Mathlib.Omega.{arith}
use lib.ListN.{length, take, drop, get_or, length-take, drop_of_length-le}
use lib.Seq.{take-take, drop-drop, get_or-take}
use Rattle.found.specs.Found.{Found}
use Rattle.found.specs.Places.{item_at, items_at, Placed, Alike}
use Rattle.lists.specs.Each.{Each}
use Rattle.found.proofs.Alike.{alike_refl, alike_trans, items_alike, each-alike}
use Rattle.lists.proofs.Each.{each_take, each-drop}
use Rattle.sort.specs.Rank.{group_by}
use Rattle.sort.specs.Runs.{RunEnds}
use Rattle.lists.specs.Runs.{runs}
use Rattle.lists.proofs.Parts.{drop-take}
use Rattle.duplicates.specs.Runs.{run_steps}

-- of the first n places t, sorted, those from number a on are left: they stand in s as they stood, and the image l has their items as L had them
pub record RunsLeft (L l t s : List ℕ) (n a : ℕ) : Type 0 where
  pub like : Alike L l
  pub size : length s ≡ length t
  pub upto : a ≤ n
  pub kept : drop a (take n s) ≡ drop a (take n t)

pub runs_left : (L t : List ℕ) (n : ℕ) → RunsLeft L L t t n 0
runs_left L t n = record { like = alike_refl L; size = refl; upto = omega arith; kept = refl }

module _ {L l t s : List ℕ} {n a : ℕ} (left : RunsLeft L l t s n a) (each : Each (Placed L) (take n t)) where
  abbrev those : List ℕ
  those = drop a (take n t)

  here : take (n - a) (drop a s) ≡ those
  here = sym (drop-take a n s) ∙ left.kept

  each_left : Each (Placed L) those
  each_left = each-drop (Placed L) a (take n t) each

  pub placed_left : Each (Placed l) (take (n - a) (drop a s))
  placed_left = rw here (each-alike L l left.like those each_left)

  module _ {m : ℕ} (run : RunEnds group_by l (take (n - a) (drop a s)) 0 m) where
    pub fits : m ≤ n - a
    fits = let h = run.upto in let z = length-take (n - a) (drop a s) in omega arith

    front : take m (drop a s) ≡ take m those
    front = sym (take-take m (n - a) (drop a s) fits) ∙ ap (take m) here

    pub placed_run : Each (Placed l) (take m (drop a s))
    placed_run = rw front (each-alike L l left.like (take m those) (each_take (Placed L) m those each_left))

    pub same_run : 0 < n - a → Each (λ (x : Found). group_by x ≡ group_by (item_at l (get_or (drop a s) 0 0))) (items_at l (take m (drop a s)))
    same_run h = rw (get_or-take (n - a) (drop a s) 0 0 h, take-take m (n - a) (drop a s) fits) at run.same

    pub items-run : items_at l (take m (drop a s)) ≡ items_at L (take m (drop a (take n t)))
    items-run = ap (items_at l) front ∙ items_alike L l left.like (take m those) (each_take (Placed L) m those each_left)

    split_left : runs group_by (items_at L those) ≡ items_at L (take m those) ∷ runs group_by (items_at L (drop m those))
    split_left =
        ap (runs group_by) (sym (items_alike L l left.like those each_left) ∙ ap (items_at l) (sym here))
        ∙ run.split
        ∙ ap₂ (λ (x y : List Found). x ∷ runs group_by y)
        (ap (λ (ps : List ℕ). items_at l (take m ps)) here ∙ items_alike L l left.like (take m those) (each_take (Placed L) m those each_left))
        (ap (λ (ps : List ℕ). items_at l (drop m ps)) here ∙ items_alike L l left.like (drop m those) (each-drop (Placed L) m those each_left))

    pub steps_left : flat_map run_steps (runs group_by (items_at L (drop a (take n t)))) ≡ run_steps (items_at L (take m (drop a (take n t)))) ++ flat_map run_steps (runs group_by (items_at L (drop (a + m) (take n t))))
    unfolding flat_map
    steps_left = ap (flat_map run_steps) split_left ∙ ap (λ (ps : List ℕ). run_steps (items_at L (take m those)) ++ flat_map run_steps (runs group_by (items_at L ps))) (drop-drop m a (take n t))

    -- the places behind the run stay, of which the first b from it on were seen to
    pub kept-behind : (b : ℕ) {k r : List ℕ} → n ≤ a + b → Alike l k → length r ≡ length s → drop m (take b (drop a r)) ≡ drop m (take b (drop a s)) → RunsLeft L k t r n (a + m)
    kept-behind b {k} {r} h like size q =
        let fore : (x : List ℕ) → drop (a + m) (take n x) ≡ take (n - a - m) (drop m (take b (drop a x))) = λ x.
        sym (drop-drop m a (take n x)) ∙ ap (drop m) (drop-take a n x ∙ sym (take-take (n - a) b (drop a x) (omega arith))) ∙ drop-take m (n - a) (take b (drop a x)) in
        let few = fits in
        record {
          like = alike_trans left.like like;
          size = size ∙ left.size;
          upto = omega (arith, left.upto);
          kept = fore r ∙ ap (take (n - a - m)) q ∙ sym (fore s) ∙ sym (drop-drop m a (take n s)) ∙ ap (drop m) left.kept ∙ drop-drop m a (take n t);
        }

pub steps_none : (L t : List ℕ) (n a : ℕ) → n ≤ a → flat_map run_steps (runs group_by (items_at L (drop a (take n t)))) ≡ []
unfolding flat_map runs
steps_none L t n a h = rw (drop_of_length-le (take n t) {i = a} (let z = length-take n t in omega arith))
