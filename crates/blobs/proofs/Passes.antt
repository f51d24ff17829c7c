-- A pass over the runs of places that stay, while the image changes. Assumes nothing.
use mathlib.Core.Path.{◌≡◌, sym, ap, ap₂, ◌∙◌}
use mathlib.Core.List.{List, [], ◌++◌, flat_map}
use Prim.Native.Nat.{ℕ, ◌-◌, ◌≤◌}
use native.Mathlib.Omega.{arith}
use lib.ListN.{length, take, drop, get_or, length-take, length-drop, drop_of_length-le}
use lib.Seq.{slice-cons}
use Rattle.flash.specs.Step.{Step}
use Rattle.found.specs.Found.{Found}
use Rattle.found.specs.Places.{item_at, items_at, Placed, Alike}
use Rattle.lists.specs.Each.{Each}
use Rattle.found.proofs.Alike.{item_alike, items_alike, each-alike}
use Rattle.lists.proofs.Each.{each_take, each_at, each-drop}
use Rattle.sort.specs.Rank.{group_by}
use Rattle.sort.specs.Runs.{RunEnds}
use Rattle.lists.specs.Runs.{runs}
use Rattle.lists.proofs.Parts.{drop-take}
use Rattle.versions.specs.Search.{Gathered}
use Rattle.blobs.specs.Runs.{head_group}

module _ (h : List Found → List Step) (f : Found → ℕ) (L l places : List ℕ) (like : Alike L l) (all : Gathered L places) where
  pub gathered_still : Gathered l places
  gathered_still = record { few = all.few; each = each-alike L l like places all.each }

  module _ (a e : ℕ) (run : RunEnds f l places a e) where
    abbrev ps : List ℕ
    ps = drop a (take e places)

    each-run : Each (Placed L) ps
    each-run = each-drop (Placed L) a (take e places) (each_take (Placed L) e places all.each)

    pub gathered_run : Gathered l (take (e - a) (drop a places))
    gathered_run =
        rw (← drop-take a e places)
        (record { few = rw (length-drop a (take e places), length-take e places) (let k = all.few in omega arith); each = each-alike L l like ps each-run })

    pub items-run : items_at l (take (e - a) (drop a places)) ≡ items_at L (drop a (take e places))
    items-run = ap (items_at l) (sym (drop-take a e places)) ∙ items_alike L l like ps each-run

    pub pass_left : flat_map h (runs f (items_at L (drop a places))) ≡ h (items_at L (drop a (take e places))) ++ flat_map h (runs f (items_at L (drop e places)))
    unfolding flat_map
    pass_left =
        ap (λ (xs : List Found). flat_map h (runs f xs)) (sym (items_alike L l like (drop a places) (each-drop (Placed L) a places all.each)))
        ∙ ap (flat_map h) run.split
        ∙ ap₂ (λ (x y : List Found). h x ++ flat_map h (runs f y)) (items_alike L l like ps each-run) (items_alike L l like (drop e places) (each-drop (Placed L) e places all.each))

    -- the run's group is that of its first item
    pub first_group : group_by (item_at l (get_or places a 0)) ≡ head_group (items_at L (drop a (take e places)))
    first_group =
        ap group_by (item_alike L l like (get_or places a 0) (each_at (Placed L) places 0 all.each a (let u = run.upto in let m = run.more in omega arith)))
        ∙ sym (ap (λ (qs : List ℕ). head_group (items_at L qs)) (slice-cons a e places 0 run.more run.upto))

  pub pass_end : (a : ℕ) → length places ≤ a → flat_map h (runs f (items_at L (drop a places))) ≡ []
  unfolding flat_map runs
  pass_end a k = rw (drop_of_length-le places {i = a} k)
