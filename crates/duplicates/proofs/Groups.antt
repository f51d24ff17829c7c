-- Stage 4's list of steps, group by group: what goes of different groups stands at different places. Assumes nothing.
use mathlib.Core.Path.{◌≡◌, refl, sym, ap, ◌∙◌}
use mathlib.Core.Bool.{false, not}
use mathlib.Core.Option.{Option, none, some}
use mathlib.Core.List.{List, [], ◌∷◌, ◌++◌, flat_map}
use Prim.Native.Nat.{ℕ, zero, suc, ◌<◌}
use native.Mathlib.Omega.{arith}
use Rattle.flash.specs.Step.{Step}
use Rattle.lists.specs.Lists.{some_of, least_from, ascend_to, ascend_from, ascending}
use Rattle.lists.proofs.Member.{◌∈◌, refuted}
use Rattle.lists.proofs.Search.{keep_all, some_none}
use Rattle.lists.proofs.Maps.{flat_map_in, flat_map_ext}
use Rattle.lists.proofs.Ascending.{ascend_from_lem}
use Rattle.found.specs.Found.{Found, group_of, erase_all}
use Rattle.duplicates.specs.Duplicates.{outdated, same_place, once_each, groups, duplicate_steps}
use Rattle.duplicates.specs.Turns.{group_steps}
use Rattle.duplicates.proofs.Once.{fresh, once-append, once_in, once-only}
use Rattle.duplicates.proofs.Taking.{erase-append}
use Rattle.duplicates.proofs.Grouping.{Apart, group-turns, outdated_of}

erase-groups : (f : ℕ → List Found) (gs : List ℕ) → erase_all (flat_map f gs) ≡ flat_map (λ (g : ℕ). erase_all (f g)) gs
unfolding flat_map
erase-groups f [] = unfold erase_all in refl
erase-groups f (g ∷ gs) = erase-append (f g) (flat_map f gs) ∙ ap (λ (ss : List Step). erase_all (f g) ++ ss) (erase-groups f gs)

module _ (fs : List Found) (apart : Apart fs) where
  -- what goes of another group stands elsewhere
  groups-fresh : (g : ℕ) (gs : List ℕ) → ((h : ℕ) → h ∈ gs → g < h) → fresh (outdated fs g) (once_each (flat_map (outdated fs) gs)) ≡ once_each (flat_map (outdated fs) gs)
  groups-fresh g gs above =
      keep_all (λ (y : Found). not (some_of (λ (x : Found). same_place x y) (outdated fs g))) (once_each (flat_map (outdated fs) gs)) (λ y n.
      ap not (some_none (λ (x : Found). same_place x y) (outdated fs g) (λ x m. apart_of x y m (flat_map_in (outdated fs) gs y (once_in (flat_map (outdated fs) gs) y n)))))
    where
      apart_of : (x y : Found) → x ∈ outdated fs g → ((h : ℕ) × (h ∈ gs) × (y ∈ outdated fs h)) → same_place x y ≡ false
      apart_of x y m r =
          refuted (same_place x y) (λ q.
          let a = outdated_of fs apart g x m in
          let b = outdated_of fs apart r.0 y r.2 in
          let e : g ≡ r.0 = sym a.1 ∙ ap (λ (z : Found). group_of z.raw) (once-only fs x y apart.once a.0 b.0 q) ∙ b.1 in
          let l = above r.0 r.1 in
          omega arith)

  groups-once : (n v : ℕ) (cs : List ℕ) → once_each (flat_map (outdated fs) (ascend_from n v cs)) ≡ flat_map (λ (g : ℕ). once_each (outdated fs g)) (ascend_from n v cs)
  unfolding ascend_from ascend_to flat_map once_each
  groups-once zero v cs = refl
  groups-once (suc n) v cs = go (least_from v cs) (λ w. groups-once n (suc w) cs)
    where
      go : (o : Option ℕ) → ((w : ℕ) → once_each (flat_map (outdated fs) (ascend_from n (suc w) cs)) ≡ flat_map (λ (g : ℕ). once_each (outdated fs g)) (ascend_from n (suc w) cs))
          → once_each (flat_map (outdated fs) (ascend_to (λ (w : ℕ). ascend_from n (suc w) cs) o)) ≡ flat_map (λ (g : ℕ). once_each (outdated fs g)) (ascend_to (λ (w : ℕ). ascend_from n (suc w) cs) o)
      go none ih = refl
      go (some w) ih =
          let gs = ascend_from n (suc w) cs in
          once-append (outdated fs w) (flat_map (outdated fs) gs)
          ∙ ap (λ (ys : List Found). once_each (outdated fs w) ++ ys) (groups-fresh w gs (λ h m. ascend_from_lem n (suc w) cs h m) ∙ ih w)

  pub steps-are : duplicate_steps fs ≡ flat_map (group_steps fs) (groups fs)
  unfolding duplicate_steps groups ascending group_steps
  steps-are =
      ap erase_all (groups-once _ 0 _) ∙ erase-groups (λ (g : ℕ). once_each (outdated fs g)) _
      ∙ flat_map_ext (λ (g : ℕ). erase_all (once_each (outdated fs g))) (group_steps fs) _ (λ g m. ap erase_all (group-turns fs apart g))
