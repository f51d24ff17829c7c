-- The parts sorted by group: their runs are the groups, and namespace by namespace the versions of either start. Assumes nothing.
use mathlib.Core.Path.{◌≡◌, refl, sym, ap, ap₂, subst, ◌∙◌}
use mathlib.Core.Logic.{◌⊎◌, inl, inr, ⊎_elim}
use mathlib.Core.Bool.{Bool, true, false, cond, ◌&&◌}
use mathlib.Core.List.{List, [], ◌∷◌, ◌++◌, map, flat_map}
use Prim.Native.Nat.{ℕ, suc, ◌+◌, ◌*◌, ◌/◌, ◌%◌, ◌^◌, ◌<◌, ◌≤◌}
use native.Mathlib.Omega.{arith}
use native.Mathlib.Nat.{mod-lt, div-add-mod', mul_assoc, mul-le-mul_right, le-div_iff_mul-le, div-mul-le_self}
use lib.Arith.{digits_lt, digits_div, digits_mod}
use lib.Dec.{eqb, ltb, lit<}
use borrow.Author.Tests.{eqb-true, eq-eqb}
use Rattle.page.proofs.Tests.{either_second}
use Rattle.entry.specs.Fields.{namespace_of, key_of, key_number, chunk_index_of, index_start}
use Rattle.flash.specs.Step.{Step}
use Rattle.lists.specs.Lists.{keep, sort_by, ascending}
use Rattle.lists.proofs.Member.{◌∈◌, in_left, in_right, in_append}
use Rattle.lists.proofs.Search.{keep_in, in_keep, keep-both}
use Rattle.lists.proofs.Sorting.{sort_in, in_sort}
use Rattle.lists.proofs.Maps.{in_map, map_in, flat_map_ext, flat_map-append, in_flat_map}
use Rattle.lists.proofs.Ascending.{ascending_in, in_ascending}
use Rattle.found.specs.Found.{Found, is_chunk, is_index, is_part, start_in, version_of, group_of}
use Rattle.sort.specs.Rank.{group_by}
use Rattle.lists.specs.Merge.{below}
use Rattle.lists.specs.Runs.{runs}
use Rattle.lists.proofs.Climbing.{Climbs, climb_above, ascending_climbs, climb_more, ascending_more}
use Rattle.lists.proofs.Running.{only, Rises, sort_rises, only-sorted, runs_rising, runs-sorted}
use Rattle.lists.proofs.Keeping.{keep-within, flat_map-map}
use Rattle.versions.specs.Versions.{version_in, judge, older}
use Rattle.blobs.specs.Runs.{head_group, space_by, start_steps, space_steps, older_steps}
use Rattle.blobs.proofs.Near.{Near, version_near, judge_near, older_near, judge_none, older_none}

abbrev part : Found → Bool
part x = is_part x.raw

-- ---- lists
flat_map_flat : {A B C : Type 0} (f : B → List C) (g : A → List B) (xs : List A) → flat_map f (flat_map g xs) ≡ flat_map (λ (x : A). flat_map f (g x)) xs
unfolding flat_map
flat_map_flat f g [] = refl
flat_map_flat {C = C} f g (x ∷ xs) = flat_map-append f (g x) (flat_map g xs) ∙ ap (λ (r : List C). flat_map f (g x) ++ r) (flat_map_flat f g xs)

-- a run has its group
head-only : (xs : List Found) (g : ℕ) → g ∈ map group_by xs → head_group (only group_by xs g) ≡ g
head-only xs g m =
    let z = map_in group_by xs g m in
    let there : z.0 ∈ only group_by xs g = in_keep (λ (x : Found). eqb (group_by x) g) xs z.0 z.1 (eq-eqb (group_by z.0) g (sym z.2)) in
    go (only group_by xs g) (λ y k. eqb-true (group_by y) g (keep_in (λ (x : Found). eqb (group_by x) g) xs y k).1) z.0 there
  where
    go : (ys : List Found) → ((y : Found) → y ∈ ys → group_by y ≡ g) → (x : Found) → x ∈ ys → head_group ys ≡ g
    go [] h x k = absurd k
    go (y ∷ ys) h x k = h y (inl refl)

module _ (fs : List Found) (keys : (x : Found) → x ∈ fs → key_number (key_of x.raw) < 2 ^ 128) where
  abbrev ps : List Found
  ps = keep part fs

  abbrev S : List Found
  S = sort_by (below group_by) ps

  -- the parts of a group
  abbrev in_group : ℕ → Found → Bool
  in_group g x = part x && eqb (group_by x) g

  only_parts : (g : ℕ) → only group_by ps g ≡ keep (in_group g) fs
  only_parts g = keep-both (λ (x : Found). eqb (group_by x) g) part (in_group g) (λ y. same (part y) (eqb (group_by y) g)) fs
    where
      same : (a b : Bool) → cond a b false ≡ (a && b)
      same true b = refl
      same false b = refl

  near_group : (g st : ℕ) → st ≤ 128 → Near fs (in_group g) (version_in g st)
  near_group g st h x m p e = rw (p, eq-eqb (group_by x) g (version_near g st x.raw (keys x m) h e))

  judge-group : (g st : ℕ) → st ≤ 128 → judge (only group_by ps g) (version_in g st) ≡ judge fs (version_in g st)
  judge-group g st h = ap (λ (xs : List Found). judge xs (version_in g st)) (only_parts g) ∙ judge_near fs (in_group g) (version_in g st) (near_group g st h)

  -- ---- the older of two
  older-group : (g : ℕ) → g ∈ ascending (map group_by ps) → older_steps (only group_by ps g) ≡ older fs g
  unfolding older_steps
  older-group g m =
      ap (older (only group_by ps g)) (head-only ps g (ascending_in (map group_by ps) g m))
      ∙ ap (λ (xs : List Found). older xs g) (only_parts g)
      ∙ older_near fs (in_group g) g (near_group g 0 (omega arith)) (near_group g 0x80 (omega arith))

  pub older-runs : flat_map older_steps (runs group_by S) ≡ flat_map (older fs) (ascending (map (λ (x : Found). group_of x.raw) (keep (λ (x : Found). is_index x.raw) fs)))
  older-runs =
      ap (flat_map older_steps) (runs-sorted group_by ps)
      ∙ flat_map-map older_steps (only group_by ps) (ascending (map group_by ps))
      ∙ flat_map_ext (λ (g : ℕ). older_steps (only group_by ps g)) (older fs) (ascending (map group_by ps)) older-group
      ∙ sym (ascending_more (older fs) (map group_by (keep index fs)) (map group_by ps) more none_else)
    where
      index : Found → Bool
      index x = is_index x.raw

      more : (c : ℕ) → c ∈ map group_by (keep index fs) → c ∈ map group_by ps
      more c m =
          let z = map_in group_by (keep index fs) c m in
          let k = keep_in index fs z.0 z.1 in
          rw z.2 (in_map group_by ps z.0 (in_keep part fs z.0 k.0 (either_second (is_chunk z.0.raw) (is_index z.0.raw) k.1)))

      none_else : (c : ℕ) → c ∈ map group_by ps → (c ∈ map group_by (keep index fs) → ⊥) → older fs c ≡ []
      none_else c m out = older_none fs c (λ x k i e. out (rw (← version_near c 0 x.raw (keys x k) (omega arith) e) (in_map group_by (keep index fs) x (in_keep index fs x k i))))

-- ---- a group and its versions, over a base that nothing computes
module _ (b : ℕ) (pos : 0 < b) where
  abbrev in_version : ℕ → ℕ → ℕ
  in_version g st = (g / b * 256 + st) * b + g % b

  -- of groups of one namespace the greater has the greater version
  climb_one : (sp g h st : ℕ) → g / b ≡ sp → h / b ≡ sp → g < h → in_version g st < in_version h st
  climb_one sp g h st p q k =
      let x = div-add-mod' g b in
      let y = div-add-mod' h b in
      let e : g / b * b ≡ sp * b = ap (λ (n : ℕ). n * b) p in
      let f : h / b * b ≡ sp * b = ap (λ (n : ℕ). n * b) q in
      let u : (g / b * 256 + st) * b ≡ (sp * 256 + st) * b = ap (λ (n : ℕ). (n * 256 + st) * b) p in
      let v : (h / b * 256 + st) * b ≡ (sp * 256 + st) * b = ap (λ (n : ℕ). (n * 256 + st) * b) q in
      omega arith

  -- what stands in front of the key decides
  low-high : (sp g st top : ℕ) → g / b ≡ sp → sp * 256 + st < top → in_version g st < top * b
  low-high sp g st top p h = digits_lt {q = g / b * 256 + st} {m = top} {r = g % b} {c = b} (let e = p in omega arith) (mod-lt g pos)

  high-low : (sp g st low : ℕ) → g / b ≡ sp → low ≤ sp * 256 + st → low * b ≤ in_version g st
  high-low sp g st low p h = let k = mul-le-mul_right {m = low} {n = g / b * 256 + st} b (let e = p in omega arith) in omega arith

div_mono : (b x y : ℕ) → 0 < b → x ≤ y → x / b ≤ y / b
div_mono b x y pos h = (le-div_iff_mul-le {k = b} {x = x / b} {y = y} pos).1 (let z = div-mul-le_self x b in omega arith)

least : (n : ℕ) → 0 ≤ n
least n = omega arith

base_low : (b sp : ℕ) → sp * (256 * b) ≤ (sp * 256 + 0) * b
base_low b sp = let e : sp * 256 ≡ sp * 256 + 0 = omega arith in let q : sp * (256 * b) ≡ (sp * 256 + 0) * b = sym (mul_assoc sp 256 b) ∙ ap (λ (n : ℕ). n * b) e in rw q (omega arith)

base_mid : (b sp : ℕ) → sp * (256 * b) ≤ (sp * 256 + 128) * b
base_mid b sp = let h = base_low b sp in let k = mul-le-mul_right {m = sp * 256 + 0} {n = sp * 256 + 128} b (omega arith) in omega arith

base_top : (b sp : ℕ) → (sp * 256 + 256) * b ≡ suc sp * (256 * b)
base_top b sp = let e : sp * 256 + 256 ≡ suc sp * 256 = omega arith in ap (λ (n : ℕ). n * b) e ∙ mul_assoc (suc sp) 256 b

climb_weaker : (v u : ℕ) (ws : List ℕ) → Climbs v ws → u ≤ v → Climbs u ws
climb_weaker v u [] k h = tt
climb_weaker v u (w ∷ ws) k h = (let a = k.0 in omega arith, k.1)

climb_append : (v u : ℕ) (xs ys : List ℕ) → Climbs v xs → ((x : ℕ) → x ∈ xs → x < u) → Climbs u ys → v ≤ u → Climbs v (xs ++ ys)
climb_append v u [] ys k h l q = climb_weaker u v ys l q
climb_append v u (x ∷ xs) ys k h l q = (k.0, climb_append (suc x) u xs ys k.1 (λ y m. h y (inr m)) l (let a = h x (inl refl) in omega arith))

climb_map : (f : ℕ → ℕ) (v u : ℕ) (gs : List ℕ) → Climbs v gs → ((g : ℕ) → g ∈ gs → u ≤ f g) → ((g h : ℕ) → g ∈ gs → h ∈ gs → g < h → f g < f h) → Climbs u (map f gs)
climb_map f v u [] k low up = tt
climb_map f v u (g ∷ gs) k low up =
    (low g (inl refl), climb_map f (suc g) (suc (f g)) gs k.1 (λ h m. up g h (inl refl) (inr m) (climb_above (suc g) gs k.1 h m)) (λ x y m n. up x y (inr m) (inr n)))

climb_flat : (B : ℕ) (W : ℕ → List ℕ) (v : ℕ) (sps : List ℕ) → Climbs v sps → ((sp : ℕ) → sp ∈ sps → Climbs (sp * B) (W sp)) → ((sp : ℕ) → sp ∈ sps → (x : ℕ) → x ∈ W sp → x < suc sp * B) → Climbs (v * B) (flat_map W sps)
unfolding flat_map
climb_flat B W v [] k c h = tt
climb_flat B W v (sp ∷ sps) k c h =
    climb_weaker (sp * B) (v * B) (W sp ++ flat_map W sps)
    (climb_append (sp * B) (suc sp * B) (W sp) (flat_map W sps) (c sp (inl refl)) (h sp (inl refl)) (climb_flat B W (suc sp) sps k.1 (λ x m. c x (inr m)) (λ x m. h x (inr m))) (mul-le-mul_right {m = sp} {n = suc sp} B (omega arith)))
    (mul-le-mul_right {m = v} {n = sp} B k.0)

-- ---- an item's namespace, group and version
module _ (r : List ℕ) (kr : key_number (key_of r) < 2 ^ 128) where
  pub group-space : group_of r / 2 ^ 128 ≡ namespace_of r
  unfolding group_of
  group-space = digits_div (namespace_of r) kr

  group-key : group_of r % 2 ^ 128 ≡ key_number (key_of r)
  unfolding group_of
  group-key = digits_mod (namespace_of r) kr

  pub version_is : version_of r ≡ version_in (group_of r) (start_in r)
  unfolding version_of
  version_is = rw (group-space, group-key)

pub start_either : (r : List ℕ) → (start_in r ≡ 0) ⊎ (start_in r ≡ 0x80)
unfolding start_in
start_either r = go (ltb (cond (is_chunk r) (chunk_index_of r) (index_start r)) 0x80)
  where
    go : (b : Bool) → (◌≡◌ {A = ℕ} (cond b 0 0x80) 0) ⊎ (◌≡◌ {A = ℕ} (cond b 0 0x80) 0x80)
    go true = inl refl
    go false = inr refl

rises_keep : {A : Type 0} (f : A → ℕ) (p : A → Bool) (xs : List A) → Rises f xs → Rises f (keep p xs)
unfolding keep
rises_keep f p [] r = tt
rises_keep {A} f p (x ∷ xs) r = go (p x) (rises_keep f p xs r.1)
  where
    go : (b : Bool) → Rises f (keep p xs) → Rises f (cond b (x ∷ keep p xs) (keep p xs))
    go true ih = ((λ y m. r.0 y (keep_in p xs y m).0), ih)
    go false ih = ih

rises_by : {A : Type 0} (f h : A → ℕ) (xs : List A) → ((x y : A) → x ∈ xs → y ∈ xs → f x ≤ f y → h x ≤ h y) → Rises f xs → Rises h xs
rises_by f h [] mono r = tt
rises_by f h (x ∷ xs) mono r = ((λ y m. mono x y (inl refl) (inr m) (r.0 y m)), rises_by f h xs (λ a b m n. mono a b (inr m) (inr n)) r.1)

module _ (fs : List Found) (keys : (x : Found) → x ∈ fs → key_number (key_of x.raw) < 2 ^ 128) where
  abbrev qs : List Found
  qs = keep part fs

  abbrev T : List Found
  T = sort_by (below group_by) qs

  -- what is sorted was found
  found_in : (x : Found) → x ∈ T → x ∈ fs
  found_in x m = (keep_in part fs x (sort_in (below group_by) qs x m)).0

  space_of : (x : Found) → x ∈ T → group_by x / 2 ^ 128 ≡ space_by x
  space_of x m = group-space x.raw (keys x (found_in x m))

  space_rises : Rises space_by T
  space_rises = rises_by group_by space_by T (λ x y m n h. mono x y (space_of x m) (space_of y n) h) (sort_rises group_by qs)
    where
      mono : (x y : Found) → group_by x / 2 ^ 128 ≡ space_by x → group_by y / 2 ^ 128 ≡ space_by y → group_by x ≤ group_by y → space_by x ≤ space_by y
      mono x y p q h = rw (← p, ← q) (div_mono (2 ^ 128) (group_by x) (group_by y) (lit< tt) h)

  module _ (sp : ℕ) where
    -- the parts of one namespace, and their groups
    abbrev in_space : List Found
    in_space = only space_by T sp

    abbrev gs : List ℕ
    gs = ascending (map group_by in_space)

    group_in_lem : (g : ℕ) → g ∈ gs → (x : Found) × (x ∈ T) × (space_by x ≡ sp) × (g ≡ group_by x)
    group_in_lem g m =
        let z = map_in group_by in_space g (ascending_in (map group_by in_space) g m) in
        let k = keep_in (λ (x : Found). eqb (space_by x) sp) T z.0 z.1 in
        (z.0, k.0, eqb-true (space_by z.0) sp k.1, z.2)

    space_in : (g : ℕ) → g ∈ gs → g / 2 ^ 128 ≡ sp
    space_in g m = let z = group_in_lem g m in ap (λ (n : ℕ). n / 2 ^ 128) z.3 ∙ space_of z.0 z.1 ∙ z.2

    -- a group's run in its namespace is its run among all
    only_in : (g : ℕ) → g ∈ gs → only group_by in_space g ≡ only group_by qs g
    only_in g m =
        keep-within (λ (x : Found). eqb (group_by x) g) (λ (x : Found). eqb (space_by x) sp) T (λ y n e.
        eq-eqb (space_by y) sp (sym (space_of y n) ∙ ap (λ (k : ℕ). k / 2 ^ 128) (eqb-true (group_by y) g e) ∙ space_in g m))
        ∙ only-sorted group_by g qs

    start_group : (st : ℕ) → st ≤ 128 → (g : ℕ) → g ∈ gs → start_steps st (only group_by in_space g) ≡ judge fs (version_in g st)
    unfolding start_steps
    start_group st h g m =
        ap (λ (k : ℕ). judge (only group_by in_space g) (version_in k st)) (head-only in_space g (ascending_in (map group_by in_space) g m))
        ∙ ap (λ (xs : List Found). judge xs (version_in g st)) (only_in g m)
        ∙ judge-group fs keys g st h

    start_runs : (st : ℕ) → st ≤ 128 → flat_map (start_steps st) (runs group_by in_space) ≡ flat_map (judge fs) (map (λ (g : ℕ). version_in g st) gs)
    start_runs st h =
        ap (flat_map (start_steps st)) (runs_rising group_by in_space (rises_keep group_by (λ (x : Found). eqb (space_by x) sp) T (sort_rises group_by qs)))
        ∙ flat_map-map (start_steps st) (only group_by in_space) gs
        ∙ flat_map_ext (λ (g : ℕ). start_steps st (only group_by in_space g)) (λ (g : ℕ). judge fs (version_in g st)) gs (start_group st h)
        ∙ sym (flat_map-map (judge fs) (λ (g : ℕ). version_in g st) gs)

    abbrev W : List ℕ
    W = map (λ (g : ℕ). version_in g 0) gs ++ map (λ (g : ℕ). version_in g 0x80) gs

    space-turn : space_steps in_space ≡ flat_map (judge fs) W
    unfolding space_steps
    space-turn = ap₂ (λ (a b : List Step). a ++ b) (start_runs 0 (omega arith)) (start_runs 0x80 (omega arith)) ∙ sym (flat_map-append (judge fs) (map (λ (g : ℕ). version_in g 0) gs) (map (λ (g : ℕ). version_in g 0x80) gs))

    -- the versions climb, all within the namespace
    climb_start : (st : ℕ) → Climbs ((sp * 256 + st) * 2 ^ 128) (map (λ (g : ℕ). version_in g st) gs)
    climb_start st =
        climb_map (λ (g : ℕ). version_in g st) 0 ((sp * 256 + st) * 2 ^ 128) gs (ascending_climbs (map group_by in_space))
        (λ g m. high-low (2 ^ 128) (lit< tt) sp g st (sp * 256 + st) (space_in g m) (omega arith))
        (λ g h m n k. climb_one (2 ^ 128) (lit< tt) sp g h st (space_in g m) (space_in h n) k)

    under : (st top : ℕ) → sp * 256 + st < top → (x : ℕ) → x ∈ map (λ (g : ℕ). version_in g st) gs → x < top * 2 ^ 128
    under st top h x m = let z = map_in (λ (g : ℕ). version_in g st) gs x m in rw z.2 (low-high (2 ^ 128) (lit< tt) sp z.0 st top (space_in z.0 z.1) h)

    climb_space : Climbs (sp * (256 * 2 ^ 128)) W
    climb_space =
        climb_append (sp * (256 * 2 ^ 128)) ((sp * 256 + 128) * 2 ^ 128) (map (λ (g : ℕ). version_in g 0) gs) (map (λ (g : ℕ). version_in g 0x80) gs)
        (climb_weaker ((sp * 256 + 0) * 2 ^ 128) (sp * (256 * 2 ^ 128)) (map (λ (g : ℕ). version_in g 0) gs) (climb_start 0) (base_low (2 ^ 128) sp))
        (under 0 (sp * 256 + 128) (omega arith))
        (climb_start 0x80)
        (base_mid (2 ^ 128) sp)

    under-space : (x : ℕ) → x ∈ W → x < suc sp * (256 * 2 ^ 128)
    under-space x m =
        subst (λ (n : ℕ). x < n) (base_top (2 ^ 128) sp)
        (⊎_elim (λ k. under 0 (sp * 256 + 256) (omega arith) x k) (λ k. under 0x80 (sp * 256 + 256) (omega arith) x k) (in_append x (map (λ (g : ℕ). version_in g 0) gs) (map (λ (g : ℕ). version_in g 0x80) gs) m))

  abbrev sps : List ℕ
  sps = ascending (map space_by T)

  ws_climb : Climbs 0 (flat_map W sps)
  ws_climb =
      climb_weaker (0 * (256 * 2 ^ 128)) 0 (flat_map W sps)
      (climb_flat (256 * 2 ^ 128) W 0 sps (ascending_climbs (map space_by T)) (λ sp m. climb_space sp) (λ sp m x k. under-space sp x k)) (least (0 * (256 * 2 ^ 128)))

  -- each version of a part is among them
  version-there : (c : ℕ) → c ∈ map (λ (x : Found). version_of x.raw) qs → c ∈ flat_map W sps
  version-there c m =
      let z = map_in (λ (x : Found). version_of x.raw) qs c m in
      let x = z.0 in
      let here : x ∈ T = in_sort (below group_by) qs x z.1 in
      let sp = space_by x in
      let there : group_by x ∈ gs sp = in_ascending (map group_by (in_space sp)) (group_by x) (in_map group_by (in_space sp) x (in_keep (λ (y : Found). eqb (space_by y) sp) T x here (eq-eqb (space_by x) sp refl))) in
      let is : c ≡ version_in (group_by x) (start_in x.raw) = z.2 ∙ version_is x.raw (keys x (found_in x here)) in
      in_flat_map W sps sp c (in_ascending (map space_by T) sp (in_map space_by T x here))
      (⊎_elim
      (λ e. in_left c (map (λ (g : ℕ). version_in g 0) (gs sp)) (map (λ (g : ℕ). version_in g 0x80) (gs sp)) (subst (λ (n : ℕ). n ∈ map (λ (g : ℕ). version_in g 0) (gs sp)) (sym (is ∙ ap (λ (st : ℕ). version_in (group_by x) st) e)) (in_map (λ (g : ℕ). version_in g 0) (gs sp) (group_by x) there)))
      (λ e. in_right c (map (λ (g : ℕ). version_in g 0) (gs sp)) (map (λ (g : ℕ). version_in g 0x80) (gs sp)) (subst (λ (n : ℕ). n ∈ map (λ (g : ℕ). version_in g 0x80) (gs sp)) (sym (is ∙ ap (λ (st : ℕ). version_in (group_by x) st) e)) (in_map (λ (g : ℕ). version_in g 0x80) (gs sp) (group_by x) there)))
      (start_either x.raw))

  -- namespace by namespace the versions of start 0, then those of start 0x80: each version, ascending
  pub space-runs : flat_map space_steps (runs space_by T) ≡ flat_map (judge fs) (ascending (map (λ (x : Found). version_of x.raw) (keep (λ (x : Found). is_part x.raw) fs)))
  space-runs =
      ap (flat_map space_steps) (runs_rising space_by T space_rises)
      ∙ flat_map-map space_steps (only space_by T) sps
      ∙ flat_map_ext (λ (sp : ℕ). space_steps (only space_by T sp)) (λ (sp : ℕ). flat_map (judge fs) (W sp)) sps (λ sp m. space-turn sp)
      ∙ sym (flat_map_flat (judge fs) W sps)
      ∙ sym (climb_more (judge fs) 0 0 (ascending (map (λ (x : Found). version_of x.raw) qs)) (flat_map W sps) (ascending_climbs (map (λ (x : Found). version_of x.raw) qs)) ws_climb
      (λ c m. version-there c (ascending_in (map (λ (x : Found). version_of x.raw) qs) c m))
      (λ c m out. judge_none fs c (λ x k p e. out (in_ascending (map (λ (x : Found). version_of x.raw) qs) c (rw (← e) (in_map (λ (x : Found). version_of x.raw) qs x (in_keep part fs x k p)))))))
