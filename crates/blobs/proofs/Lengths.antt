-- How many steps stage 3 takes: for each version, and again for each group, an index, and the chunks of it alone. Assumes nothing.
use mathlib.Core.Path.{◌≡◌, refl, ap, ◌∙◌}
use mathlib.Core.Bool.{Bool, true, false, cond, ◌||◌}
use mathlib.Core.Option.{Option, none, some}
use mathlib.Core.List.{List, [], map, flat_map}
use Prim.Native.Nat.{ℕ, ◌+◌, ◌*◌, ◌/◌, ◌%◌, ◌^◌, ◌≤◌, ◌<◌}
use native.Mathlib.Nat.{mod-lt, div-add-mod'}
use native.Mathlib.Omega.{arith}
use lib.Arith.{digits_div, digits_mod}
use lib.Dec.{eqb, lit<}
use lib.ListN.{length, length-append, length-map}
use borrow.Author.Tests.{eqb-true}
use Rattle.page.proofs.Tests.{both-second, either_second}
use Rattle.flash.specs.Step.{Step}
use Rattle.item.specs.Erase.{erasing}
use Rattle.item.proofs.Lengths.{length-erasing}
use Rattle.lists.specs.Lists.{keep, sum_of, best, ascending}
use Rattle.lists.proofs.Sums.{sum-le, sum_plus}
use Rattle.lists.proofs.Lengths.{length-keep, sum_sharper, sum_most, kept-once, length_flat, length-ascending}
use Rattle.found.specs.Found.{Found, newer, is_chunk, is_index, is_part, version_of, group_of, index_of, chunk_of, chunks, erase_all}
use Rattle.found.proofs.Lengths.{steps_for, length-erased}
use Rattle.versions.specs.Versions.{counting, sound, drop_version, judge_with, judge, version_in, both_sound, drop_counting, older_with, older}
use Rattle.blobs.specs.Blobs.{blob_steps}

-- a version tells its group, over a base that nothing computes
group-back : (b g st : ℕ) → 0 < b → st ≤ 128 → ((g / b * 256 + st) * b + g % b) / b / 256 * b + ((g / b * 256 + st) * b + g % b) % b ≡ g
group-back b g st z h =
    let low = mod-lt g {m = b} z in
    let r : (g / b * 256 + st) / 256 ≡ g / b = omega arith in
    rw (digits_div (g / b * 256 + st) low, digits_mod (g / b * 256 + st) low, r) (div-add-mod' g b)

module _ (fs : List Found) where
  dropped : (v : ℕ) (i : Found) → length (drop_version v i fs) ≤ 1 + sum_of steps_for (chunks v fs)
  unfolding drop_version
  dropped v i = omega (arith, length-erased (chunks v fs), length-erasing i.sector i.entry 1, length-append (erasing i.sector i.entry 1) (erase_all (chunks v fs)))

  judge_most : (v : ℕ) → length (judge fs v) ≤ 1 + sum_of steps_for (chunks v fs)
  unfolding judge judge_with
  judge_most v = go (counting v fs)
    where
      go : (o : Option Found) → length (judge_with v fs o) ≤ 1 + sum_of steps_for (chunks v fs)
      go none = omega (arith, length-erased (chunks v fs))
      go (some i) = whole (sound v fs i)
        where
          whole : (b : Bool) → length (cond b [] (drop_version v i fs)) ≤ 1 + sum_of steps_for (chunks v fs)
          whole true = omega arith
          whole false = dropped v i

  -- the chunks of a group's two versions
  abbrev either : ℕ → Found → Bool
  either g x = chunk_of (version_in g 0) x.raw || chunk_of (version_in g 0x80) x.raw

  older_most : (g : ℕ) → length (older fs g) ≤ 1 + sum_of steps_for (keep (either g) fs)
  unfolding older older_with drop_counting
  older_most g = two (both_sound fs (version_in g 0) (version_in g 0x80)) (best newer (keep (λ (x : Found). index_of (version_in g 0) x.raw || index_of (version_in g 0x80) x.raw) fs))
    where
      one_of : (v : ℕ) → ((x : Found) → chunk_of v x.raw ≡ true → either g x ≡ true) → (o : Option Found) → length (drop_counting v fs o) ≤ 1 + sum_of steps_for (keep (either g) fs)
      one_of v h none = omega arith
      one_of v h (some i) = omega (arith, dropped v i, sum_sharper (λ (x : Found). chunk_of v x.raw) (either g) steps_for h fs)

      other : (k : Found) (b : Bool)
          → length (cond b (drop_counting (version_in g 0x80) fs (counting (version_in g 0x80) fs)) (drop_counting (version_in g 0) fs (counting (version_in g 0) fs)))
          ≤ 1 + sum_of steps_for (keep (either g) fs)
      other k true = one_of (version_in g 0x80) (λ x e. either_second (chunk_of (version_in g 0) x.raw) (chunk_of (version_in g 0x80) x.raw) e) (counting (version_in g 0x80) fs)
      other k false = one_of (version_in g 0) (λ x e. rw e) (counting (version_in g 0) fs)

      with : (o : Option Found) → length (older_with (version_in g 0) (version_in g 0x80) fs o) ≤ 1 + sum_of steps_for (keep (either g) fs)
      with none = omega arith
      with (some k) = other k (eqb (version_of k.raw) (version_in g 0))

      two : (b : Bool) (o : Option Found) → length (cond b (older_with (version_in g 0) (version_in g 0x80) fs o) []) ≤ 1 + sum_of steps_for (keep (either g) fs)
      two true o = with o
      two false o = omega arith

  -- a pass over the numbers of some of the items, ascending: a step for each, and no item twice
  pass_most : (s : ℕ → List Step) (p : ℕ → Found → Bool) (h : Found → ℕ) → ((v : ℕ) → length (s v) ≤ 1 + sum_of steps_for (keep (p v) fs)) → ((v : ℕ) (x : Found) → p v x ≡ true → h x ≡ v)
      → (q : Found → Bool) (f : Found → ℕ) → length (flat_map s (ascending (map f (keep q fs)))) ≤ length fs + length (erase_all fs)
  pass_most s p h each tells q f =
      let vs = ascending (map f (keep q fs)) in
      let few : length vs ≤ length fs = omega (arith, length-ascending (map f (keep q fs)), length-map (keep q fs) f, length-keep q fs) in
      omega
      (arith, length_flat s vs, sum-le (λ (v : ℕ). length (s v)) (λ (v : ℕ). 1 + sum_of steps_for (keep (p v) fs)) vs (λ v m. each v), sum_plus (λ (v : ℕ). 1) (λ (v : ℕ). sum_of steps_for (keep (p v) fs)) vs, sum_most (λ (v : ℕ). 1) 1 (length fs) (λ v. omega arith) vs few, kept-once p h tells steps_for fs (map f (keep q fs)), length-erased fs)

  version_told : (v : ℕ) (x : Found) → chunk_of v x.raw ≡ true → version_of x.raw ≡ v
  version_told v x e = eqb-true (version_of x.raw) v (both-second (is_chunk x.raw) (eqb (version_of x.raw) v) e)

  abbrev group_back : ℕ → ℕ
  group_back v = v / 2 ^ 128 / 256 * 2 ^ 128 + v % 2 ^ 128

  group_told : (g : ℕ) (x : Found) → either g x ≡ true → group_back (version_of x.raw) ≡ g
  group_told g x e = go (chunk_of (version_in g 0) x.raw) refl e
    where
      at : (st : ℕ) → st ≤ 128 → chunk_of (version_in g st) x.raw ≡ true → group_back (version_of x.raw) ≡ g
      at st h c = ap group_back (version_told (version_in g st) x c) ∙ group-back (2 ^ 128) g st (lit< tt) h

      go : (b : Bool) → chunk_of (version_in g 0) x.raw ≡ b → b || chunk_of (version_in g 0x80) x.raw ≡ true → group_back (version_of x.raw) ≡ g
      go true c e = at 0 (omega arith) c
      go false c e = at 0x80 (omega arith) e

  pub blobs_most : length (blob_steps fs) ≤ 2 * (length fs + length (erase_all fs))
  unfolding blob_steps
  blobs_most =
      let vs = ascending (map (λ (x : Found). version_of x.raw) (keep (λ (x : Found). is_part x.raw) fs)) in
      let gs = ascending (map (λ (x : Found). group_of x.raw) (keep (λ (x : Found). is_index x.raw) fs)) in
      let first = pass_most (judge fs) (λ (v : ℕ) (x : Found). chunk_of v x.raw) (λ (x : Found). version_of x.raw) judge_most version_told (λ (x : Found). is_part x.raw) (λ (x : Found). version_of x.raw) in
      let second = pass_most (older fs) either (λ (x : Found). group_back (version_of x.raw)) older_most group_told (λ (x : Found). is_index x.raw) (λ (x : Found). group_of x.raw) in
      omega (arith, first, second, length-append (flat_map (judge fs) vs) (flat_map (older fs) gs))
