-- Bridge: calm items, of which stages 3 and 4 find nothing to repair: a fact of sums over the items' bytes. Assumes nothing.
use Rattle.std.specs.Prelude.{◌≡◌, Bool, ◌&&◌, cond, List, ℕ, ◌+◌, ◌≤◌, eqb, ltb}
use Rattle.entry.specs.States.{one}
use Rattle.entry.specs.Fields.{index_count, index_size, namespace_of}
use Rattle.lists.specs.Lists.{sum_of}
use Rattle.found.specs.Found.{Found, group_of, index_of, is_part, version_of}
use Rattle.versions.specs.Versions.{chunk_numbered, size_in, version_in}
use Rattle.duplicates.specs.Duplicates.{ranked}

-- f summed over the bytes of the items found
abbrev pub tot : (List ℕ → ℕ) → List Found → ℕ
tot f fs = sum_of (λ (x : Found). f x.raw) fs

-- a part of version v
abbrev pub part_of : ℕ → List ℕ → Bool
part_of v r = is_part r && eqb (version_of r) v

-- an item of group g that stage 4 judges
abbrev pub in_group : ℕ → List ℕ → Bool
in_group g r = ranked r && eqb (group_of r) g

-- all in sums: so it goes over to any store with the same sums
pub record Calm (T : (List ℕ → ℕ) → ℕ) : Type 0 where
  pub single : (g : ℕ) → T (λ (r : List ℕ). one (in_group g r)) ≤ 1
  pub lone : (v : ℕ) → T (λ (r : List ℕ). one (index_of v r)) ≤ 1
  pub not-both : (g : ℕ) → T (λ (r : List ℕ). one (index_of (version_in g 0) r)) + T (λ (r : List ℕ). one (index_of (version_in g 0x80) r)) ≤ 1
  pub has : (v : ℕ) → 1 ≤ T (λ (r : List ℕ). one (part_of v r)) → 1 ≤ T (λ (r : List ℕ). one (index_of v r))
  pub each : (v : ℕ) → 1 ≤ T (λ (r : List ℕ). one (index_of v r)) → (n : ℕ) → T (λ (r : List ℕ). one (chunk_numbered v n r)) ≡ T (λ (r : List ℕ). cond (index_of v r) (one (ltb n (index_count r))) 0)
  pub size : (v : ℕ) → 1 ≤ T (λ (r : List ℕ). one (index_of v r)) → T (λ (r : List ℕ). cond (index_of v r) (index_size r) 0) ≡ T (size_in v)

-- an index of version v in namespace 0. Stage 4 does not judge this namespace, and stage 3 looks at the newest index of a version alone: so two may stay
abbrev pub zero_index : ℕ → List ℕ → Bool
zero_index v r = index_of v r && eqb (namespace_of r) 0

-- no version has two of these; and one has
abbrev pub ZeroLone : ((List ℕ → ℕ) → ℕ) → Type 0
ZeroLone T = (v : ℕ) → T (λ (r : List ℕ). one (zero_index v r)) ≤ 1

abbrev pub ZeroTwice : ((List ℕ → ℕ) → ℕ) → Type 0
ZeroTwice T = (v : ℕ) × (2 ≤ T (λ (r : List ℕ). one (zero_index v r)))
