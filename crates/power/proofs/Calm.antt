-- Tidy items, of which no blob part is of namespace 0: a group that has one item has one index, and items that stages 3 and 4 leave are calm. Assumes nothing.
use mathlib.Core.Path.{◌≡◌, refl}
use mathlib.Core.Bool.{Bool, ◌&&◌, false, true}
use mathlib.Core.List.{List, []}
use Prim.Native.Nat.{◌+◌, ◌<◌, ◌^◌, ◌≤◌, ℕ}
use native.Mathlib.Omega.{arith}
use lib.Dec.{eqb}
use borrow.Author.Tests.{eq-eqb, eqb-true, le-leb}
use Rattle.entry.specs.States.{one}
use Rattle.entry.specs.Fields.{key_number, key_of, namespace_of}
use Rattle.page.proofs.Tests.{both_first, both-second}
use Rattle.lists.proofs.Member.{◌∈◌}
use Rattle.lists.proofs.Sums.{sum-zero}
use Rattle.found.specs.Found.{Found, group_of, index_of, is_index, is_part, version_of}
use Rattle.found.proofs.Versions.{group_in, version-group}
use Rattle.found.proofs.Spanned.{Spanned}
use Rattle.versions.specs.Versions.{version_in}
use Rattle.blobs.specs.Blobs.{blob_steps}
use Rattle.duplicates.specs.Duplicates.{duplicate_steps}
use Rattle.quick.specs.Calm.{Calm, ZeroLone, in_group, tot, zero_index}
use Rattle.quick.proofs.Versions.{index-not-chunk, index-part}
use Rattle.quick.proofs.Lone.{one_index, one_version}
use Rattle.quick.proofs.Still.{idle-calm}

-- the items are made of bytes, and none of namespace 0 is a blob part
abbrev pub Tidy : List Found → Type 0
Tidy fs = (x : Found) → x ∈ fs → (key_number (key_of x.raw) < 2 ^ 128) × (is_part x.raw ≡ true → 1 ≤ namespace_of x.raw)

module _ (fs : List Found) (tidy : Tidy fs) where
  -- ---- where no group has two items: at most one index of a version, and of both versions of a key
  module _ (single : (g : ℕ) → tot (λ (r : List ℕ). one (in_group g r)) fs ≤ 1) where
    in_group_lem : (v : ℕ) (x : Found) → x ∈ fs → index_of v x.raw ≡ true → in_group (group_in v) x.raw ≡ true
    in_group_lem v x m e =
        let i = both_first (is_index x.raw) _ e in
        let w = eqb-true (version_of x.raw) v (both-second (is_index x.raw) _ e) in
        let t = tidy x m in
        rw (index-not-chunk x.raw i, le-leb 1 (namespace_of x.raw) (t.1 (index-part x.raw i)), eq-eqb (group_of x.raw) (group_in v) (version-group v x.raw t.0 w))

    pub lone : (v : ℕ) → tot (λ (r : List ℕ). one (index_of v r)) fs ≤ 1
    lone = one_index (λ (x : Found). x.raw) fs in_group single in_group_lem

    pub not-both : (g : ℕ) → tot (λ (r : List ℕ). one (index_of (version_in g 0) r)) fs + tot (λ (r : List ℕ). one (index_of (version_in g 0x80) r)) fs ≤ 1
    not-both = one_version (λ (x : Found). x.raw) fs in_group single in_group_lem

  -- ---- no index is of namespace 0
  zero-lone : ZeroLone (λ (f : List ℕ → ℕ). tot f fs)
  zero-lone v = let z = sum-zero (λ (x : Found). one (zero_index v x.raw)) fs (λ x m. none x m (index_of v x.raw) refl (eqb (namespace_of x.raw) 0) refl) in omega arith
    where
      none : (x : Found) → x ∈ fs → (a : Bool) → index_of v x.raw ≡ a → (b : Bool) → eqb (namespace_of x.raw) 0 ≡ b → one (a && b) ≡ 0
      none x m true p true q =
          let h = (tidy x m).1 (index-part x.raw (both_first (is_index x.raw) _ p)) in
          let z = eqb-true (namespace_of x.raw) 0 q in
          absurd (omega arith)
      none x m true p false q = refl
      none x m false p b q = refl

  pub calm : Spanned fs → blob_steps fs ≡ [] → duplicate_steps fs ≡ [] → Calm (λ (f : List ℕ → ℕ). tot f fs)
  calm spans = idle-calm fs (λ x m. (tidy x m).0) spans zero-lone
