-- An item's name: of a chunk that of its number in its version, of any other item its group; and what two items of one name have in common. Assumes nothing.
use mathlib.Core.Path.{◌≡◌, refl, sym, ap, ◌∙◌}
use mathlib.Core.Bool.{Bool, true, false, cond}
use mathlib.Core.List.{List}
use Prim.Native.Nat.{ℕ, ◌+◌, ◌*◌, ◌%◌, ◌^◌, ◌<◌}
use native.Mathlib.Nat.{add_assoc, add-mul, add_right_cancel, eq_of_mul-eq-mul_right}
use native.Mathlib.Omega.{arith}
use Rattle.entry.proofs.Keys.{two-high, two-low}
use Rattle.entry.specs.Fields.{chunk_index_of, chunk_number, key_number, key_of, namespace_of, start_of}
use Rattle.found.specs.Found.{group_of, is_chunk, start_in, version_of}
use Rattle.versions.proofs.Indices.{start_number}
use Rattle.slots.specs.Names.{chunk_name, front_of, name_of}
use Rattle.quick.proofs.Versions.{pow_pos}

pub name-other : (r : List ℕ) → is_chunk r ≡ false → name_of r ≡ group_of r
unfolding name_of front_of group_of
name-other r e = rw e

-- over a base that nothing computes
apart : (b n st m k : ℕ) → (256 + n * 256 + (st + m)) * b + k ≡ (256 + m) * b + ((n * 256 + st) * b + k)
apart b n st m k =
    let e : 256 + n * 256 + (st + m) ≡ 256 + m + (n * 256 + st) = omega arith in
    rw (e, add-mul (256 + m) (n * 256 + st) b) (add_assoc ((256 + m) * b) ((n * 256 + st) * b) k)

pub name-chunk : (r : List ℕ) → is_chunk r ≡ true → chunk_index_of r < 256 → name_of r ≡ chunk_name (version_of r) (chunk_number r)
unfolding name_of front_of version_of start_in
name-chunk r e h = rw e (go (chunk_index_of r) (start_number (chunk_index_of r) h))
  where
    go : (c : ℕ) → start_of c + c % 128 ≡ c
        → (256 + namespace_of r * 256 + c) * 2 ^ 128 + key_number (key_of r) ≡ (256 + c % 128) * 2 ^ 128 + ((namespace_of r * 256 + start_of c) * 2 ^ 128 + key_number (key_of r))
    go c q = ap (λ (x : ℕ). (256 + namespace_of r * 256 + x) * 2 ^ 128 + key_number (key_of r)) (sym q) ∙ apart (2 ^ 128) (namespace_of r) (start_of c) (c % 128) (key_number (key_of r))

-- no two numbers of a version have one name
pub number_same : (v m n : ℕ) → chunk_name v m ≡ chunk_name v n → m ≡ n
number_same v m n e = let q = eq_of_mul-eq-mul_right (2 ^ 128) pow_pos (256 + m) (256 + n) (add_right_cancel v e) in omega arith

-- an item is made of bytes
abbrev pub SmallItem : List ℕ → Type 0
SmallItem r = (namespace_of r < 256) × (chunk_index_of r < 256) × (key_number (key_of r) < 2 ^ 128)

-- ---- two items of one name
module _ (r s : List ℕ) (small : SmallItem r) (other : SmallItem s) (e : name_of r ≡ name_of s) where
  front : cond (is_chunk r) (256 + namespace_of r * 256 + chunk_index_of r) (namespace_of r) ≡ cond (is_chunk s) (256 + namespace_of s * 256 + chunk_index_of s) (namespace_of s)
  unfolding name_of front_of
  front = two-high 128 small.2 other.2 e

  key : key_number (key_of r) ≡ key_number (key_of s)
  unfolding name_of
  key = two-low 128 (front_of r) (front_of s) small.2 other.2 e

  -- with a chunk both are chunks of one version, with one number
  pub same_chunk : is_chunk s ≡ true → (is_chunk r ≡ true) × (version_of r ≡ version_of s) × (chunk_number r ≡ chunk_number s)
  unfolding version_of start_in
  same_chunk p = go (is_chunk r) refl (rw p at front)
    where
      go : (b : Bool) → is_chunk r ≡ b → cond b (256 + namespace_of r * 256 + chunk_index_of r) (namespace_of r) ≡ 256 + namespace_of s * 256 + chunk_index_of s
          → (is_chunk r ≡ true) × (version_of r ≡ version_of s) × (chunk_number r ≡ chunk_number s)
      go true q f =
          let n : namespace_of r ≡ namespace_of s = omega (arith, small.1, other.1) in
          let i : chunk_index_of r ≡ chunk_index_of s = omega (arith, small.1, other.1) in
          (q, rw (q, p, n, i, key), ap (λ (b : ℕ). b % 128) i)
      go false q f = absurd (omega (arith, small.0))

  -- and else neither is a chunk, and both are of one namespace
  pub same_other : is_chunk s ≡ false → (is_chunk r ≡ false) × (namespace_of r ≡ namespace_of s)
  same_other p = go (is_chunk r) refl (rw p at front)
    where
      go : (b : Bool) → is_chunk r ≡ b → cond b (256 + namespace_of r * 256 + chunk_index_of r) (namespace_of r) ≡ namespace_of s → (is_chunk r ≡ false) × (namespace_of r ≡ namespace_of s)
      go true q f = absurd (omega (arith, other.0))
      go false q f = (q, f)
