-- A version is a group and a start: where the keys have 128 bits, both are told by its number. Assumes nothing.
use mathlib.Core.Path.{◌≡◌, refl, sym, ap₂, ◌∙◌}
use mathlib.Core.List.{List}
use Prim.Native.Nat.{ℕ, ◌+◌, ◌*◌, ◌/◌, ◌%◌, ◌^◌, ◌<◌, ◌≤◌}
use native.Mathlib.Omega.{arith}
use lib.Arith.{digits_div, digits_mod}
use Rattle.entry.specs.Fields.{namespace_of, key_of, key_number}
use Rattle.entry.proofs.Keys.{two-high, two-low}
use Rattle.found.specs.Found.{start_in, version_of, group_of}
use Rattle.found.proofs.Ranking.{start_le}

-- the group of a version
abbrev pub group_in : ℕ → ℕ
group_in v = v / 2 ^ 128 / 256 * 2 ^ 128 + v % 2 ^ 128

-- a version taken apart, over a base that nothing computes
pub split-group : (b n st k v : ℕ) → k < b → st ≤ 128 → (n * 256 + st) * b + k ≡ v → v / b / 256 * b + v % b ≡ n * b + k
split-group b n st k v h g e =
    let p : v / b ≡ n * 256 + st = rw (← e) (digits_div (n * 256 + st) h) in
    let q : v % b ≡ k = rw (← e) (digits_mod (n * 256 + st) h) in
    let r : (n * 256 + st) / 256 ≡ n = omega arith in
    rw (p, q, r)

pub version-group : (v : ℕ) (r : List ℕ) → key_number (key_of r) < 2 ^ 128 → version_of r ≡ v → group_of r ≡ group_in v
unfolding version_of group_of
version-group v r h e = sym (split-group (2 ^ 128) (namespace_of r) (start_in r) (key_number (key_of r)) v h (start_le r) e)

module _ (r q : List ℕ) (kr : key_number (key_of r) < 2 ^ 128) (kq : key_number (key_of q) < 2 ^ 128) where
  pub version_tells : version_of r ≡ version_of q → (group_of r ≡ group_of q) × (start_in r ≡ start_in q)
  unfolding version_of
  version_tells e =
      let high = two-high 128 {h = namespace_of r * 256 + start_in r} {h' = namespace_of q * 256 + start_in q} kr kq e in
      let a = start_le r in
      let b = start_le q in
      (version-group (version_of q) r kr e ∙ sym (version-group (version_of q) q kq refl), omega arith)

  pub version_of_lem : group_of r ≡ group_of q → start_in r ≡ start_in q → version_of r ≡ version_of q
  unfolding version_of group_of
  version_of_lem e s =
      let n = two-high 128 {h = namespace_of r} {h' = namespace_of q} kr kq e in
      let low = two-low 128 (namespace_of r) (namespace_of q) kr kq e in
      let high : namespace_of r * 256 + start_in r ≡ namespace_of q * 256 + start_in q = omega arith in
      ap₂ (λ (x y : ℕ). x * 2 ^ 128 + y) high low
