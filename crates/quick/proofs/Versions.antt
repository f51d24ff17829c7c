-- The versions of a group are of it, and are two; and an index is a part of a blob and no chunk. Assumes nothing.
use mathlib.Core.Path.{◌∙◌, ◌≡◌, ap, refl, sym}
use mathlib.Core.Bool.{false, true}
use mathlib.Core.List.{List}
use Prim.Native.Nat.{◌%◌, ◌*◌, ◌+◌, ◌/◌, ◌<◌, ◌^◌, ◌≤◌, ℕ}
use native.Mathlib.Nat.{div-add-mod', mod-lt}
use native.Mathlib.Omega.{arith}
use lib.Arith.{digits_div}
use lib.Dec.{lit<}
use Rattle.entry.specs.declared.kinds.Kind.{Kind}
use Rattle.entry.specs.declared.kinds.Kind.TheVariants.{Blob, Chunk, Index, Signed, Text, Unknown, Unsigned}
use Rattle.entry.specs.Fields.{kind_in}
use Rattle.page.proofs.Tests.{either_second}
use Rattle.lists.proofs.Member.{true≢false}
use Rattle.found.specs.Found.{chunk_kind, index_kind, is_chunk, is_index, is_part}
use Rattle.found.proofs.Versions.{split-group}

pub split_in : (b g s : ℕ) → 0 < b → s ≤ 128 → ((g / b * 256 + s) * b + g % b) / b / 256 * b + ((g / b * 256 + s) * b + g % b) % b ≡ g
split_in b g s z h = split-group b (g / b) s (g % b) ((g / b * 256 + s) * b + g % b) (mod-lt g z) h refl ∙ div-add-mod' g b

pub pow_pos : 0 < 2 ^ 128
pow_pos = lit< tt

pub version_in-ne : (b g : ℕ) → 0 < b → (g / b * 256 + 0) * b + g % b ≡ (g / b * 256 + 128) * b + g % b → ⊥
version_in-ne b g z e =
    let p : ((g / b * 256 + 0) * b + g % b) / b ≡ g / b * 256 + 0 = digits_div (g / b * 256 + 0) (mod-lt g z) in
    let q : ((g / b * 256 + 128) * b + g % b) / b ≡ g / b * 256 + 128 = digits_div (g / b * 256 + 128) (mod-lt g z) in
    let r : g / b * 256 + 0 ≡ g / b * 256 + 128 = sym p ∙ ap (λ (n : ℕ). n / b) e ∙ q in
    omega arith

pub index-part : (r : List ℕ) → is_index r ≡ true → is_part r ≡ true
index-part r e = either_second (is_chunk r) _ e

pub index-not-chunk : (r : List ℕ) → is_index r ≡ true → is_chunk r ≡ false
index-not-chunk r e = go (kind_in r) e
  where
    go : (k : Kind) → index_kind k ≡ true → chunk_kind k ≡ false
    go (Unsigned n) q = refl
    go (Signed n) q = refl
    go Text q = refl
    go Blob q = refl
    go Chunk q = absurd (true≢false q refl)
    go Index q = refl
    go Unknown q = refl
