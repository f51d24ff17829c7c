-- A sound version's chunk indices, as document 02, No. 2 says them: start, start + 1 and so on up to the count, each once. Assumes nothing.
use mathlib.Core.Path.{◌≡◌, refl, ap, ◌∙◌}
use mathlib.Core.Bool.{Bool, true, false, cond, ◌&&◌}
use mathlib.Core.List.{List}
use Prim.Native.Nat.{ℕ, ◌+◌, ◌%◌, ◌^◌, ◌<◌}
use native.Mathlib.Omega.{arith}
use lib.Dec.{eqb, ltb}
use borrow.Author.Tests.{eq-eqb, ne_eqb, eqb-true, eqb-false, ltb-true, ltb-false}
use Rattle.entry.specs.States.{one}
use Rattle.entry.specs.Fields.{chunk_index_of, chunk_number, index_count, key_number, key_of, start_of}
use Rattle.page.proofs.Tests.{both_first, both-second}
use Rattle.lists.specs.Lists.{sum_of}
use Rattle.lists.proofs.Member.{◌∈◌}
use Rattle.lists.proofs.Sums.{sum_ext}
use Rattle.found.specs.Found.{Found, chunk_of, is_chunk, start_in, version_of}
use Rattle.found.proofs.Versions.{version_tells}
use Rattle.versions.specs.Versions.{sound}
use Rattle.versions.proofs.Exact.{sound-exact}

-- start and number make the chunk index
pub start_number : (b : ℕ) → b < 256 → start_of b + b % 128 ≡ b
start_number b h = go (ltb b 0x80) refl
  where
    go : (t : Bool) → ltb b 0x80 ≡ t → cond t 0 0x80 + b % 128 ≡ b
    go true e = let k = ltb-true b 0x80 e in omega arith
    go false e = let k = ltb-false b 0x80 e in omega arith

-- the items are made of bytes; i is an index of the version, and its start the version's
module _ (fs : List Found) (small : (x : Found) → x ∈ fs → (chunk_index_of x.raw < 256) × (key_number (key_of x.raw) < 2 ^ 128)) (i : Found) (key : key_number (key_of i.raw) < 2 ^ 128) where
  abbrev v : ℕ
  v = version_of i.raw

  abbrev start : ℕ
  start = start_in i.raw

  chunk-index : (x : Found) → x ∈ fs → chunk_of v x.raw ≡ true → chunk_index_of x.raw ≡ start + chunk_number x.raw
  unfolding start_in
  chunk-index x m e =
      let r = x.raw in
      let same = (version_tells r i.raw (small x m).1 key (eqb-true (version_of r) v (both-second (is_chunk r) _ e))).1 in
      let own : start_in r ≡ start_of (chunk_index_of r) = rw (both_first (is_chunk r) _ e) in
      let whole = start_number (chunk_index_of r) (small x m).0 in
      omega arith

  pub sound-indices : sound v fs i ≡ true → (n : ℕ)
      → sum_of (λ (x : Found). one (chunk_of v x.raw && eqb (chunk_index_of x.raw) (start + n))) fs ≡ one (ltb n (index_count i.raw))
  sound-indices e n = sum_ext _ _ fs (λ x m. go x m (chunk_of v x.raw) refl) ∙ sound-exact v fs i e n
    where
      test : (x : Found) → chunk_index_of x.raw ≡ start + chunk_number x.raw → eqb (chunk_index_of x.raw) (start + n) ≡ eqb (chunk_number x.raw) n
      test x q = two (eqb (chunk_number x.raw) n) refl
        where
          two : (b : Bool) → eqb (chunk_number x.raw) n ≡ b → eqb (chunk_index_of x.raw) (start + n) ≡ b
          two true k = let s = eqb-true (chunk_number x.raw) n k in eq-eqb (chunk_index_of x.raw) (start + n) (omega (arith, q))
          two false k = let s : (chunk_number x.raw ≡ n → ⊥) = eqb-false (chunk_number x.raw) n k in ne_eqb (chunk_index_of x.raw) (start + n) (λ w. s (omega (arith, w, q)))

      go : (x : Found) → x ∈ fs → (b : Bool) → chunk_of v x.raw ≡ b
          → one (b && eqb (chunk_index_of x.raw) (start + n)) ≡ one (b && eqb (chunk_number x.raw) n)
      go x m true k = ap one (test x (chunk-index x m k))
      go x m false k = refl
