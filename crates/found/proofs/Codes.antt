-- The type byte tells a chunk and a blob index: of the twelve known bytes one is a chunk's and one an index's. Assumes nothing.
use mathlib.Core.Path.{◌≡◌, refl, sym, ap, ◌∙◌}
use mathlib.Core.Bool.{Bool, true, false, cond}
use Prim.Native.Nat.{ℕ}
use lib.Dec.{eqb}
use borrow.Author.Tests.{eqb-true}
use Rattle.entry.specs.declared.kinds.Kind.{Kind}
use Rattle.entry.specs.declared.kinds.Kind.TheVariants.{Unsigned, Signed, Text, Blob, Chunk, Index, Unknown}
use Rattle.entry.specs.Kinds.{kind_of}
use Rattle.found.specs.Found.{chunk_kind, index_kind}

module _ (test : Kind → Bool) where
  past : (b : Bool) (x y : Kind) → test x ≡ false → test y ≡ false → test (cond b x y) ≡ false
  past true x y p q = p
  past false x y p q = q

  -- the ten kinds that stand before both fail the test
  others : (c : ℕ) (rest : Kind) → ((n : ℕ) → test (Unsigned n) ≡ false) → ((n : ℕ) → test (Signed n) ≡ false) → test Text ≡ false → test Blob ≡ false → test rest ≡ false
      → test (cond (eqb c 0x01) (Unsigned 1) (cond (eqb c 0x02) (Unsigned 2) (cond (eqb c 0x04) (Unsigned 4) (cond (eqb c 0x08) (Unsigned 8)
      (cond (eqb c 0x11) (Signed 1) (cond (eqb c 0x12) (Signed 2) (cond (eqb c 0x14) (Signed 4) (cond (eqb c 0x18) (Signed 8)
      (cond (eqb c 0x21) Text (cond (eqb c 0x41) Blob rest)))))))))) ≡ false
  others c rest u s t b r =
      past (eqb c 0x01) (Unsigned 1) _ (u 1) (past (eqb c 0x02) (Unsigned 2) _ (u 2) (past (eqb c 0x04) (Unsigned 4) _ (u 4) (past (eqb c 0x08) (Unsigned 8) _ (u 8)
      (past (eqb c 0x11) (Signed 1) _ (s 1) (past (eqb c 0x12) (Signed 2) _ (s 2) (past (eqb c 0x14) (Signed 4) _ (s 4) (past (eqb c 0x18) (Signed 8) _ (s 8)
      (past (eqb c 0x21) Text _ t (past (eqb c 0x41) Blob rest b r)))))))))

pub chunk_code : (c : ℕ) → eqb c 0x42 ≡ chunk_kind (kind_of c)
unfolding kind_of
chunk_code c = go (eqb c 0x42) refl
  where
    go : (b : Bool) → eqb c 0x42 ≡ b → eqb c 0x42 ≡ chunk_kind (kind_of c)
    go true e = e ∙ sym (ap (λ (x : ℕ). chunk_kind (kind_of x)) (eqb-true c 0x42 e))
    go false e = rw e (sym (others chunk_kind c _ (λ n. refl) (λ n. refl) refl refl (past chunk_kind (eqb c 0x48) Index Unknown refl refl)))

pub index_code : (c : ℕ) → eqb c 0x48 ≡ index_kind (kind_of c)
unfolding kind_of
index_code c = go (eqb c 0x48) refl
  where
    go : (b : Bool) → eqb c 0x48 ≡ b → eqb c 0x48 ≡ index_kind (kind_of c)
    go true e = e ∙ sym (ap (λ (x : ℕ). index_kind (kind_of x)) (eqb-true c 0x48 e))
    go false e = rw e (sym (others index_kind c _ (λ n. refl) (λ n. refl) refl refl (past index_kind (eqb c 0x42) Chunk Unknown refl refl)))
