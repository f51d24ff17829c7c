-- What is read of each sector of an image: one sector more, how many they are, and what stands at a sector's number. It holds for whatever is read. Assumes
-- nothing.
use mathlib.Core.Path.{◌≡◌, refl, sym, ◌∙◌}
use mathlib.Core.List.{List, [], ◌∷◌, ◌++◌}
use mathlib.Core.Logic.{◌⊎◌, inl, inr}
use Prim.Native.Nat.{ℕ, zero, suc, ◌+◌, ◌-◌, ◌≤◌, ◌<◌}
use native.Mathlib.Omega.{arith}
use native.Mathlib.Numerals.{add-one}
use lib.ListN.{length, get_or, take, set, replicate, length-append, get_or-append}
use lib.Seq.{set_at, take_at, get_or_at, append_snoc}
use Rattle.flash.specs.Step.{sector}
use Rattle.flash.proofs.Order.{le-or-gt}
use Rattle.records.specs.Records.{each_to}

module _ {X : Type 0} (f : List ℕ → X) (l : List ℕ) where
  pub length-each : (n : ℕ) → length (each_to f l n) ≡ n
  unfolding each_to
  length-each zero = refl
  length-each (suc n) = omega (arith, length-append (each_to f l n) (f (sector n l) ∷ []), length-each n)

  -- each stands at its sector's number
  pub each_at : (n u : ℕ) (d : X) → u < n → get_or (each_to f l n) u d ≡ f (sector u l)
  unfolding each_to
  each_at zero u d h = absurd (omega arith)
  each_at (suc n) u d h = go (le-or-gt n u) (each_at n u d)
    where
      go : (n ≤ u) ⊎ (u < n) → (u < n → get_or (each_to f l n) u d ≡ f (sector u l)) → get_or (each_to f l n ++ (f (sector n l) ∷ [])) u d ≡ f (sector u l)
      go (inl k) ih = let e : u ≡ n = omega arith in rw e (get_or_at (each_to f l n) (f (sector n l)) [] d n (length-each n))
      go (inr k) ih = get_or-append (each_to f l n) _ d u (omega (arith, length-each n)) ∙ ih k

  pub each_more : (n : ℕ) → each_to f l (n + 1) ≡ each_to f l n ++ (f (sector n l) ∷ [])
  unfolding each_to
  each_more n = rw add-one

  -- in an array of sixteen, filled up with what no sector has
  module _ (blank : X) (n : ℕ) where
    abbrev pub rows : ℕ → List X
    rows k = each_to f l k ++ replicate (16 - k) blank

    -- the next row is read
    pub row_read : n < 16 → set (rows n) n (f (sector n l)) ≡ rows (n + 1)
    row_read h =
        let rest = replicate (16 - (n + 1)) blank in
        let e : 16 - n ≡ suc (16 - (n + 1)) = omega arith in
        rw (e, each_more n) (set_at (each_to f l n) blank rest (f (sector n l)) n (length-each n) ∙ sym (append_snoc (each_to f l n) (f (sector n l)) rest))

    -- the rows that count
    pub rows-read : take n (rows n) ≡ each_to f l n
    rows-read = take_at (each_to f l n) (replicate (16 - n) blank) n (length-each n)

    pub rows-there : n ≤ length (rows n)
    rows-there = omega (arith, length-append (each_to f l n) (replicate (16 - n) blank), length-each n)
