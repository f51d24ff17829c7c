-- Bytes are all 0xFF exactly where the number that they make is that of as many 0xFF. Assumes nothing.
use mathlib.Core.Path.{◌≡◌, refl, sym, ap, ◌∙◌}
use mathlib.Core.Bool.{Bool, true, false, ◌&&◌}
use mathlib.Core.List.{List, [], ◌∷◌}
use Prim.Native.Nat.{ℕ, zero, suc, ◌+◌, ◌*◌, ◌<◌, ◌≤◌}
use native.Mathlib.Nat.{le_of_suc-le-suc, not-suc-le-zero}
use native.Mathlib.Omega.{arith}
use lib.Dec.{eqb}
use lib.ListN.{length, drop, get_or, length-drop}
use lib.Seq.{get_or-drop, drop-drop}
use borrow.Author.Tests.{eq-eqb, ne_eqb, eqb-true, eqb-false}
use Rattle.word.specs.Number.{number, le}
use Rattle.page.specs.State.{all_ones}

-- one byte and the rest
apart : (b x m : ℕ) → b < 256 → eqb (b + 256 * x) (255 + 256 * m) ≡ eqb b 255 && eqb x m
apart b x m h = go (eqb b 255) refl (eqb x m) refl
  where
    go : (t : Bool) → eqb b 255 ≡ t → (u : Bool) → eqb x m ≡ u → eqb (b + 256 * x) (255 + 256 * m) ≡ t && u
    go true e true f =
        let p : b ≡ 255 = eqb-true b 255 e in
        let q : x ≡ m = eqb-true x m f in
        eq-eqb (b + 256 * x) (255 + 256 * m) (omega arith)
    go true e false f =
        let p : b ≡ 255 = eqb-true b 255 e in
        let q : x ≡ m → ⊥ = eqb-false x m f in
        ne_eqb (b + 256 * x) (255 + 256 * m) (λ r. q (omega arith))
    go false e u f =
        let p : b ≡ 255 → ⊥ = eqb-false b 255 e in
        ne_eqb (b + 256 * x) (255 + 256 * m) (λ r. p (omega arith))

regroup : (a b c : Bool) → a && (b && c) ≡ (a && b) && c
regroup true b c = refl
regroup false b c = refl

many : (n : ℕ) (l : List ℕ) → ((j : ℕ) → get_or l j 0 < 256) → n ≤ length l → all_ones l ≡ eqb (number (λ j. get_or l j 0) n) (number (λ j. 255) n) && all_ones (drop n l)
unfolding all_ones
many zero l small h = refl
many (suc n) [] small h = absurd (not-suc-le-zero h)
many (suc n) (b ∷ bs) small h =
    ap (λ (t : Bool). eqb b 255 && t) (many n bs (λ j. small (suc j)) (le_of_suc-le-suc h))
    ∙ regroup (eqb b 255) (eqb (number (λ j. get_or bs j 0) n) (number (λ j. 255) n)) (all_ones (drop n bs))
    ∙ ap (λ (t : Bool). t && all_ones (drop n bs)) (sym (apart b (number (λ j. get_or bs j 0) n) (number (λ j. 255) n) (small 0)))

module _ (s : List ℕ) (small : (j : ℕ) → get_or s j 0 < 256) where
  -- the eight bytes from i on, where the next group begins at j
  eight : (i j : ℕ) → j ≡ i + 8 → j ≤ length s → all_ones (drop i s) ≡ eqb (le s i 8) 0xFFFF_FFFF_FFFF_FFFF && all_ones (drop j s)
  unfolding le
  eight i j e fits =
      let h : 8 ≤ length (drop i s) = simp length-drop (omega arith) in
      let m = many 8 (drop i s) (λ k. rw get_or-drop (small (i + k))) h in
      rw e (simp (get_or-drop, drop-drop) at m)

  -- four such groups
  pub four : (i : ℕ) → i + 32 ≤ length s
      → all_ones (drop i s) ≡ eqb (le s i 8) 0xFFFF_FFFF_FFFF_FFFF && (eqb (le s (i + 8) 8) 0xFFFF_FFFF_FFFF_FFFF && (eqb (le s (i + 16) 8) 0xFFFF_FFFF_FFFF_FFFF && (eqb (le s (i + 24) 8) 0xFFFF_FFFF_FFFF_FFFF && all_ones (drop (i + 32) s))))
  four i h =
      eight i (i + 8) refl (omega arith) ∙ ap (λ (b : Bool). eqb (le s i 8) 0xFFFF_FFFF_FFFF_FFFF && b)
      (eight (i + 8) (i + 16) (omega arith) (omega arith) ∙ ap (λ (b : Bool). eqb (le s (i + 8) 8) 0xFFFF_FFFF_FFFF_FFFF && b)
      (eight (i + 16) (i + 24) (omega arith) (omega arith) ∙ ap (λ (b : Bool). eqb (le s (i + 16) 8) 0xFFFF_FFFF_FFFF_FFFF && b)
      (eight (i + 24) (i + 32) (omega arith) (omega arith))))
