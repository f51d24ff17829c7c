-- An erased sector is the image cut in three with ones in the middle. Assumes nothing.
use mathlib.Core.Path.{◌≡◌, sym, ap, ◌∙◌}
use mathlib.Core.Logic.{◌⊎◌, ⊎_elim}
use mathlib.Core.List.{List, [], ◌∷◌, ◌++◌}
use Prim.Native.Nat.{ℕ, ◌+◌, ◌-◌, ◌*◌, ◌≤◌, ◌<◌, min}
use native.Mathlib.Omega.{arith}
use lib.ListN.{length, get_or, take, drop, length-append, length-take, length-drop, length-replicate, get_or-replicate, get_or-append, get_or-eq_default}
use lib.Seq.{get_or-take, get_or-drop, get_or-append-add, length-take-le, take_at, drop_at}
use borrow.Rule.Slice.PartMut.{mid_of, put_mid, Post-is}
use Rattle.flash.specs.Step.{apply, blank, erase, erased, run, sector}
use Rattle.flash.proofs.Order.{le-or-gt}

pub length-blank : (n : ℕ) → length (blank n) ≡ n
unfolding blank
length-blank n = length-replicate n 0xFF

pub blank-byte : (n i : ℕ) → i < n → get_or (blank n) i 0 ≡ 0xFF
unfolding blank
blank-byte n i h = get_or-replicate n i 0xFF 0 h

pub length-sector : (s : ℕ) (l : List ℕ) → length (sector s l) ≡ min 4096 (length l - s * 4096)
unfolding sector
length-sector s l = simp (length-take, length-drop)

module _ (l : List ℕ) (s : ℕ) where
  pub length-erased : length (erased l s) ≡ length l
  unfolding erased
  length-erased = simp (length-append, length-blank, length-take, length-drop, length-sector) (omega arith)

  below : (j : ℕ) → j < length l → j < s * 4096 → get_or (erased l s) j 0 ≡ get_or l j 0
  unfolding erased
  below j h g =
      let n = length-take (s * 4096) l in
      get_or-append (take (s * 4096) l) _ 0 j (omega arith) ∙ get_or-take (s * 4096) l j 0 g

  above : (j : ℕ) → j < length l → s * 4096 + 4096 ≤ j → get_or (erased l s) j 0 ≡ get_or l j 0
  unfolding erased
  above j h g =
      let n = length-take (s * 4096) l in
      let b = length-blank (length (sector s l)) in
      let q = length-sector s l in
      let i = j - (s * 4096 + 4096) in
      let e : j ≡ length (take (s * 4096) l) + (length (blank (length (sector s l))) + i) = omega arith in
      let z : s * 4096 + 4096 + i ≡ j = omega arith in
      ap (λ (x : ℕ). get_or (take (s * 4096) l ++ (blank (length (sector s l)) ++ drop (s * 4096 + 4096) l)) x 0) e
      ∙ get_or-append-add (take (s * 4096) l) _ _ 0
      ∙ get_or-append-add (blank (length (sector s l))) _ i 0
      ∙ get_or-drop (s * 4096 + 4096) l i 0
      ∙ ap (λ (x : ℕ). get_or l x 0) z

  pub erased-other : (j : ℕ) → (j < s * 4096) ⊎ (s * 4096 + 4096 ≤ j) → get_or (erased l s) j 0 ≡ get_or l j 0
  erased-other j o = ⊎_elim (λ h. past h) (λ h. ⊎_elim (λ g. below j h g) (λ g. above j h g) o) (le-or-gt (length l) j)
    where
      past : length l ≤ j → get_or (erased l s) j 0 ≡ get_or l j 0
      past h = let n = length-erased in get_or-eq_default (erased l s) 0 (omega arith) ∙ sym (get_or-eq_default l 0 h)

  pub sector-erased : s * 4096 + 4096 ≤ length l → sector s (erased l s) ≡ blank 4096
  unfolding erased sector
  sector-erased h =
      let n : length (take (s * 4096) l) ≡ s * 4096 = length-take-le (s * 4096) l (omega arith) in
      let m : length (take 4096 (drop (s * 4096) l)) ≡ 4096 = simp (length-take, length-drop) (omega arith) in
      rw (m, drop_at (take (s * 4096) l) (blank 4096 ++ drop (s * 4096 + 4096) l) (s * 4096) n)
      (take_at (blank 4096) (drop (s * 4096 + 4096) l) 4096 (length-blank 4096))

  -- after an erasure the sector is blank
  pub erased-blank : s * 4096 + 4096 ≤ length l → sector s (run (erase s ∷ []) l) ≡ blank 4096
  unfolding run apply
  erased-blank h = sector-erased h

  -- a callee that was lent the sector left it blank
  pub lent-erase : (last : List ℕ) → last ≡ blank (length (mid_of (s * 4096) (s * 4096 + 4096 - s * 4096) l))
      → put_mid (s * 4096) (s * 4096 + 4096 - s * 4096) l last ≡ erased l s
  unfolding erased sector
  lent-erase last e =
      let n : s * 4096 + 4096 - s * 4096 ≡ 4096 = omega arith in
      rw (e, Post-is (s * 4096) (s * 4096 + 4096) l (omega arith), n)
