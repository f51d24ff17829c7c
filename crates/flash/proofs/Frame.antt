-- Steps change the bytes that they name and no others, so what is read elsewhere stays, at the end and wherever they are cut. Assumes nothing.
use mathlib.Core.Path.{◌≡◌, refl, sym, ◌∙◌}
use mathlib.Core.Logic.{◌⊎◌, inl, inr, ⊎_elim}
use mathlib.Core.List.{List, [], ◌∷◌}
use Prim.Native.Nat.{ℕ, ◌+◌, ◌*◌, ◌≤◌, ◌<◌}
use native.Mathlib.Omega.{arith}
use lib.ListN.{length, get_or, take, drop, length-take, length-drop}
use lib.Seq.{ext_get_or, get_or-take, get_or-drop, take_all}
use Rattle.word.specs.Number.{part}
use Rattle.flash.specs.Step.{Step, program, erase, run, apply, sector}
use Rattle.flash.specs.Did.{Did, Ran}
use Rattle.flash.proofs.Order.{le-or-gt}
use Rattle.flash.proofs.Bytes.{length-and_word, word-other}
use Rattle.flash.proofs.Erased.{length-erased, erased-other}
use Rattle.flash.proofs.Every.{Every, every_one, every_take}

-- the step touches bytes from a up to, not including, b alone
abbrev pub In : ℕ → ℕ → Step → Type 0
In a b (program at b0 b1 b2 b3) = (a ≤ at) × (at + 4 ≤ b)
In a b (erase s) = (a ≤ s * 4096) × (s * 4096 + 4096 ≤ b)

abbrev pub AllIn : ℕ → ℕ → List Step → Type 0
AllIn a b ss = Every (In a b) ss

-- an erasure touches its sector
pub erase_in : (s : ℕ) → AllIn (s * 4096) (s * 4096 + 4096) (erase s ∷ [])
erase_in s = every_one (In (s * 4096) (s * 4096 + 4096)) (erase s) (omega arith, omega arith)

-- the byte j lies outside
abbrev pub Outside : ℕ → ℕ → ℕ → Type 0
Outside a b j = (j < a) ⊎ (b ≤ j)

-- ---- the length is kept

pub length-apply : (s : Step) (l : List ℕ) → length (apply s l) ≡ length l
unfolding apply
length-apply (program at b0 b1 b2 b3) l = length-and_word l at b0 b1 b2 b3
length-apply (erase s) l = length-erased l s

pub length_run : (ss : List Step) (l : List ℕ) → length (run ss l) ≡ length l
unfolding run
length_run [] l = refl
length_run (s ∷ ss) l = length_run ss (apply s l) ∙ length-apply s l

-- two images of one length that agree from a on for n bytes have the same part there
pub part_same : (a n : ℕ) (l m : List ℕ) → length m ≡ length l → ((j : ℕ) → a ≤ j → j < a + n → get_or m j 0 ≡ get_or l j 0) → part m a n ≡ part l a n
part_same a n l m e f =
    ext_get_or 0 _ _ (simp (length-take, length-drop, e)) (λ i h.
    let b : i < n = omega (arith, simp (length-take, length-drop) at h) in
    rw (get_or-take n (drop a m) i 0 b, get_or-take n (drop a l) i 0 b, get_or-drop a m, get_or-drop a l) (f (a + i) (omega arith) (omega arith)))

-- ---- steps within [a, b)

module _ (a b : ℕ) where
  pub apply-other : (s : Step) (l : List ℕ) (j : ℕ) → In a b s → Outside a b j → get_or (apply s l) j 0 ≡ get_or l j 0
  unfolding apply
  apply-other (program at b0 b1 b2 b3) l j h o = word-other l at b0 b1 b2 b3 j (⊎_elim (λ g. inl (omega arith)) (λ g. inr (omega arith)) o)
  apply-other (erase s) l j h o = erased-other l s j (⊎_elim (λ g. inl (omega arith)) (λ g. inr (omega arith)) o)

  pub run-other : (ss : List Step) (l : List ℕ) (j : ℕ) → AllIn a b ss → Outside a b j → get_or (run ss l) j 0 ≡ get_or l j 0
  unfolding run Every
  run-other [] l j h o = refl
  run-other (s ∷ ss) l j h o = run-other ss (apply s l) j h.1 o ∙ apply-other s l j h.0 o

  -- they leave a part that does not meet [a, b)
  pub part-kept : (p n : ℕ) (ss : List Step) (l : List ℕ) → AllIn a b ss → (p + n ≤ a) ⊎ (b ≤ p) → part (run ss l) p n ≡ part l p n
  part-kept p n ss l h o =
      part_same p n l (run ss l) (length_run ss l) (λ j u v. run-other ss l j h (⊎_elim (λ g. inl (omega arith)) (λ g. inr (omega arith)) o))

  -- what stands before a, and from b on
  pub take-kept : (ss : List Step) (l : List ℕ) → AllIn a b ss → take a (run ss l) ≡ take a l
  take-kept ss l h = part-kept 0 a ss l h (inl (omega arith))

  pub drop-kept : (ss : List Step) (l : List ℕ) → AllIn a b ss → drop b (run ss l) ≡ drop b l
  drop-kept ss l h =
      let n = length_run ss l in
      let all : (m : List ℕ) → length m ≡ length l → part m b (length l) ≡ drop b m = λ m e. take_all (length l) (drop b m) (simp length-drop (omega arith)) in
      sym (all (run ss l) n) ∙ part-kept b (length l) ss l h (inr (omega arith)) ∙ all l refl

  -- what a call did, cut anywhere or not, leaves such a part
  pub did-kept : {ss : List Step} {k : ℕ} {l m : List ℕ} {r : Ran} (p n : ℕ) → AllIn a b ss → (p + n ≤ a) ⊎ (b ≤ p) → Did ss k l m r → part m p n ≡ part l p n
  did-kept {ss} {k} {l} p n h o d = rw d.image (part-kept p n (take k ss) l (every_take (In a b) k ss h) o)

-- two sectors do not meet
pub apart : (s t : ℕ) → (s ≡ t → ⊥) → (s * 4096 + 4096 ≤ t * 4096) ⊎ (t * 4096 + 4096 ≤ s * 4096)
apart s t ne = ⊎_elim (λ g. inl (omega arith)) (λ g. inr (omega arith)) (le-or-gt s t)

-- steps in sector t leave sector s
pub sector-kept : (s t : ℕ) (ss : List Step) (l : List ℕ) → (s ≡ t → ⊥) → AllIn (t * 4096) (t * 4096 + 4096) ss → sector s (run ss l) ≡ sector s l
unfolding sector
sector-kept s t ss l ne h = part-kept (t * 4096) (t * 4096 + 4096) (s * 4096) 4096 ss l h (apart s t ne)

-- and so does what a call did there
pub did-sector : {ss : List Step} {k : ℕ} {l m : List ℕ} {r : Ran} (s t : ℕ) → (s ≡ t → ⊥) → AllIn (t * 4096) (t * 4096 + 4096) ss → Did ss k l m r → sector s m ≡ sector s l
unfolding sector
did-sector s t ne h d = did-kept (t * 4096) (t * 4096 + 4096) (s * 4096) 4096 h (apart s t ne) d
