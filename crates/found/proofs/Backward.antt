-- Places gone through from the last to the first: what is left stands in front of those passed. Assumes nothing.
use mathlib.Core.Path.{◌≡◌, refl, sym, ap, ◌∙◌}
use mathlib.Core.List.{List, [], ◌∷◌, ◌++◌, append_assoc, append-nil}
use Prim.Native.Nat.{ℕ, ◌+◌}
use lib.ListN.{length, length-append, drop, drop_of_length-le}
use lib.Seq.{drop_at}
use native.Mathlib.Omega.{arith}
use Rattle.lists.specs.Each.{Each}
use Rattle.lists.proofs.Each.{each-drop}
use Rattle.std.specs.List.{push}

-- those passed
abbrev pub passed : List ℕ → List ℕ → List ℕ
passed ps left = drop (length left) ps

pub record Left (ps left : List ℕ) : Type 0 where
  pub whole : left ++ passed ps left ≡ ps

pub left_all : (ps : List ℕ) → Left ps ps
left_all ps = record { whole = rw (drop_of_length-le ps {i = length ps} (omega arith)) (append-nil ps) }

pub passed_none : (ps : List ℕ) → passed ps ps ≡ []
passed_none ps = drop_of_length-le ps {i = length ps} (omega arith)

pub passed_all : (ps left : List ℕ) → length left ≡ 0 → passed ps left ≡ ps
passed_all ps left e = ap (λ (n : ℕ). drop n ps) e

module _ (ps left next : List ℕ) (x : ℕ) (h : Left ps left) (step : left ≡ push next x) where
  parts : next ++ (x ∷ passed ps left) ≡ ps
  parts = sym (append_assoc next (x ∷ []) (passed ps left)) ∙ ap (λ (y : List ℕ). y ++ passed ps left) (sym step) ∙ h.whole

  pub passed_more : passed ps next ≡ x ∷ passed ps left
  passed_more = ap (drop (length next)) (sym parts) ∙ drop_at next (x ∷ passed ps left) (length next) refl

  pub left_more : Left ps next
  left_more = record { whole = ap (λ (y : List ℕ). next ++ y) passed_more ∙ parts }

  pub left_each : (P : ℕ → Type 0) → Each P ps → P x
  unfolding Each
  left_each P e = (rw passed_more at (each-drop P (length next) ps e)).0

  pub left_length : length next + 1 ≡ length left
  left_length = sym (ap length step ∙ length-append next (x ∷ []))
