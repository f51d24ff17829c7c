-- Those that pass are put in front, one after the other, in the list itself. Assumes nothing.
use mathlib.Core.Path.{◌≡◌, sym, ap, ap₂, ◌∙◌}
use mathlib.Core.Bool.{Bool, true, false}
use mathlib.Core.List.{List, [], ◌∷◌, ◌++◌, append-nil}
use Prim.Native.Nat.{ℕ, ◌+◌, ◌≤◌, ◌<◌}
use native.Mathlib.Omega.{arith}
use native.Mathlib.Numerals.{add-one}
use lib.ListN.{length, take, drop, get_or, set}
use lib.Seq.{take-suc, take-suc-set, take-set-lt, drop-set-lt, drop-drop, get_or-drop, get_or-take}
use Rattle.lists.specs.Lists.{keep}
use Rattle.lists.proofs.Search.{keep_append}

module _ (P : ℕ → Bool) (r t : List ℕ) (n i k : ℕ) (some : i < n) (room : n ≤ length t) (low : k ≤ i) (size : length r ≡ length t)
    (rest : drop i (take n r) ≡ drop i (take n t)) (front : take k r ≡ keep P (take i t)) where
  pub read : get_or r i 0 ≡ get_or t i 0
  read =
      let e : i + 0 ≡ i = omega arith in
      let at : (x : List ℕ) → get_or (drop i (take n x)) 0 0 ≡ get_or x i 0 = λ x. get_or-drop i (take n x) 0 0 ∙ ap (λ (m : ℕ). get_or (take n x) m 0) e ∙ get_or-take n x i 0 some in
      sym (at r) ∙ ap (λ (x : List ℕ). get_or x 0 0) rest ∙ at t

  one_more : keep P (take (i + 1) t) ≡ keep P (take i t) ++ keep P (get_or t i 0 ∷ [])
  one_more = rw (add-one i) (ap (keep P) (take-suc t i 0 (omega arith)) ∙ keep_append P (take i t) (get_or t i 0 ∷ []))

  pub rest-past : drop (i + 1) (take n r) ≡ drop (i + 1) (take n t)
  rest-past = sym (drop-drop 1 i (take n r)) ∙ ap (drop 1) rest ∙ drop-drop 1 i (take n t)

  pub front-past : P (get_or t i 0) ≡ false → take k r ≡ keep P (take (i + 1) t)
  unfolding keep
  front-past e = front ∙ sym (one_more ∙ rw e (append-nil (keep P (take i t))))

  pub rest_put : drop (i + 1) (take n (set r k (get_or r i 0))) ≡ drop (i + 1) (take n t)
  rest_put = ap (drop (i + 1)) (take-set-lt n r k (get_or r i 0) (omega arith)) ∙ drop-set-lt (i + 1) (take n r) k (get_or r i 0) (omega arith) ∙ rest-past

  pub front-put : P (get_or t i 0) ≡ true → take (k + 1) (set r k (get_or r i 0)) ≡ keep P (take (i + 1) t)
  unfolding keep
  front-put e =
      rw (add-one k) (take-suc-set r k (get_or r i 0) (omega arith))
      ∙ ap₂ (λ (x : List ℕ) (v : ℕ). x ++ (v ∷ [])) front read
      ∙ sym (one_more ∙ rw e)
