-- Notes: none, one more, and the same of an image whose unread entries are the same. Assumes nothing.
use mathlib.Core.Path.{◌≡◌, refl, sym, ap, ◌∙◌}
use mathlib.Core.Bool.{Bool, true, false}
use mathlib.Core.List.{List}
use Prim.Native.Nat.{ℕ, ◌+◌, ◌≤◌, ◌<◌}
use native.Mathlib.Omega.{arith}
use lib.Dec.{eqb}
use lib.ListN.{get_or, set, length-set}
use lib.Seq.{get_or-set_same, get_or-set_other}
use borrow.Author.Tests.{eqb-true, eqb-false}
use Rattle.flash.specs.Step.{sector}
use Rattle.page.specs.Unread.{unread_from}
use Rattle.records.specs.Notes.{Noted, NoneNoted}

pub none_noted : {notes : List ℕ} (l : List ℕ) → NoneNoted notes → Noted notes l
none_noted l h = record { room = h.room; right = λ u k. absurd (omega (arith, h.none u)) }

module _ {notes : List ℕ} (l : List ℕ) (h : Noted notes l) where
  -- what the walk of sector u counted
  pub noted_more : (u n : ℕ) → u < 16 → n ≡ unread_from (sector u l) 126 0 → Noted (set notes u (n + 1)) l
  noted_more u n few e = record { room = simp length-set h.room; right = λ v k. go v k (eqb u v) refl }
    where
      go : (v : ℕ) → 1 ≤ get_or (set notes u (n + 1)) v 0 → (b : Bool) → eqb u v ≡ b → get_or (set notes u (n + 1)) v 0 ≡ unread_from (sector v l) 126 0 + 1
      go v k true q =
          let s : u ≡ v = eqb-true u v q in
          rw (← s) (get_or-set_same notes u (n + 1) 0 (omega (arith, h.room)) ∙ ap (λ (x : ℕ). x + 1) e)
      go v k false q =
          let o : get_or (set notes u (n + 1)) v 0 ≡ get_or notes v 0 = get_or-set_other notes u v (n + 1) 0 (λ s. eqb-false u v q (sym s)) in
          o ∙ h.right v (omega (arith, o, k))

  pub noted_same : (m : List ℕ) → ((u : ℕ) → unread_from (sector u m) 126 0 ≡ unread_from (sector u l) 126 0) → Noted notes m
  noted_same m same = record { room = h.room; right = λ u k. h.right u k ∙ ap (λ (x : ℕ). x + 1) (sym (same u)) }
