-- Text is put behind text, and clipped once. Assumes nothing.
use mathlib.Core.Path.{◌≡◌, refl, ap, ◌∙◌, subst}
use mathlib.Core.List.{List, [], ◌∷◌, ◌++◌, append_assoc}
use Prim.Native.Nat.{ℕ, zero, suc, ◌+◌, ◌-◌}
use native.Mathlib.Omega.{arith}
use lib.ListN.{length, take}
use lib.Seq.{drop-drop}
use Rattle.std.proofs.lemmas.Grind.{common_steps}
use Rattle.text.specs.declared.Text.{Text}
use Rattle.text.specs.Text.{Put}
use Rattle.text.specs.Grown.{Grown}

-- what is clipped twice is clipped once
clip_again : (n : ℕ) (xs s : List ℕ) → take n (take n xs ++ s) ≡ take n (xs ++ s)
clip_again zero xs s = refl
clip_again (suc n) [] s = refl
clip_again (suc n) (x ∷ xs) s = ap (λ (l : List ℕ). x ∷ l) (clip_again n xs s)

put_both : {xs : List ℕ} {at : ℕ} {s ys : List ℕ} {r : ℕ} {t zs : List ℕ} {to : ℕ} → Put xs at s ys r → Put ys r t zs to → Put xs at (s ++ t) zs to
put_both {xs} {at} {s} {ys} {r} {t} {zs} {to} p q =
    let k : r + (to - r) ≡ to = omega (arith, q.onward) in
    record {
      room = q.room ∙ p.room;
      onward = omega arith;
      fits = q.fits;
      text = cc (p.text, q.text, p.room, clip_again (length xs) (take at xs ++ s) t, append_assoc (take at xs) s t);
      rest = cc (p.rest, q.rest, drop-drop (to - r) r xs, drop-drop (to - r) r ys);
    }

pub grown-nothing : (a : Text) → Grown a [] a
grown-nothing a =
    record {
      same_reference = refl;
      put = record { room = refl; onward = omega arith; fits = a.fits; text = grind (arith, common_steps); rest = refl };
    }

pub grown_both : {a b c : Text} {s t : List ℕ} → Grown a s b → Grown b t c → Grown a (s ++ t) c
grown_both p q = record { same_reference = q.same_reference ∙ p.same_reference; put = put_both p.put q.put }

pub grown_as : {a b : Text} {s t : List ℕ} → s ≡ t → Grown a s b → Grown a t b
grown_as {a} {b} e p = subst (λ (u : List ℕ). Grown a u b) e p

-- a text that began at the start of the bytes xs, which became ys
pub grown_whole : {a b : Text} {xs s ys : List ℕ} → a.out.now ≡ xs → a.at ≡ 0 → ys ≡ b.out.now → Grown a s b → Put xs 0 s ys b.at
grown_whole {a} {b} {xs} {s} {ys} e z f p = rw f (rw (e, z) at p.put)
