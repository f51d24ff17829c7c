-- Beginnings of lists of steps: where the power fails in a list, and what of each step holds of a beginning. Assumes nothing.
use mathlib.Core.Path.{◌≡◌, refl, ap, ◌∙◌}
use mathlib.Core.Logic.{◌⊎◌, inl, inr, ⊎_elim}
use mathlib.Core.List.{List, [], ◌∷◌, ◌++◌}
use Prim.Native.Nat.{ℕ, zero, suc}
use lib.ListN.{take}
use Rattle.flash.specs.Step.{Step, program, erase}
use Rattle.flash.specs.Torn.{Torn, Begins}
use Rattle.flash.proofs.Every.{Every}
use Rattle.flash.proofs.Frame.{In, AllIn}
use Rattle.flash.proofs.Lent.{shift1, shift, Fit, AllFit}

-- ---- which lists are beginnings

-- the first so many steps are one, without a torn step: what a call leaves whose allowance is used up
pub begins_take : (k : ℕ) (ss : List Step) → Begins (take k ss) ss
unfolding Begins
begins_take zero ss = tt
begins_take (suc k) [] = tt
begins_take (suc k) (s ∷ ss) = inl (refl, begins_take k ss)

pub begins_whole : (ss : List Step) → Begins ss ss
unfolding Begins
begins_whole [] = tt
begins_whole (s ∷ ss) = inl (refl, begins_whole ss)

-- a beginning of the first so many is one of the list: a power failure inside a call with an allowance
pub begins_within : (k : ℕ) (cs ss : List Step) → Begins cs (take k ss) → Begins cs ss
unfolding Begins
begins_within k [] ss b = tt
begins_within zero (c ∷ cs) ss b = absurd b
begins_within (suc k) (c ∷ cs) [] b = absurd b
begins_within (suc k) (c ∷ cs) (s ∷ ss) (inl (e, b)) = inl (e, begins_within k cs ss b)
begins_within (suc k) (c ∷ cs) (s ∷ ss) (inr t) = inr t

-- ---- where it ends

-- no list is begun but by none
pub begins_none : (cs : List Step) → Begins cs [] → cs ≡ []
unfolding Begins
begins_none [] b = refl
begins_none (c ∷ cs) b = absurd b

-- nothing of the list was made, its first step was, or a part of that
pub begins_cons : (cs : List Step) (s : Step) (ss : List Step) → Begins cs (s ∷ ss)
    → (cs ≡ []) ⊎ (((ds : List Step) × (cs ≡ s ∷ ds) × Begins ds ss) ⊎ ((c : Step) × (cs ≡ c ∷ []) × Torn c s))
unfolding Begins
begins_cons [] s ss b = inl refl
begins_cons (c ∷ cs) s ss (inl (e, b)) = inr (inl (cs, ap (λ (x : Step). x ∷ cs) e, b))
begins_cons (c ∷ cs) s ss (inr (e, t)) = inr (inr (c, ap (λ (x : List Step). c ∷ x) e, t))

-- "Erasing a sector stays whole"
erase_whole : (s : ℕ) (c : Step) → Torn c (erase s) → ⊥
unfolding Torn
erase_whole s (program a c0 c1 c2 c3) t = t
erase_whole s (erase u) t = t

-- so the power fails before an erasure, or after it
pub begins_erase : (cs : List Step) (s : ℕ) (ss : List Step) → Begins cs (erase s ∷ ss) → (cs ≡ []) ⊎ ((ds : List Step) × (cs ≡ erase s ∷ ds) × Begins ds ss)
begins_erase cs s ss b = ⊎_elim (λ e. inl e) (λ e. ⊎_elim (λ d. inr d) (λ d. absurd (erase_whole s d.0 d.2)) e) (begins_cons cs (erase s) ss b)

-- in the first of two lists, or past it
pub begins_append : (cs a b : List Step) → Begins cs (a ++ b) → Begins cs a ⊎ ((d : Step) × (ds : List Step) × (cs ≡ a ++ (d ∷ ds)) × Begins (d ∷ ds) b)
unfolding Begins
begins_append [] a b h = inl tt
begins_append (c ∷ cs) [] b h = inr (c, cs, refl, h)
begins_append (c ∷ cs) (s ∷ a) b (inl (e, h)) =
    ⊎_elim (λ k. inl (inl (e, k))) (λ k. inr (k.0, k.1, ap (λ (x : Step). x ∷ cs) e ∙ ap {B = List Step} (λ (x : List Step). s ∷ x) k.2, k.3)) (begins_append cs a b h)
begins_append (c ∷ cs) (s ∷ a) b (inr t) = inl (inr t)

-- ---- what holds of each of its steps

-- what each step of the list says of itself whole and torn
pub begins_every : (P Q : Step → Type 0) → ((s : Step) → P s → Q s) → ((c s : Step) → Torn c s → P s → Q c) → (cs ss : List Step) → Begins cs ss → Every P ss → Every Q cs
unfolding Begins Every
begins_every P Q w t [] ss b p = tt
begins_every P Q w t (c ∷ cs) [] b p = absurd b
begins_every P Q w t (c ∷ cs) (s ∷ ss) (inl (e, b)) p = (rw e (w s p.0), begins_every P Q w t cs ss b p.1)
begins_every P Q w t (c ∷ cs) (s ∷ ss) (inr (e, r)) p = rw e (t c s r p.0, tt)

-- a torn step touches the same bytes
torn_in : (a b : ℕ) (c s : Step) → Torn c s → In a b s → In a b c
unfolding Torn
torn_in a b (program x c0 c1 c2 c3) (program at b0 b1 b2 b3) t k = rw t.0 k
torn_in a b (program x c0 c1 c2 c3) (erase s) t k = absurd t
torn_in a b (erase u) s t k = absurd t

pub begins_in : (a b : ℕ) (cs ss : List Step) → Begins cs ss → AllIn a b ss → AllIn a b cs
begins_in a b cs ss h i = begins_every (In a b) (In a b) (λ s k. k) (torn_in a b) cs ss h i

torn_fit : (n : ℕ) (c s : Step) → Torn c s → Fit n s → Fit n c
unfolding Torn
torn_fit n (program x c0 c1 c2 c3) (program at b0 b1 b2 b3) t k = rw t.0 k
torn_fit n (program x c0 c1 c2 c3) (erase s) t k = absurd t
torn_fit n (erase u) s t k = absurd t

pub begins_fit : (n : ℕ) (cs ss : List Step) → Begins cs ss → AllFit n ss → AllFit n cs
begins_fit n cs ss h f = begins_every (Fit n) (Fit n) (λ s k. k) (torn_fit n) cs ss h f

-- ---- steps on a part of the image

torn-shift : (a : ℕ) (c s : Step) → Torn c (shift1 a s) → (d : Step) × (c ≡ shift1 a d) × Torn d s
unfolding Torn
torn-shift a (program x c0 c1 c2 c3) (program at b0 b1 b2 b3) t = (program at c0 c1 c2 c3, rw t.0, (refl, t.1, t.2, t.3, t.4))
torn-shift a (program x c0 c1 c2 c3) (erase s) t = absurd t
torn-shift a (erase u) s t = absurd t

-- a beginning of shifted steps is a beginning, shifted
pub begins_shift : (a : ℕ) (cs ss : List Step) → Begins cs (shift a ss) → (ds : List Step) × (cs ≡ shift a ds) × Begins ds ss
unfolding Begins
begins_shift a [] ss b = ([], refl, tt)
begins_shift a (c ∷ cs) [] b = absurd b
begins_shift a (c ∷ cs) (s ∷ ss) (inl (e, b)) = let r = begins_shift a cs ss b in (s ∷ r.0, ap (λ (x : Step). x ∷ cs) e ∙ ap {B = List Step} (λ (x : List Step). shift1 a s ∷ x) r.1, inl (refl, r.2))
begins_shift a (c ∷ cs) (s ∷ ss) (inr (e, t)) = let r = torn-shift a c s t in (r.0 ∷ [], ap {B = List Step} (λ (x : List Step). c ∷ x) e ∙ ap (λ (x : Step). x ∷ []) r.1, inr (refl, r.2))
