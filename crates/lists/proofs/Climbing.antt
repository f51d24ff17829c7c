-- The numbers of a list ascending are the one strictly ascending list with its members. Assumes nothing.
use mathlib.Core.Path.{◌≡◌, refl, sym, ap₂, ◌∙◌}
use mathlib.Core.Logic.{inl, inr, ⊎_elim}
use mathlib.Core.Option.{Option, none, some}
use mathlib.Core.Bool.{Bool, true, false}
use mathlib.Core.List.{List, [], ◌∷◌, ◌++◌, flat_map}
use Prim.Native.Nat.{ℕ, zero, suc, ◌≤◌, ◌<◌}
use native.Mathlib.Omega.{arith}
use lib.Dec.{eqb}
use lib.ListN.{length}
use borrow.Author.Tests.{eqb-true, eqb-false}
use Rattle.lists.specs.Lists.{least_from, ascend_to, ascend_from, ascending}
use Rattle.lists.proofs.Member.{◌∈◌}
use Rattle.lists.proofs.Maps.{flat_map_none}
use Rattle.lists.proofs.Ascending.{least_some, ascending_in, in_ascending}

-- from v on, each above the one before it
abbrev pub Climbs : ℕ → List ℕ → Type 0
Climbs v [] = Unit {0}
Climbs v (w ∷ ws) = (v ≤ w) × Climbs (suc w) ws

pub climb_above : (v : ℕ) (ws : List ℕ) → Climbs v ws → (c : ℕ) → c ∈ ws → v ≤ c
climb_above v [] k c m = absurd m
climb_above v (w ∷ ws) k c (inl e) = let h = k.0 in omega arith
climb_above v (w ∷ ws) k c (inr m) = let a = k.0 in let h = climb_above (suc w) ws k.1 c m in omega arith

-- two such lists with the same members are one
pub same_climb : (v u : ℕ) (ws us : List ℕ) → Climbs v ws → Climbs u us → ((c : ℕ) → c ∈ ws → c ∈ us) → ((c : ℕ) → c ∈ us → c ∈ ws) → ws ≡ us
same_climb v u [] [] k l f b = refl
same_climb v u [] (y ∷ us) k l f b = absurd (b y (inl refl))
same_climb v u (w ∷ ws) [] k l f b = absurd (f w (inl refl))
same_climb v u (w ∷ ws) (y ∷ us) k l f b = ap₂ (λ (c : ℕ) (r : List ℕ). c ∷ r) one (same_climb (suc w) (suc y) ws us k.1 l.1 fore back)
  where
    one : w ≡ y
    one = ⊎_elim (λ e. e) (λ m. let h = climb_above (suc y) us l.1 w m in ⊎_elim (λ e. sym e) (λ n. let g = climb_above (suc w) ws k.1 y n in absurd (omega arith)) (b y (inl refl))) (f w (inl refl))

    fore : (c : ℕ) → c ∈ ws → c ∈ us
    fore c m = ⊎_elim (λ e. let h = climb_above (suc w) ws k.1 c m in let o = one in absurd (omega arith)) (λ n. n) (f c (inr m))

    back : (c : ℕ) → c ∈ us → c ∈ ws
    back c m = ⊎_elim (λ e. let h = climb_above (suc y) us l.1 c m in let o = one in absurd (omega arith)) (λ n. n) (b c (inr m))

ascend_climbs : (n v : ℕ) (cs : List ℕ) → Climbs v (ascend_from n v cs)
unfolding ascend_from ascend_to
ascend_climbs zero v cs = tt
ascend_climbs (suc n) v cs = go (least_from v cs) refl (λ w. ascend_climbs n (suc w) cs)
  where
    go : (o : Option ℕ) → least_from v cs ≡ o → ((w : ℕ) → Climbs (suc w) (ascend_from n (suc w) cs)) → Climbs v (ascend_to (λ (w : ℕ). ascend_from n (suc w) cs) o)
    go none q ih = tt
    go (some w) q ih = ((least_some v cs w q).1, ih w)

pub ascending_climbs : (cs : List ℕ) → Climbs 0 (ascending cs)
unfolding ascending
ascending_climbs cs = ascend_climbs (length cs) 0 cs

-- so only the members count
pub ascending_same : (cs ds : List ℕ) → ((c : ℕ) → c ∈ cs → c ∈ ds) → ((c : ℕ) → c ∈ ds → c ∈ cs) → ascending cs ≡ ascending ds
ascending_same cs ds f b =
    same_climb 0 0 (ascending cs) (ascending ds) (ascending_climbs cs) (ascending_climbs ds)
    (λ c m. in_ascending ds c (f c (ascending_in cs c m)))
    (λ c m. in_ascending cs c (b c (ascending_in ds c m)))

higher : (v u : ℕ) (ws : List ℕ) → Climbs v ws → ((c : ℕ) → c ∈ ws → u ≤ c) → Climbs u ws
higher v u [] k h = tt
higher v u (w ∷ ws) k h = (h w (inl refl), k.1)

-- a number below all others comes first, and one that is there already adds nothing
pub ascending_least : (c : ℕ) (cs : List ℕ) → ((d : ℕ) → d ∈ cs → c < d) → ascending (c ∷ cs) ≡ c ∷ ascending cs
ascending_least c cs h =
    same_climb 0 0 (ascending (c ∷ cs)) (c ∷ ascending cs) (ascending_climbs (c ∷ cs)) (omega arith, higher 0 (suc c) (ascending cs) (ascending_climbs cs) (λ d m. h d (ascending_in cs d m)))
    (λ d m. ⊎_elim (λ e. inl e) (λ n. inr (in_ascending cs d n)) (ascending_in (c ∷ cs) d m))
    (λ d m. in_ascending (c ∷ cs) d (⊎_elim (λ e. inl e) (λ n. inr (ascending_in cs d n)) m))

pub ascending-again : (c : ℕ) (cs : List ℕ) → c ∈ cs → ascending (c ∷ cs) ≡ ascending cs
ascending-again c cs m = ascending_same (c ∷ cs) cs (λ d n. ⊎_elim (λ e. rw e m) (λ k. k) n) (λ d n. inr n)

-- numbers of which nothing is made may be left out
module _ {B : Type 0} (f : ℕ → List B) where
  flat_map_same : (w y : ℕ) (ws us : List ℕ) → w ≡ y → flat_map f ws ≡ flat_map f us → flat_map f (w ∷ ws) ≡ flat_map f (y ∷ us)
  unfolding flat_map
  flat_map_same w y ws us e q = ap₂ (λ (a : ℕ) (r : List B). f a ++ r) e q

  flat_map-past : (y : ℕ) (us : List ℕ) → f y ≡ [] → flat_map f (y ∷ us) ≡ flat_map f us
  unfolding flat_map
  flat_map-past y us e = rw e

  pub climb_more : (v u : ℕ) (ws us : List ℕ) → Climbs v ws → Climbs u us → ((c : ℕ) → c ∈ ws → c ∈ us) → ((c : ℕ) → c ∈ us → (c ∈ ws → ⊥) → f c ≡ []) → flat_map f ws ≡ flat_map f us
  unfolding flat_map
  climb_more v u [] us k l sub idle = sym (flat_map_none f us (λ c m. idle c m (λ n. n)))
  climb_more v u (w ∷ ws) [] k l sub idle = absurd (sub w (inl refl))
  climb_more v u (w ∷ ws) (y ∷ us) k l sub idle =
      go (eqb w y) refl
      (λ p q. climb_more (suc w) (suc y) ws us k.1 l.1 p q)
      (λ p q. climb_more v (suc y) (w ∷ ws) us k l.1 p q)
    where
      above_w : (c : ℕ) → c ∈ ws → w < c
      above_w c m = climb_above (suc w) ws k.1 c m

      above_y : (c : ℕ) → c ∈ us → y < c
      above_y c m = climb_above (suc y) us l.1 c m

      go : (b : Bool) → eqb w y ≡ b
          → (((c : ℕ) → c ∈ ws → c ∈ us) → ((c : ℕ) → c ∈ us → (c ∈ ws → ⊥) → f c ≡ []) → flat_map f ws ≡ flat_map f us)
          → (((c : ℕ) → c ∈ (w ∷ ws) → c ∈ us) → ((c : ℕ) → c ∈ us → (c ∈ (w ∷ ws) → ⊥) → f c ≡ []) → flat_map f (w ∷ ws) ≡ flat_map f us)
          → flat_map f (w ∷ ws) ≡ flat_map f (y ∷ us)
      go true q ih jh =
          let e = eqb-true w y q in
          flat_map_same w y ws us e (ih
          (λ c m. ⊎_elim (λ d. let h = above_w c m in absurd (omega arith)) (λ n. n) (sub c (inr m)))
          (λ c m out. idle c (inr m) (λ n. ⊎_elim (λ d. let h = above_y c m in omega arith) (λ g. out g) n)))
      go false q ih jh =
          let d : (w ≡ y → ⊥) = eqb-false w y q in
          let far : y < w = ⊎_elim (λ e. absurd (d e)) (λ m. above_y w m) (sub w (inl refl)) in
          jh
          (λ c m. ⊎_elim (λ e. let h = climb_low c m in absurd (omega arith)) (λ n. n) (sub c m))
          (λ c m out. idle c (inr m) out)
          ∙ sym (flat_map-past y us (idle y (inl refl) (λ n. let h = climb_low y n in omega arith)))
        where
          climb_low : (c : ℕ) → c ∈ (w ∷ ws) → w ≤ c
          climb_low c (inl e) = omega arith
          climb_low c (inr m) = let h = above_w c m in omega arith

  -- so too where more numbers are taken in order
  pub ascending_more : (cs ds : List ℕ) → ((c : ℕ) → c ∈ cs → c ∈ ds) → ((c : ℕ) → c ∈ ds → (c ∈ cs → ⊥) → f c ≡ []) → flat_map f (ascending cs) ≡ flat_map f (ascending ds)
  ascending_more cs ds sub idle =
      climb_more 0 0 (ascending cs) (ascending ds) (ascending_climbs cs) (ascending_climbs ds)
      (λ c m. in_ascending ds c (sub c (ascending_in cs c m)))
      (λ c m out. idle c (ascending_in ds c m) (λ n. out (in_ascending cs c n)))
