-- The table's search, a slot at a time; and what a slot that is filled changes of it. Assumes nothing.
use Rattle.std.specs.Prelude.{Option, Some, None, unwrap_or, IfSome}
use Rattle.std.specs.Bool.{then_some}
use mathlib.Core.Path.{◌≡◌, refl, sym, ap, ◌∙◌}
use mathlib.Core.Bool.{Bool, true, false, cond, not, ◌||◌}
use mathlib.Core.List.{List}
use Prim.Native.Nat.{ℕ, zero, suc, ◌+◌, ◌-◌, ◌%◌, ◌<◌, ◌≤◌}
use native.Mathlib.Omega.{arith}
use lib.Dec.{eqb, ltb}
use lib.ListN.{length, get_or, set, get_or-eq_default}
use lib.Seq.{get_or-set_same, get_or-set_other}
use borrow.Author.Tests.{ne_eqb, eqb-true, eqb-false, ltb-false, ltb-true}
use Rattle.page.proofs.Tests.{either_second, neither_first, neither-second}
use Rattle.slots.specs.Names.{name_of, slot_in, slot_of}
use Rattle.slots.specs.Slots.{EachSlot, hit, place_in, raw_at, stop, stop_of, told}

pub slot-below : (k : ℕ) → slot_of k < 4096
unfolding slot_of slot_in
slot-below k = omega arith

-- a slot that is not free is one of the table's
pub slot_in_lem : (t : List ℕ) (i : ℕ) → 1 ≤ get_or t i 0 → i < length t
slot_in_lem t i h = go (ltb i (length t)) refl
  where
    go : (b : Bool) → ltb i (length t) ≡ b → i < length t
    go true e = ltb-true i (length t) e
    go false e = let z = get_or-eq_default t 0 (ltb-false i (length t) e) in absurd (omega arith)

module _ (t l : List ℕ) (k : ℕ) where
  -- the search ends at slot i
  abbrev pub ends : ℕ → Bool
  ends i = eqb (get_or t i 0) 0 || hit l k (get_or t i 0)

  -- ---- one slot, as the code counts
  module _ (n i : ℕ) (h : n < 64) where
    one_less : 64 - n ≡ suc (64 - (n + 1))
    one_less = omega arith

    pub stop_here : ends i ≡ true → stop t l k (64 - n) i ≡ Some i
    unfolding stop
    stop_here e = rw (one_less, e)

    pub stop_on : ends i ≡ false → stop t l k (64 - n) i ≡ stop t l k (64 - (n + 1)) ((i + 1) % 4096)
    unfolding stop
    stop_on e = rw (one_less, e)

  pub stop_end : (i : ℕ) → stop t l k 0 i ≡ None
  unfolding stop
  stop_end i = refl

  -- ---- the slot at which it ends
  stop_at : (n i : ℕ) → i < 4096 → (s : ℕ) → stop t l k n i ≡ Some s → (s < 4096) × (ends s ≡ true)
  unfolding stop
  stop_at zero i m s e = cc
  stop_at (suc n) i m s e = go (ends i) refl e (stop_at n ((i + 1) % 4096) (omega arith) s)
    where
      go : (b : Bool) → ends i ≡ b → cond b (Some i) (stop t l k n ((i + 1) % 4096)) ≡ Some s → (stop t l k n ((i + 1) % 4096) ≡ Some s → (s < 4096) × (ends s ≡ true)) → (s < 4096) × (ends s ≡ true)
      go true q e ih = let z : i ≡ s = cc in rw (← z) (m, q)
      go false q e ih = ih e

  pub stop_below : (s : ℕ) → stop_of t l k ≡ Some s → s < 4096
  unfolding stop_of
  stop_below s e = (stop_at 64 (slot_of k) (slot-below k) s e).0

  pub told_none : stop_of t l k ≡ None → told t l k ≡ 0
  unfolding told
  told_none e = rw e

  pub told_some : (s : ℕ) → stop_of t l k ≡ Some s → told t l k ≡ get_or t s 0
  unfolding told
  told_some s e = rw e

  -- ---- what holds of each hit that stands in a slot holds of what a search finds
  told_each : (P : ℕ → Type 0) → ((i : ℕ) → 1 ≤ get_or t i 0 → hit l k (get_or t i 0) ≡ true → P (get_or t i 0)) → 1 ≤ told t l k → P (told t l k)
  unfolding told stop_of
  told_each P each h = go (stop t l k 64 (slot_of k)) refl h
    where
      at : (s : ℕ) → 1 ≤ get_or t s 0 → (b : Bool) → eqb (get_or t s 0) 0 ≡ b → (b || hit l k (get_or t s 0)) ≡ true → hit l k (get_or t s 0) ≡ true
      at s h true q e = absurd (omega (arith, eqb-true (get_or t s 0) 0 q))
      at s h false q e = e

      go : (o : Option ℕ) → stop t l k 64 (slot_of k) ≡ o → 1 ≤ place_in t o → P (place_in t o)
      go None e h = absurd (omega arith)
      go (Some s) e h = each s h (at s h (eqb (get_or t s 0) 0) refl (stop_at 64 (slot_of k) (slot-below k) s e).1)

  pub told_name : 1 ≤ told t l k → name_of (raw_at l (told t l k)) ≡ k
  told_name h = eqb-true _ k (told_each (λ (p : ℕ). hit l k p ≡ true) (λ i g e. e) h)

  pub told_slot : (P : ℕ → Type 0) → EachSlot P t → 1 ≤ told t l k → P (told t l k)
  told_slot P each h = told_each P (λ i g e. each i g) h

-- a place that is not 0, as an answer
pub found_place : (P : ℕ → Type 0) (n p : ℕ) → n ≡ p → (1 ≤ p → P p) → (unwrap_or (then_some (not (eqb p 0)) p) 0 ≡ n) × IfSome (then_some (not (eqb p 0)) p) P
found_place P n zero e h = (sym e, tt)
found_place P n (suc p) e h = rw (ne_eqb (suc p) 0 (λ z. omega arith)) (sym e, h (omega arith))

-- ---- a free slot is filled with place v
pub each_set : (P : ℕ → ℕ → Type 0) (t : List ℕ) (s v : ℕ) → s < length t → ((i : ℕ) → 1 ≤ get_or t i 0 → P i (get_or t i 0)) → P s v → (i : ℕ) → 1 ≤ get_or (set t s v) i 0 → P i (get_or (set t s v) i 0)
each_set P t s v room each new i h = go (eqb i s) refl
  where
    go : (b : Bool) → eqb i s ≡ b → P i (get_or (set t s v) i 0)
    go true q = rw (eqb-true i s q, get_or-set_same t s v 0 room) new
    go false q =
        let o = get_or-set_other t s i v 0 (eqb-false i s q) in
        rw o (each i (rw o at h))

module _ (t l : List ℕ) (k s v : ℕ) (free : get_or t s 0 ≡ 0) where
  -- another slot, which is not free, stays
  other-slot : (i : ℕ) → (get_or t i 0 ≡ 0 → ⊥) → get_or (set t s v) i 0 ≡ get_or t i 0
  other-slot i e = get_or-set_other t s i v 0 (λ q. e (ap (λ (j : ℕ). get_or t j 0) q ∙ free))

  -- a search that passes a slot passes it still
  passes : (i : ℕ) → ends t l k i ≡ false → ends (set t s v) l k i ≡ false
  passes i e =
      let some = eqb-false (get_or t i 0) 0 (neither_first _ _ e) in
      rw (other-slot i some, ne_eqb (get_or t i 0) 0 some) (neither-second _ _ e)

  -- where it ended at an item it goes as it went
  stop-kept : (n i : ℕ) → 1 ≤ place_in t (stop t l k n i) → stop (set t s v) l k n i ≡ stop t l k n i
  unfolding stop
  stop-kept zero i h = refl
  stop-kept (suc n) i h = go (ends t l k i) refl h (stop-kept n ((i + 1) % 4096))
    where
      go : (b : Bool) → ends t l k i ≡ b → 1 ≤ place_in t (cond b (Some i) (stop t l k n ((i + 1) % 4096))) → (1 ≤ place_in t (stop t l k n ((i + 1) % 4096)) → stop (set t s v) l k n ((i + 1) % 4096) ≡ stop t l k n ((i + 1) % 4096))
          → stop (set t s v) l k (suc n) i ≡ cond b (Some i) (stop t l k n ((i + 1) % 4096))
      go true q g ih = rw (other-slot i (λ z. omega arith), q)
      go false q g ih = rw (passes i q) (ih g)

  pub kept : 1 ≤ told t l k → (stop_of (set t s v) l k ≡ stop_of t l k) × (told (set t s v) l k ≡ told t l k)
  unfolding told stop_of
  kept h = let e = stop-kept 64 (slot_of k) h in (e, rw e (go (stop t l k 64 (slot_of k)) h))
    where
      go : (o : Option ℕ) → 1 ≤ place_in t o → place_in (set t s v) o ≡ place_in t o
      go None h = refl
      go (Some i) h = other-slot i (λ z. omega arith)

  -- where the search for the name of v ends at the free slot, it ends there once v stands in it
  module _ (named : hit l k v ≡ true) (room : s < length t) where
    stop-filled : (n i : ℕ) → stop t l k n i ≡ Some s → stop (set t s v) l k n i ≡ Some s
    unfolding stop
    stop-filled zero i e = cc
    stop-filled (suc n) i e = go (ends t l k i) refl e (stop-filled n ((i + 1) % 4096))
      where
        go : (b : Bool) → ends t l k i ≡ b → cond b (Some i) (stop t l k n ((i + 1) % 4096)) ≡ Some s → (stop t l k n ((i + 1) % 4096) ≡ Some s → stop (set t s v) l k n ((i + 1) % 4096) ≡ Some s)
            → stop (set t s v) l k (suc n) i ≡ Some s
        go true q f ih = let z : i ≡ s = cc in rw (z, get_or-set_same t s v 0 room, either_second (eqb v 0) (hit l k v) named)
        go false q f ih = rw (passes i q) (ih f)

    pub new : stop_of t l k ≡ Some s → (stop_of (set t s v) l k ≡ Some s) × (told (set t s v) l k ≡ v)
    unfolding told stop_of
    new e = let f = stop-filled 64 (slot_of k) e in (f, rw f (get_or-set_same t s v 0 room))

-- ---- where it ends at no slot, those that it looked at hold items of other names
module _ (t l : List ℕ) (k : ℕ) where
  stop-full : (n i : ℕ) → i < 4096 → stop t l k n i ≡ None → (j : ℕ) → j < n → ends t l k ((i + j) % 4096) ≡ false
  unfolding stop
  stop-full zero i m e j h = absurd (omega arith)
  stop-full (suc n) i m e j h = go (ends t l k i) refl e (stop-full n ((i + 1) % 4096) (omega arith)) j h
    where
      go : (b : Bool) → ends t l k i ≡ b → cond b (Some i) (stop t l k n ((i + 1) % 4096)) ≡ None → (stop t l k n ((i + 1) % 4096) ≡ None → (j : ℕ) → j < n → ends t l k (((i + 1) % 4096 + j) % 4096) ≡ false)
          → (j : ℕ) → j < suc n → ends t l k ((i + j) % 4096) ≡ false
      go true q f ih j h = cc
      go false q f ih zero h = let here : (i + 0) % 4096 ≡ i = omega arith in rw here q
      go false q f ih (suc j) h = let next : (i + suc j) % 4096 ≡ ((i + 1) % 4096 + j) % 4096 = omega arith in rw next (ih f j (omega arith))

  pub full : stop_of t l k ≡ None → (j : ℕ) → j < 64 → (1 ≤ get_or t ((slot_of k + j) % 4096) 0) × (hit l k (get_or t ((slot_of k + j) % 4096) 0) ≡ false)
  unfolding stop_of
  full e j h =
      let p = get_or t ((slot_of k + j) % 4096) 0 in
      let f = stop-full 64 (slot_of k) (slot-below k) e j h in
      let z = eqb-false p 0 (neither_first _ _ f) in
      (omega arith, neither-second (eqb p 0) (hit l k p) f)
