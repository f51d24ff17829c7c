-- The unread entries that the walk reaches, a turn at a time. Assumes nothing.
use mathlib.Core.Path.{◌≡◌, refl, sym, ap, ◌∙◌}
use mathlib.Core.Bool.{Bool, true, false, not, ◌&&◌}
use mathlib.Core.List.{List}
use Prim.Native.Nat.{ℕ, zero, suc, ◌+◌, ◌<◌, ◌≤◌}
use native.Mathlib.Omega.{arith}
use lib.Dec.{eqb}
use borrow.Author.Tests.{lt-ltb, le-ltb}
use Rattle.entry.specs.States.{one, written, state_at}
use Rattle.entry.specs.Fields.{entry_at, span_of}
use Rattle.page.specs.Walk.{is_item, on_from}
use Rattle.page.specs.Unread.{unread_at, unread_from}
use Rattle.page.proofs.Walking.{goes_on, item_span}

module _ (t : List ℕ) where
  -- nothing is counted past entry 125; an item is not counted, another entry if it is Written
  pub at_past : (i : ℕ) → 126 ≤ i → one (unread_at t i) ≡ 0
  at_past i h = ap (λ (b : Bool). one (b && (eqb (state_at t i) written && not (is_item t i)))) (le-ltb i 126 h)

  at_item : (i : ℕ) → is_item t i ≡ true → one (unread_at t i) ≡ 0
  at_item i e = let s = item_span t i e in rw (e, lt-ltb i 126 (omega arith)) (go (eqb (state_at t i) written))
    where
      go : (b : Bool) → one (b && false) ≡ 0
      go true = refl
      go false = refl

  pub at_other : (i : ℕ) → is_item t i ≡ false → i < 126 → one (unread_at t i) ≡ one (eqb (state_at t i) written)
  at_other i e h = rw (e, lt-ltb i 126 h) (go (eqb (state_at t i) written))
    where
      go : (b : Bool) → one (b && true) ≡ one b
      go true = refl
      go false = refl

  pub unread-past : (n i : ℕ) → 126 ≤ i → unread_from t n i ≡ 0
  unfolding unread_from
  unread-past zero i h = refl
  unread-past (suc n) i h = let g = goes_on t i in let a = at_past i h in let b = unread-past n (on_from t i) (omega arith) in omega arith

  -- more turns than entries are left change nothing
  enough : (n m i : ℕ) → 126 ≤ i + n → 126 ≤ i + m → unread_from t n i ≡ unread_from t m i
  unfolding unread_from
  enough zero m i hn hm = sym (unread-past m i (omega arith))
  enough (suc n) zero i hn hm = unread-past (suc n) i (omega arith)
  enough (suc n) (suc m) i hn hm =
      let g = goes_on t i in
      ap (λ (k : ℕ). one (unread_at t i) + k) (enough n m (on_from t i) (omega arith) (omega arith))

  -- an item is passed as a whole, its payload with it
  pub turn_item : (n i : ℕ) → is_item t i ≡ true → unread_from t (suc n) i ≡ unread_from t n (i + span_of (entry_at t i))
  unfolding unread_from
  turn_item n i e =
      let on : on_from t i ≡ i + span_of (entry_at t i) = rw e in
      let a = ap (unread_from t n) on in
      let b = at_item i e in omega arith

  pub unread_item : (i : ℕ) → is_item t i ≡ true → unread_from t 126 i ≡ unread_from t 126 (i + span_of (entry_at t i))
  unread_item i e = let s = item_span t i e in turn_item 125 i e ∙ enough 125 126 _ (omega arith) (omega arith)

  -- where no item begins, the entry counts if it is Written
  pub turn_skip : (n i : ℕ) → is_item t i ≡ false → i < 126 → unread_from t (suc n) i ≡ one (eqb (state_at t i) written) + unread_from t n (i + 1)
  unfolding unread_from
  turn_skip n i e h =
      let on : on_from t i ≡ i + 1 = rw e in
      let a = ap (unread_from t n) on in
      let b = at_other i e h in omega arith

  pub unread_skip : (i : ℕ) → is_item t i ≡ false → i < 126 → unread_from t 126 i ≡ one (eqb (state_at t i) written) + unread_from t 126 (i + 1)
  unread_skip i e h = let a = enough 125 126 (i + 1) (omega arith) (omega arith) in turn_skip 125 i e h ∙ omega arith
