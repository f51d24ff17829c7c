-- A sector of which whole items were erased: where an item began its walk goes over Erased entries, so it leaves as many entries unread as before. Assumes
-- nothing.
use mathlib.Core.Path.{◌≡◌, refl, sym, ap, ◌∙◌}
use mathlib.Core.Logic.{◌⊎◌, inl, inr}
use mathlib.Core.Bool.{Bool, true, false, cond}
use mathlib.Core.List.{List, ◌∷◌}
use Prim.Native.Nat.{ℕ, zero, suc, ◌+◌, ◌*◌, ◌<◌, ◌≤◌}
use native.Mathlib.Omega.{arith}
use lib.Dec.{eqb, leb, ltb}
use lib.ListN.{drop}
use lib.Seq.{drop-drop}
use borrow.Author.Tests.{leb-true, leb-false, ltb-true, ltb-false}
use Rattle.entry.specs.States.{one, written, state_at}
use Rattle.entry.specs.Fields.{entry_at, span_of}
use Rattle.lists.proofs.Member.{◌∈◌, true≢false}
use Rattle.page.specs.Walk.{Laid, is_item, laid_at, on_from, walk}
use Rattle.page.specs.Unread.{unread_from}
use Rattle.page.proofs.Walking.{goes_on, item_span, raw-span}
use Rattle.page.proofs.Items.{no_item, walk_from}
use Rattle.page.proofs.Unread.{unread-past, unread_item, unread_skip}

-- the n entries from entry e on are Erased
abbrev pub Gone : List ℕ → ℕ → ℕ → Type 0
Gone U e n = (j : ℕ) → e ≤ j → j < e + n → state_at U j ≡ 0

-- U has the state of T at entry i, or the item that T has there is erased as a whole
abbrev Stays : List ℕ → List ℕ → ℕ → Type 0
Stays T U i = (state_at U i ≡ state_at T i) ⊎ ((is_item T i ≡ true) × Gone U i (span_of (entry_at T i)))

-- so it is at each entry that the walk of T reaches from entry i on, in m turns
unfoldable pub Thinned : List ℕ → List ℕ → ℕ → ℕ → Type 0
Thinned T U zero i = Unit {0}
Thinned T U (suc m) i = Stays T U i × Thinned T U m (on_from T i)

pub thinned_none : (T : List ℕ) (m i : ℕ) → Thinned T T m i
unfolding Thinned
thinned_none T zero i = tt
thinned_none T (suc m) i = (inl refl, thinned_none T m (on_from T i))

-- ---- one item more

-- beside n entries from entry e on
abbrev Beside : ℕ → ℕ → ℕ → Type 0
Beside e n j = (j < e) ⊎ (e + n ≤ j)

beside-or_in : (e n j : ℕ) → Beside e n j ⊎ ((e ≤ j) × (j < e + n))
beside-or_in e n j = go (ltb j e) (leb (e + n) j) refl refl
  where
    go : (a b : Bool) → ltb j e ≡ a → leb (e + n) j ≡ b → Beside e n j ⊎ ((e ≤ j) × (j < e + n))
    go true b p q = inl (inl (ltb-true j e p))
    go false true p q = inl (inr (leb-true (e + n) j q))
    go false false p q = inr (ltb-false j e p, leb-false (e + n) j q)

-- U' is U, but that the item y of T is erased
module _ (T U U' : List ℕ) (y : Laid) (gone : Gone U' y.entry (span_of y.raw))
    (same : (j : ℕ) → Beside y.entry (span_of y.raw) j → state_at U' j ≡ state_at U j) where
  abbrev e : ℕ
  e = y.entry

  abbrev n : ℕ
  n = span_of y.raw

  -- what was Erased is
  still : (j : ℕ) → state_at U j ≡ 0 → state_at U' j ≡ 0
  still j z = go (beside-or_in e n j)
    where
      go : Beside e n j ⊎ ((e ≤ j) × (j < e + n)) → state_at U' j ≡ 0
      go (inl o) = same j o ∙ z
      go (inr h) = gone j h.0 h.1

  stays : (i : ℕ) → Beside e n i → Stays T U i → Stays T U' i
  stays i o (inl s) = inl (same i o ∙ s)
  stays i o (inr g) = inr (g.0, λ j a b. still j (g.1 j a b))

  -- the walk of T meets y, or is behind it
  abbrev Met : ℕ → ℕ → Type 0
  Met m i = (y ∈ walk T m i) ⊎ (e + n ≤ i)

  turn : (m i : ℕ) → Met (suc m) i → Stays T U i → Stays T U' i × Met m (on_from T i)
  unfolding walk
  turn m i (inr h) s = let g = goes_on T i in (stays i (inr h) s, inr (omega arith))
  turn m i (inl w) s = go (is_item T i) refl w
    where
      later : (j : ℕ) → i < j → y ∈ walk T m j → Stays T U' i × Met m j
      later j h k = let a = walk_from T m j y k in (stays i (inl (omega arith)) s, inl k)

      go : (b : Bool) → is_item T i ≡ b → y ∈ cond b (laid_at T i ∷ walk T m (on_from T i)) (walk T m (on_from T i)) → Stays T U' i × Met m (on_from T i)
      go true q (inl r) =
          let a : y.entry ≡ i = ap (λ (x : Laid). x.entry) r in
          let b : span_of y.raw ≡ span_of (entry_at T i) = ap (λ (x : Laid). span_of x.raw) r ∙ raw-span T i q in
          (inr (q, λ j u v. gone j (omega arith) (omega arith)), inr (rw q (omega arith)))
      go true q (inr k) = later (on_from T i) (goes_on T i) k
      go false q k = later (on_from T i) (goes_on T i) k

  more : (m i : ℕ) → Met m i → Thinned T U m i → Thinned T U' m i
  unfolding Thinned
  more zero i w h = tt
  more (suc m) i w h = let r = turn m i w h.0 in (r.0, more m (on_from T i) r.1 h.1)

  pub thinned_more : y ∈ walk T 126 0 → Thinned T U 126 0 → Thinned T U' 126 0
  thinned_more w h = more 126 0 (inl w) h

-- ---- what is unread

-- T as it was and U as it is: from byte 64 on they are the same
module _ (T U : List ℕ) (rest : drop 64 U ≡ drop 64 T) where
  pub at_same : (i : ℕ) → drop (64 + i * 32) U ≡ drop (64 + i * 32) T
  at_same i = sym (drop-drop (i * 32) 64 U) ∙ ap (drop (i * 32)) rest ∙ drop-drop (i * 32) 64 T

  pub item_same : (i : ℕ) → state_at U i ≡ state_at T i → is_item U i ≡ is_item T i
  unfolding is_item
  item_same i s = rw (at_same i, s)

  -- the walk goes over Erased entries
  over : (k i : ℕ) → i + k ≤ 126 → Gone U i k → unread_from U 126 i ≡ unread_from U 126 (i + k)
  over zero i h g = let r : i + 0 ≡ i = omega arith in rw r
  over (suc k) i h g =
      let z = g i (omega arith) (omega arith) in
      let c : one (eqb (state_at U i) written) ≡ 0 = rw z in
      let r : i + 1 + k ≡ i + suc k = omega arith in
      let a = unread_skip U i (no_item U i (λ b w. omega arith)) (omega arith) in
      let d = over k (i + 1) (omega arith) (λ j u v. g j (omega arith) (omega arith)) in
      let f = ap (unread_from U 126) r in
      omega arith

  -- a turn of both
  turned : (i : ℕ) → Stays T U i → unread_from U 126 (on_from T i) ≡ unread_from T 126 (on_from T i) → unread_from U 126 i ≡ unread_from T 126 i
  turned i s on = end (ltb i 126) refl
    where
      go : (b : Bool) → is_item T i ≡ b → i < 126 → Stays T U i → unread_from U 126 i ≡ unread_from T 126 i
      go true q h (inl s) = unread_item U i (item_same i s ∙ q) ∙ rw (at_same i) (rw q at on) ∙ sym (unread_item T i q)
      go true q h (inr g) = over (span_of (entry_at T i)) i (item_span T i q).1 g.1 ∙ (rw q at on) ∙ sym (unread_item T i q)
      go false q h (inl s) =
          let a = unread_skip U i (item_same i s ∙ q) h in
          let b = unread_skip T i q h in
          let c : one (eqb (state_at U i) written) ≡ one (eqb (state_at T i) written) = rw s in
          let d : unread_from U 126 (i + 1) ≡ unread_from T 126 (i + 1) = rw q at on in
          omega arith
      go false q h (inr g) = absurd (true≢false g.0 q)

      end : (b : Bool) → ltb i 126 ≡ b → unread_from U 126 i ≡ unread_from T 126 i
      end true q = go (is_item T i) refl (ltb-true i 126 q) s
      end false q = let p = ltb-false i 126 q in unread-past U 126 i p ∙ sym (unread-past T 126 i p)

  unread : (m i : ℕ) → 126 ≤ i + m → Thinned T U m i → unread_from U 126 i ≡ unread_from T 126 i
  unfolding Thinned
  unread zero i h t = unread-past U 126 i (omega arith) ∙ sym (unread-past T 126 i (omega arith))
  unread (suc m) i h t = let g = goes_on T i in turned i t.0 (unread m (on_from T i) (omega arith) t.1)

  pub thinned_unread : Thinned T U 126 0 → unread_from U 126 0 ≡ unread_from T 126 0
  thinned_unread t = unread 126 0 (omega arith) t
