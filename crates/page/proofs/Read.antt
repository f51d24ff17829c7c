-- What is read of a sector's bytes, and which bytes each reading goes by. Assumes nothing.
use mathlib.Core.Path.{◌∙◌, ◌≡◌, ap, refl, sym}
use mathlib.Core.Bool.{Bool, ◌&&◌, cond, false, false≢true, true}
use mathlib.Core.List.{List, [], ◌∷◌}
use Prim.Native.Nat.{◌%◌, ◌*◌, ◌+◌, ◌/◌, ◌<◌, ◌^◌, ◌≤◌, suc, zero, ℕ}
use native.Mathlib.Omega.{arith}
use lib.Dec.{eqb}
use lib.ListN.{drop, get_or, length, take}
use lib.Seq.{drop-drop, get_or-drop, get_or-take, take-take}
use borrow.Author.Tests.{eqb-true}
use Rattle.word.specs.Number.{le, part}
use Rattle.word.proofs.Bytes.{le-part, part-byte}
use Rattle.entry.specs.States.{count_state, empty, state_at}
use Rattle.lists.proofs.Member.{true≢false}
use Rattle.page.specs.declared.state.PageState.{PageState}
use Rattle.page.specs.declared.state.PageState.TheVariants.{Active, Blank, Corrupt, Freeing, Full}
use Rattle.page.specs.State.{all_ones, header_right, is_free, sequence_of, state_of, word_state}
use Rattle.page.specs.Walk.{is_item, items_of, walk}
use Rattle.page.specs.Unread.{unread_from}
use Rattle.page.proofs.Tests.{both_first, both-second}

-- no entry of the sector is Empty
abbrev pub no_room : List ℕ → Bool
no_room t = eqb (count_state t empty) 0

-- ---- entries and items: by the bytes from 32 on

module _ (T T' : List ℕ) (e : drop 32 T' ≡ drop 32 T) where
  from_drop : (k : ℕ) → drop (32 + k) T' ≡ drop (32 + k) T
  from_drop k = sym (drop-drop k 32 T') ∙ ap (drop k) e ∙ drop-drop k 32 T

  state_same : (i : ℕ) → state_at T' i ≡ state_at T i
  unfolding state_at
  state_same i = ap (λ (v : ℕ). v / 2 ^ (2 * (i % 4)) % 4) (sym (get_or-drop 32 T' (i / 4) 0) ∙ ap (λ (r : List ℕ). get_or r (i / 4) 0) e ∙ get_or-drop 32 T (i / 4) 0)

  at_same : (i : ℕ) → drop (64 + i * 32) T' ≡ drop (64 + i * 32) T
  at_same i = let k : 64 + i * 32 ≡ 32 + (32 + i * 32) = omega arith in rw k (from_drop (32 + i * 32))

  item_same : (i : ℕ) → is_item T' i ≡ is_item T i
  unfolding is_item
  item_same i = rw (at_same i, state_same i)

  walk_same : (n i : ℕ) → walk T' n i ≡ walk T n i
  unfolding walk
  walk_same zero i = refl
  walk_same (suc n) i = rw (item_same i, at_same i, walk_same n _)

  -- the entries that the walk leaves unread
  pub unread_same : (n i : ℕ) → unread_from T' n i ≡ unread_from T n i
  unfolding unread_from
  unread_same zero i = refl
  unread_same (suc n) i = rw (item_same i, at_same i, state_same i, unread_same n _)

  -- the items, of a page and of a free sector
  pub items_same : is_free (state_of T') ≡ is_free (state_of T) → items_of T' ≡ items_of T
  unfolding items_of
  items_same f = rw (f, walk_same 126 0)

-- ---- the header: by the bytes 4 to 31

module _ (T T' : List ℕ) (e : part T' 4 28 ≡ part T 4 28) where
  number_same : (k n : ℕ) → k + n ≤ 28 → le T' (4 + k) n ≡ le T (4 + k) n
  number_same k n h = sym (le-part T' 4 28 k n h) ∙ ap (λ (r : List ℕ). le r k n) e ∙ le-part T 4 28 k n h

  -- the sequence
  pub sequence_same : sequence_of T' ≡ sequence_of T
  sequence_same = number_same 0 4 (omega arith)

  -- whether the header is right
  pub right_same : header_right T' ≡ header_right T
  unfolding header_right
  right_same =
      let version : get_or T' 8 0 ≡ get_or T 8 0 = sym (part-byte T' 4 28 4 (omega arith)) ∙ ap (λ (r : List ℕ). get_or r 4 0) e ∙ part-byte T 4 28 4 (omega arith) in
      let body : part T' 4 24 ≡ part T 4 24 = sym (take-take 24 28 (drop 4 T') (omega arith)) ∙ ap (take 24) e ∙ take-take 24 28 (drop 4 T) (omega arith) in
      rw (version, body, number_same 24 4 (omega arith))

-- ---- the state: by the state word's four bytes and the header

-- the state word is b with three bytes of ones
abbrev pub Word4 : List ℕ → ℕ → Type 0
Word4 T b = (get_or T 0 0 ≡ b) × (get_or T 1 0 ≡ 0xFF) × (get_or T 2 0 ≡ 0xFF) × (get_or T 3 0 ≡ 0xFF)

-- the upper three bytes of the word are ones
abbrev upper : List ℕ → Bool
upper T = eqb (get_or T 1 0) 0xFF && (eqb (get_or T 2 0) 0xFF && eqb (get_or T 3 0) 0xFF)

-- the state that the word says
abbrev pub word_by : ℕ → Bool → PageState
word_by b c = cond c (cond (eqb b 0xFE) Active (cond (eqb b 0xFC) Full (cond (eqb b 0xF8) Freeing Corrupt))) Corrupt

word_by_lem : (T : List ℕ) → word_state (part T 0 4) ≡ word_by (get_or T 0 0) (upper T)
unfolding word_state
word_by_lem T = rw (get_or-take 4 T 0 0 (omega arith), get_or-take 4 T 1 0 (omega arith), get_or-take 4 T 2 0 (omega arith), get_or-take 4 T 3 0 (omega arith))

-- which byte the word of each state has
abbrev pub state_byte : PageState → ℕ
state_byte Blank = 0
state_byte Corrupt = 0
state_byte Active = 0xFE
state_byte Full = 0xFC
state_byte Freeing = 0xF8

state_code : (b : ℕ) (x y z : Bool) → eqb b 0xFE ≡ x → eqb b 0xFC ≡ y → eqb b 0xF8 ≡ z → (M : PageState) → is_free M ≡ false
    → cond x Active (cond y Full (cond z Freeing Corrupt)) ≡ M → b ≡ state_byte M
state_code b true y z p q r M f e = rw (← e) (eqb-true b 0xFE p)
state_code b false true z p q r M f e = rw (← e) (eqb-true b 0xFC q)
state_code b false false true p q r M f e = rw (← e) (eqb-true b 0xF8 r)
state_code b false false false p q r M f e = absurd (true≢false (ap is_free (sym e)) f)

-- a page has a right header, and its state's word
pub state_inv : (T : List ℕ) (M : PageState) → state_of T ≡ M → is_free M ≡ false → (header_right T ≡ true) × Word4 T (state_byte M)
unfolding state_of
state_inv T M e f = used (all_ones T) e
  where
    word : (c : Bool) → upper T ≡ c → word_by (get_or T 0 0) c ≡ M → Word4 T (state_byte M)
    word true q k =
        let b = both-second (eqb (get_or T 1 0) 0xFF) _ q in
        (state_code (get_or T 0 0) _ _ _ refl refl refl M f k, eqb-true _ 0xFF (both_first (eqb (get_or T 1 0) 0xFF) _ q), eqb-true _ 0xFF (both_first (eqb (get_or T 2 0) 0xFF) _ b), eqb-true _ 0xFF (both-second (eqb (get_or T 2 0) 0xFF) _ b))
    word false q k = absurd (true≢false (ap is_free (sym k)) f)

    right : (c : Bool) → header_right T ≡ c → cond c (word_state (part T 0 4)) Corrupt ≡ M → (header_right T ≡ true) × Word4 T (state_byte M)
    right true q k = (q, word _ refl (sym (word_by_lem T) ∙ k))
    right false q k = absurd (true≢false (ap is_free (sym k)) f)

    used : (c : Bool) → cond c Blank (cond (header_right T) (word_state (part T 0 4)) Corrupt) ≡ M → (header_right T ≡ true) × Word4 T (state_byte M)
    used true k = absurd (true≢false (ap is_free (sym k)) f)
    used false k = right (header_right T) refl k

-- bytes that are all ones are each 0xFF
pub ones_byte : (l : List ℕ) → all_ones l ≡ true → (i : ℕ) → i < length l → get_or l i 0 ≡ 0xFF
unfolding all_ones
ones_byte [] e i h = absurd (omega arith)
ones_byte (x ∷ l) e i h = go (eqb x 0xFF) refl e i h (ones_byte l)
  where
    go : (b : Bool) → eqb x 0xFF ≡ b → b && all_ones l ≡ true → (i : ℕ) → i < suc (length l)
        → (all_ones l ≡ true → (i : ℕ) → i < length l → get_or l i 0 ≡ 0xFF) → get_or (x ∷ l) i 0 ≡ 0xFF
    go true q e zero h others = eqb-true x 0xFF q
    go true q e (suc i) h others = others e i (omega arith)
    go false q e i h others = absurd (false≢true e)

-- bytes of which the first is no 0xFF are not all ones
not_ones : (T : List ℕ) (b : ℕ) → Word4 T b → (b ≡ 0xFF → ⊥) → all_ones T ≡ false
not_ones T b w ne = go (all_ones T) refl
  where
    long : (X : List ℕ) → get_or X 1 0 ≡ 0xFF → 0 < length X
    long [] e = absurd (omega arith)
    long (x ∷ X) e = omega arith

    go : (c : Bool) → all_ones T ≡ c → all_ones T ≡ false
    go false e = e
    go true e = absurd (ne (sym w.0 ∙ ones_byte T e 0 (long T w.1)))

-- and such bytes are a page in that state
pub state_is : (T : List ℕ) (b : ℕ) → (b ≡ 0xFF → ⊥) → header_right T ≡ true → Word4 T b → state_of T ≡ word_by b true
unfolding state_of
state_is T b ne g w = rw (not_ones T b w ne, g) (word_by_lem T ∙ rw (w.0, w.1, w.2, w.3))

-- a state word of ones is no page's
pub state_free : (T : List ℕ) → get_or T 0 0 ≡ 0xFF → is_free (state_of T) ≡ true
unfolding state_of
state_free T e = go (all_ones T) (header_right T) (upper T) refl
  where
    go : (o a c : Bool) → upper T ≡ c → is_free (cond o Blank (cond a (word_state (part T 0 4)) Corrupt)) ≡ true
    go true a c q = refl
    go false false c q = refl
    go false true true q = rw (word_by_lem T, q, e)
    go false true false q = rw (word_by_lem T, q)
