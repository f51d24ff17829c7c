-- A torn step leaves what the request says: each bit of the word is the old or the new one, and every such word can be left. So a word of which one bit is to
-- be cleared is left as it was or as the whole step leaves it. Assumes nothing.
use mathlib.Core.Path.{◌≡◌, refl, sym, ap, ◌∙◌}
use mathlib.Core.Logic.{◌⊎◌, inl, inr, ⊎_elim}
use mathlib.Core.Bool.{Bool, true, false}
use mathlib.Core.List.{List, [], ◌∷◌}
use Prim.Native.Nat.{ℕ, zero, suc, ◌+◌, ◌-◌, ◌/◌, ◌%◌, ◌^◌, ◌≤◌, ◌<◌}
use native.Mathlib.Omega.{arith}
use lib.Bits.{bit_or, and_shr, and_mod, and_mask, or_shr, or_mod, or_lt}
use lib.Dec.{eqb}
use lib.ListN.{length, get_or}
use lib.Seq.{ext_get_or}
use borrow.Author.Tests.{eqb-true, eqb-false}
use Rattle.flash.specs.Step.{Step, program, erase, and8, apply, run}
use Rattle.flash.specs.Torn.{Spares, Torn, Begins, Between, bit}
use Rattle.flash.proofs.And.{and8_left, and8_right, and8_none}
use Rattle.flash.proofs.Begins.{begins_cons}
use Rattle.flash.proofs.Bytes.{nth4, word_byte, word-other}
use Rattle.flash.proofs.Frame.{length-apply}
use Rattle.flash.proofs.Order.{le-or-gt}
use Rattle.flash.proofs.Small.{Small}

-- ---- bits

below_two : (n : ℕ) → n % 2 < 2
below_two n = omega arith

bit-lt : (x j : ℕ) → bit x j < 2
bit-lt x j = below_two (x / 2 ^ j)

bit_and : (x y j : ℕ) → bit (and8 x y) j ≡ and8 (bit x j) (bit y j)
unfolding and8
bit_and x y j = ap (λ (n : ℕ). n % 2) (and_shr x y j) ∙ and_mod (x / 2 ^ j) (y / 2 ^ j) 1

bit-or : (x y j : ℕ) → bit (bit_or x y) j ≡ bit_or (bit x j) (bit y j)
bit-or x y j = ap (λ (n : ℕ). n % 2) (or_shr x y j) ∙ or_mod (x / 2 ^ j) (y / 2 ^ j) 1

-- a bit ANDed with a one
bit_one : (x j : ℕ) → and8 (bit x j) 1 ≡ bit x j
unfolding and8
bit_one x j = and_mask (bit x j) 1 ∙ twice (x / 2 ^ j)
  where
    twice : (n : ℕ) → n % 2 % 2 ≡ n % 2
    twice n = omega arith

ones_bit : (j : ℕ) → j < 8 → bit 0xFF j ≡ 1
ones_bit zero h = refl
ones_bit (suc zero) h = refl
ones_bit (suc (suc zero)) h = refl
ones_bit (suc (suc (suc zero))) h = refl
ones_bit (suc (suc (suc (suc zero)))) h = refl
ones_bit (suc (suc (suc (suc (suc zero))))) h = refl
ones_bit (suc (suc (suc (suc (suc (suc zero)))))) h = refl
ones_bit (suc (suc (suc (suc (suc (suc (suc zero))))))) h = refl
ones_bit (suc (suc (suc (suc (suc (suc (suc (suc j)))))))) h = absurd (omega arith)

-- a byte is its eight bits
module _ (x y : ℕ) where
  next_64 : x / 64 % 2 ≡ y / 64 % 2 → x / 128 ≡ y / 128 → x / 64 ≡ y / 64
  next_64 e h = omega arith

  next_32 : x / 32 % 2 ≡ y / 32 % 2 → x / 64 ≡ y / 64 → x / 32 ≡ y / 32
  next_32 e h = omega arith

  next_16 : x / 16 % 2 ≡ y / 16 % 2 → x / 32 ≡ y / 32 → x / 16 ≡ y / 16
  next_16 e h = omega arith

  next_8 : x / 8 % 2 ≡ y / 8 % 2 → x / 16 ≡ y / 16 → x / 8 ≡ y / 8
  next_8 e h = omega arith

  next_4 : x / 4 % 2 ≡ y / 4 % 2 → x / 8 ≡ y / 8 → x / 4 ≡ y / 4
  next_4 e h = omega arith

  next_2 : x / 2 % 2 ≡ y / 2 % 2 → x / 4 ≡ y / 4 → x / 2 ≡ y / 2
  next_2 e h = omega arith

  next_1 : x / 1 % 2 ≡ y / 1 % 2 → x / 2 ≡ y / 2 → x ≡ y
  next_1 e h = omega arith

  top : x < 256 → y < 256 → x / 128 % 2 ≡ y / 128 % 2 → x / 128 ≡ y / 128
  top a b e = omega arith

  byte-bits : x < 256 → y < 256 → ((j : ℕ) → j < 8 → bit x j ≡ bit y j) → x ≡ y
  byte-bits a b f =
      next_1 (f 0 (omega arith)) (next_2 (f 1 (omega arith)) (next_4 (f 2 (omega arith)) (next_8 (f 3 (omega arith))
      (next_16 (f 4 (omega arith)) (next_32 (f 5 (omega arith)) (next_64 (f 6 (omega arith)) (top a b (f 7 (omega arith)))))))))

-- ---- a byte

module _ (c b : ℕ) (S : Spares c b) where
  -- where b has a one, so has c
  spares_bit : (j : ℕ) → j < 8 → and8 (bit b j) (bit c j) ≡ bit b j
  spares_bit j h = sym (bit_and b c j) ∙ ap (λ (n : ℕ). bit n j) S.1 ∙ bit_and b 0xFF j ∙ rw (ones_bit j h) (bit_one b j)

  -- a bit that was programmed is the old one, or the new one
  old-or-new : (x j : ℕ) → j < 8 → (bit (and8 x c) j ≡ bit x j) ⊎ (bit (and8 x c) j ≡ bit (and8 x b) j)
  old-or-new x j h =
      ⊎_elim (λ z. inr (cleared (omega arith))) (λ z. inl (bit_and x c j ∙ ap (and8 (bit x j)) (kept (bit c j) (bit-lt c j) z) ∙ bit_one x j)) (le-or-gt (bit c j) 0)
    where
      kept : (v : ℕ) → v < 2 → 0 < v → v ≡ 1
      kept v a z = omega arith

      cleared : bit c j ≡ 0 → bit (and8 x c) j ≡ bit (and8 x b) j
      cleared z =
          let e : bit b j ≡ 0 = sym (spares_bit j h) ∙ ap (and8 (bit b j)) z ∙ and8_none (bit b j) in
          bit_and x c j ∙ ap (and8 (bit x j)) (z ∙ sym e) ∙ sym (bit_and x b j)

-- two bits, all four cases of each
or-keeps : (p q : ℕ) → p < 2 → q < 2 → and8 p (bit_or q p) ≡ p
unfolding and8
or-keeps zero zero a b = refl
or-keeps zero (suc zero) a b = refl
or-keeps (suc zero) zero a b = refl
or-keeps (suc zero) (suc zero) a b = refl
or-keeps (suc (suc p)) q a b = absurd (omega arith)
or-keeps zero (suc (suc q)) a b = absurd (omega arith)
or-keeps (suc zero) (suc (suc q)) a b = absurd (omega arith)

or-old : (r p : ℕ) → r < 2 → p < 2 → and8 r (bit_or r p) ≡ r
unfolding and8
or-old zero zero a b = refl
or-old zero (suc zero) a b = refl
or-old (suc zero) zero a b = refl
or-old (suc zero) (suc zero) a b = refl
or-old (suc (suc r)) p a b = absurd (omega arith)
or-old zero (suc (suc p)) a b = absurd (omega arith)
or-old (suc zero) (suc (suc p)) a b = absurd (omega arith)

or_new : (r p : ℕ) → r < 2 → p < 2 → and8 r (bit_or (and8 r p) p) ≡ and8 r p
unfolding and8
or_new zero zero a b = refl
or_new zero (suc zero) a b = refl
or_new (suc zero) zero a b = refl
or_new (suc zero) (suc zero) a b = refl
or_new (suc (suc r)) p a b = absurd (omega arith)
or_new zero (suc (suc p)) a b = absurd (omega arith)
or_new (suc zero) (suc (suc p)) a b = absurd (omega arith)

-- the byte to program that leaves y of the byte x: the ones of y and those of b
abbrev mask_for : ℕ → ℕ → ℕ
mask_for b y = bit_or y (and8 b 0xFF)

module _ (b y : ℕ) (hy : y < 256) where
  mask_lt : mask_for b y < 256
  mask_lt = or_lt 8 y (and8 b 0xFF) hy (let a = and8_right b 0xFF in omega arith)

  mask-bit : (j : ℕ) → j < 8 → bit (mask_for b y) j ≡ bit_or (bit y j) (bit b j)
  mask-bit j h = bit-or y (and8 b 0xFF) j ∙ rw (bit_and b 0xFF j, ones_bit j h, bit_one b j)

  -- it spares what b spares
  mask_spares : Spares (mask_for b y) b
  mask_spares = (
    mask_lt,
    byte-bits (and8 b (mask_for b y)) (and8 b 0xFF) (let a = and8_right b (mask_for b y) in let c = mask_lt in omega arith) (let a = and8_right b 0xFF in omega arith)
        (λ j h. bit_and b (mask_for b y) j ∙ ap (and8 (bit b j)) (mask-bit j h) ∙ or-keeps (bit b j) (bit y j) (bit-lt b j) (bit-lt y j) ∙ sym (bit_and b 0xFF j ∙ ap (and8 (bit b j)) (ones_bit j h) ∙ bit_one b j)),
  )

  -- and it leaves y, where each bit of y is the old one or the new one
  mask-leaves : (x : ℕ) → x < 256 → ((j : ℕ) → j < 8 → (bit y j ≡ bit x j) ⊎ (bit y j ≡ bit (and8 x b) j)) → y ≡ and8 x (mask_for b y)
  mask-leaves x hx f =
      byte-bits y (and8 x (mask_for b y)) hy (let a = and8_left x (mask_for b y) in omega arith)
      (λ j h. sym (bit_and x (mask_for b y) j ∙ ap (and8 (bit x j)) (mask-bit j h) ∙ ⊎_elim (λ e. old j e) (λ e. new j (e ∙ bit_and x b j)) (f j h)))
    where
      old : (j : ℕ) → bit y j ≡ bit x j → and8 (bit x j) (bit_or (bit y j) (bit b j)) ≡ bit y j
      old j e = rw e (or-old (bit x j) (bit b j) (bit-lt x j) (bit-lt b j))

      new : (j : ℕ) → bit y j ≡ and8 (bit x j) (bit b j) → and8 (bit x j) (bit_or (bit y j) (bit b j)) ≡ bit y j
      new j e = rw e (or_new (bit x j) (bit b j) (bit-lt x j) (bit-lt b j))

-- ---- a word

-- two images that differ in a word at most, and in none of its bits
bits_same : (at : ℕ) (l m : List ℕ) → length m ≡ length l → ((i : ℕ) → (i < at) ⊎ (at + 4 ≤ i) → get_or m i 0 ≡ get_or l i 0)
    → ((i : ℕ) → i < 4 → (get_or m (at + i) 0 < 256) × (get_or l (at + i) 0 < 256))
    → ((i j : ℕ) → i < 4 → j < 8 → bit (get_or m (at + i) 0) j ≡ bit (get_or l (at + i) 0) j) → m ≡ l
bits_same at l m size beside small bits = ext_get_or 0 m l size (λ i h. byte i)
  where
    inside : (i : ℕ) → at ≤ i → i < at + 4 → get_or m i 0 ≡ get_or l i 0
    inside i p q =
        let e : at + (i - at) ≡ i = omega arith in
        let z = small (i - at) (omega arith) in
        rw e at (byte-bits (get_or m (at + (i - at)) 0) (get_or l (at + (i - at)) 0) z.0 z.1 (λ j g. bits (i - at) j (omega arith) g))

    byte : (i : ℕ) → get_or m i 0 ≡ get_or l i 0
    byte i = ⊎_elim (λ p. ⊎_elim (λ q. beside i (inr q)) (λ q. inside i p q) (le-or-gt (at + 4) i)) (λ p. beside i (inl p)) (le-or-gt at i)

-- a torn word's four bytes
pub torn-bytes : (a c0 c1 c2 c3 at b0 b1 b2 b3 : ℕ) → Torn (program a c0 c1 c2 c3) (program at b0 b1 b2 b3)
    → (a ≡ at) × ((i : ℕ) → i < 4 → Spares (nth4 c0 c1 c2 c3 i) (nth4 b0 b1 b2 b3 i))
unfolding Torn
torn-bytes a c0 c1 c2 c3 at b0 b1 b2 b3 t = (t.0, at4)
  where
    at4 : (i : ℕ) → i < 4 → Spares (nth4 c0 c1 c2 c3 i) (nth4 b0 b1 b2 b3 i)
    at4 zero h = t.1
    at4 (suc zero) h = t.2
    at4 (suc (suc zero)) h = t.3
    at4 (suc (suc (suc i))) h = t.4

module _ (l : List ℕ) (at b0 b1 b2 b3 : ℕ) (long : at + 4 ≤ length l) where
  abbrev s : Step
  s = program at b0 b1 b2 b3

  -- each bit is the old one or the new one
  pub torn_between : (c : Step) → Torn c s → Between at l (apply s l) (apply c l)
  unfolding apply Torn
  torn_between (erase u) t = absurd t
  torn_between (program a c0 c1 c2 c3) t =
      let e = torn-bytes a c0 c1 c2 c3 at b0 b1 b2 b3 t in
      rw e.0 (record {
        size = length-apply (program at c0 c1 c2 c3) l;
        others = λ i o. word-other l at c0 c1 c2 c3 i o;
        bits = λ i j h g. rw (word_byte l at c0 c1 c2 c3 i h long, word_byte l at b0 b1 b2 b3 i h long) (old-or-new _ _ (e.1 i h) (get_or l (at + i) 0) j g);
      })

  -- and every such image can be left
  pub between_torn : Small l → (m : List ℕ) → Small m → Between at l (apply s l) m → (c : Step) × Torn c s × (m ≡ apply c l)
  unfolding apply Torn
  between_torn sl m sm B = (
    program at (mask 0) (mask 1) (mask 2) (mask 3),
    (refl, mask_spares b0 _ (sm (at + 0)), mask_spares b1 _ (sm (at + 1)), mask_spares b2 _ (sm (at + 2)), mask_spares b3 _ (sm (at + 3))),
    bits_same at (apply (program at (mask 0) (mask 1) (mask 2) (mask 3)) l) m (B.size ∙ sym (length-apply (program at (mask 0) (mask 1) (mask 2) (mask 3)) l)) (λ i o. B.others i o ∙ sym (word-other l at _ _ _ _ i o))
        (λ i h. (sm (at + i), rw (← inside i h) (sm (at + i)))) (λ i j h g. ap (λ (x : ℕ). bit x j) (inside i h)),
  )
    where
      mask : ℕ → ℕ
      mask i = mask_for (nth4 b0 b1 b2 b3 i) (get_or m (at + i) 0)

      masks : (i : ℕ) → i < 4 → nth4 (mask 0) (mask 1) (mask 2) (mask 3) i ≡ mask i
      masks zero h = refl
      masks (suc zero) h = refl
      masks (suc (suc zero)) h = refl
      masks (suc (suc (suc zero))) h = refl
      masks (suc (suc (suc (suc i)))) h = absurd (omega arith)

      inside : (i : ℕ) → i < 4 → get_or m (at + i) 0 ≡ get_or (apply (program at (mask 0) (mask 1) (mask 2) (mask 3)) l) (at + i) 0
      inside i h =
          let f : (j : ℕ) → j < 8 → (bit (get_or m (at + i) 0) j ≡ bit (get_or l (at + i) 0) j) ⊎ (bit (get_or m (at + i) 0) j ≡ bit (and8 (get_or l (at + i) 0) (nth4 b0 b1 b2 b3 i)) j) =
          (λ j g. rw (word_byte l at b0 b1 b2 b3 i h long) at (B.bits i j h g)) in
          mask-leaves (nth4 b0 b1 b2 b3 i) (get_or m (at + i) 0) (sm (at + i)) (get_or l (at + i) 0) (sl (at + i)) f
          ∙ sym (word_byte l at (mask 0) (mask 1) (mask 2) (mask 3) i h long ∙ rw (masks i h))

  -- ---- one bit to be cleared, bit k of byte n: it is cleared or not
  module _ (small : (i : ℕ) → i < 4 → get_or l (at + i) 0 < 256) (n k : ℕ) (hn : n < 4) (hk : k < 8)
      (only : (i j : ℕ) → i < 4 → j < 8 → (i ≡ n → j ≡ k → ⊥) → bit (get_or (apply s l) (at + i) 0) j ≡ bit (get_or l (at + i) 0) j) where
    small_after : (c : Step) → Torn c s → (i : ℕ) → i < 4 → get_or (apply c l) (at + i) 0 < 256
    unfolding apply Torn
    small_after (erase u) t i h = absurd t
    small_after (program a c0 c1 c2 c3) t i h =
        let b = small i h in
        let d = and8_left (get_or l (at + i) 0) (nth4 c0 c1 c2 c3 i) in
        rw (t.0, word_byte l at c0 c1 c2 c3 i h long) (omega arith)

    small_whole : (i : ℕ) → i < 4 → get_or (apply s l) (at + i) 0 < 256
    unfolding apply
    small_whole i h = let b = small i h in let d = and8_left (get_or l (at + i) 0) (nth4 b0 b1 b2 b3 i) in rw (word_byte l at b0 b1 b2 b3 i h long) (omega arith)

    -- bit by bit, where bit k of byte n is that of the image x
    as_in : (x m : List ℕ) → Between at l (apply s l) m → bit (get_or m (at + n) 0) k ≡ bit (get_or x (at + n) 0) k
        → ((i j : ℕ) → i < 4 → j < 8 → (i ≡ n → j ≡ k → ⊥) → (bit (get_or l (at + i) 0) j ≡ bit (get_or x (at + i) 0) j) × (bit (get_or (apply s l) (at + i) 0) j ≡ bit (get_or x (at + i) 0) j))
        → (i j : ℕ) → i < 4 → j < 8 → bit (get_or m (at + i) 0) j ≡ bit (get_or x (at + i) 0) j
    as_in x m B e others i j h g = go (eqb i n) refl (eqb j k) refl
      where
        apart : (i ≡ n → j ≡ k → ⊥) → bit (get_or m (at + i) 0) j ≡ bit (get_or x (at + i) 0) j
        apart ne = let o = others i j h g ne in ⊎_elim (λ p. p ∙ o.0) (λ p. p ∙ o.1) (B.bits i j h g)

        go : (p : Bool) → eqb i n ≡ p → (q : Bool) → eqb j k ≡ q → bit (get_or m (at + i) 0) j ≡ bit (get_or x (at + i) 0) j
        go false u q v = apart (λ a b. eqb-false i n u a)
        go true u false v = apart (λ a b. eqb-false j k v b)
        go true u true v = rw (eqb-true i n u, eqb-true j k v) e

    -- so the step cannot be torn
    pub one_bit : (c : Step) → Torn c s → (apply c l ≡ l) ⊎ (apply c l ≡ apply s l)
    unfolding apply
    one_bit c t =
        let B = torn_between c t in
        ⊎_elim
        (λ e. inl (bits_same at l (apply c l) B.size B.others (λ i h. (small_after c t i h, small i h)) (as_in l (apply c l) B e (λ i j h g ne. (refl, only i j h g ne)))))
        (λ e. inr (bits_same at (apply s l) (apply c l) (B.size ∙ sym (length-apply s l)) (λ i o. B.others i o ∙ sym (word-other l at b0 b1 b2 b3 i o)) (λ i h. (small_after c t i h, small_whole i h))
        (as_in (apply s l) (apply c l) B e (λ i j h g ne. (sym (only i j h g ne), refl)))))
        (B.bits n k hn hk)

    -- a list that begins with it: the image is as it was, or the step is made and then a beginning of the others
    pub begins_bit : (cs ss : List Step) → Begins cs (s ∷ ss) → (run cs l ≡ l) ⊎ ((ds : List Step) × Begins ds ss × (run cs l ≡ run ds (apply s l)))
    unfolding run Begins
    begins_bit cs ss b =
        ⊎_elim (λ e. inl (rw e))
        (λ e. ⊎_elim (λ d. inr (d.0, d.2, rw d.1)) (λ d. rw d.1 (⊎_elim (λ z. inl z) (λ z. inr ([], tt, z)) (one_bit d.0 d.2))) e)
        (begins_cons cs s ss b)
