-- The target while items are copied into it: some laid from entry 0 on, the rest Empty, and what is then read of it. Assumes nothing.
use mathlib.Core.Path.{◌∙◌, ◌≡◌, ap, refl, sym}
use mathlib.Core.Logic.{inl, inr}
use mathlib.Core.Bool.{Bool, false, true}
use mathlib.Core.List.{List, [], ◌++◌, ◌∷◌, map}
use Prim.Native.Nat.{◌*◌, ◌+◌, ◌/◌, ◌<◌, ◌^◌, ◌≤◌, suc, zero, ℕ}
use native.Mathlib.Omega.{arith}
use lib.Dec.{eqb}
use lib.ListN.{drop, get_or, length, take}
use lib.Seq.{get_or-take, take-take}
use borrow.Author.Tests.{eq-eqb, eqb-false, eqb-true, ne_eqb}
use Rattle.word.specs.Number.{part}
use Rattle.entry.specs.States.{count_of, count_state, empty, one, state_at, written}
use Rattle.entry.specs.Fields.{entry_at, span_of}
use Rattle.page.specs.declared.state.PageState.TheVariants.{Active, Full}
use Rattle.page.specs.State.{header_right, is_free, sequence_of, state_of}
use Rattle.page.specs.Walk.{Laid, is_item, items_of, right_header, walk}
use Rattle.page.proofs.Read.{Word4, no_room, right_same, sequence_same, state_is}
use Rattle.page.proofs.Items.{is_item_lem, no_item}
use Rattle.flash.specs.Step.{Step, run}
use Rattle.flash.proofs.Frame.{AllIn, In, length_run, part-kept, part_same, run-other}
use Rattle.flash.proofs.Every.{every_one}
use Rattle.item.specs.Initialise.{header}
use Rattle.item.specs.Mark.{page_state}
use Rattle.marking.proofs.States.{state-byte}
use Rattle.item.proofs.Header.{header_right_lem, header-sequence}

-- the bytes of items laid one after the other
abbrev pub raws : List Laid → List (List ℕ)
raws xs = map (λ (i : Laid). i.raw) xs

-- ---- items laid one after the other from entry j on, up to entry p
abbrev pub Rows : List ℕ → ℕ → List (List ℕ) → ℕ → Type 0
Rows T j [] p = j ≡ p
Rows T j (r ∷ rs) p = (state_at T j ≡ written) × (part T (64 + j * 32) (span_of r * 32) ≡ r) × Rows T (j + span_of r) rs p

-- the bytes of an item
pub record Fine (r : List ℕ) : Type 0 where
  pub right : right_header (take 32 r) ≡ true
  pub some : 1 ≤ span_of r
  pub long : length r ≡ span_of r * 32
  pub small : (i : ℕ) → get_or r i 0 < 256

-- each of them
abbrev pub AllFine : List (List ℕ) → Type 0
AllFine [] = Unit {0}
AllFine (r ∷ rs) = Fine r × AllFine rs

-- of two lists put together
pub fine-append : (a b : List (List ℕ)) → AllFine a → AllFine b → AllFine (a ++ b)
fine-append [] b f g = g
fine-append (r ∷ a) b f g = (f.0, fine-append a b f.1 g)

laid-le : (T : List ℕ) (j : ℕ) (rs : List (List ℕ)) (p : ℕ) → Rows T j rs p → j ≤ p
laid-le T j [] p e = omega arith
laid-le T j (r ∷ rs) p e = let a = laid-le T (j + span_of r) rs p e.2 in omega arith

-- rows stay where their states and bytes do
pub laid-keep : (T T' : List ℕ) (p : ℕ) → length T' ≡ length T → ((e : ℕ) → e < p → state_at T' e ≡ state_at T e)
    → ((i : ℕ) → 64 ≤ i → i < 64 + p * 32 → get_or T' i 0 ≡ get_or T i 0)
    → (j : ℕ) (rs : List (List ℕ)) → AllFine rs → Rows T j rs p → Rows T' j rs p
laid-keep T T' p n st by j [] f e = e
laid-keep T T' p n st by j (r ∷ rs) f e =
    let a = laid-le T (j + span_of r) rs p e.2 in
    let b = f.0.some in (
      st j (omega arith) ∙ e.0,
      part_same (64 + j * 32) (span_of r * 32) T T' n (λ i u v. by i (omega arith) (omega arith)) ∙ e.1,
      laid-keep T T' p n st by (j + span_of r) rs f.1 e.2,
    )

-- one item more
pub laid-snoc : (T : List ℕ) (j : ℕ) (rs : List (List ℕ)) (p : ℕ) (r : List ℕ) → Rows T j rs p → state_at T p ≡ written
    → part T (64 + p * 32) (span_of r * 32) ≡ r → Rows T j (rs ++ (r ∷ [])) (p + span_of r)
laid-snoc T j [] p r e a b = (rw e a, rw e b, rw e)
laid-snoc T j (x ∷ rs) p r e a b = (e.0, e.1, laid-snoc T (j + span_of x) rs p r e.2 a b)

-- ---- the walk over them

-- it finds nothing among Empty entries
pub walk-empty : (T : List ℕ) (n i : ℕ) → ((e : ℕ) → i ≤ e → e < 126 → state_at T e ≡ empty) → walk T n i ≡ []
unfolding walk
walk-empty T zero i h = refl
walk-empty T (suc n) i h = rw (no_item T i (λ k w. let c = h i (omega arith) k in omega arith)) (walk-empty T n (i + 1) (λ e a. h e (omega arith)))

-- and it finds the rows, one after the other
pub walk-laid : (T : List ℕ) (p n j : ℕ) (rs : List (List ℕ)) → 126 ≤ j + n → p ≤ 126 → ((e : ℕ) → p ≤ e → e < 126 → state_at T e ≡ empty) → AllFine rs
    → Rows T j rs p → raws (walk T n j) ≡ rs
unfolding walk
walk-laid T p n j [] k h em f e = rw (walk-empty T n j (λ i a. em i (omega arith)))
walk-laid T p zero j (r ∷ rs) k h em f e =
    let a = laid-le T (j + span_of r) rs p e.2 in
    let b = f.0.some in
    absurd (omega arith)
walk-laid T p (suc n) j (r ∷ rs) k h em f e =
    let a = laid-le T (j + span_of r) rs p e.2 in
    let b = f.0.some in
    let en : entry_at T j ≡ take 32 r = entry_is e.1 b in
    let sp : span_of (entry_at T j) ≡ span_of r = ap span_of en ∙ get_or-take 32 r 2 0 (omega arith) in
    let it : is_item T j ≡ true = is_item_lem T j (record { is_written = e.0; right = ap right_header en ∙ f.0.right; some = omega arith; ends = omega arith }) in
    rw (it, sp, e.1, walk-laid T p n (j + span_of r) rs (omega arith) h em f.1 e.2)
  where
    entry_is : part T (64 + j * 32) (span_of r * 32) ≡ r → 1 ≤ span_of r → entry_at T j ≡ take 32 r
    entry_is q b = sym (take-take 32 (span_of r * 32) (drop (64 + j * 32) T) (omega arith)) ∙ ap (take 32) q

count-ge : (f : ℕ → ℕ) (v n i : ℕ) → i < n → f i ≡ v → 1 ≤ count_of f v n
unfolding count_of
count-ge f v zero i k e = absurd (omega arith)
count-ge f v (suc n) i k e = at (eqb i n) refl (count-ge f v n i)
  where
    at : (b : Bool) → eqb i n ≡ b → (i < n → f i ≡ v → 1 ≤ count_of f v n) → 1 ≤ count_of f v n + one (eqb (f n) v)
    at true r ih = let z : f n ≡ v = rw (eqb-true i n r) at e in rw (eq-eqb (f n) v z) (omega arith)
    at false r ih = let d : (i ≡ n → ⊥) = eqb-false i n r in let y = ih (omega arith) e in omega arith

-- ---- the shape of the target: ys laid up to entry p, the rest Empty
pub record Shape (q : ℕ) (T : List ℕ) (ys : List (List ℕ)) (p : ℕ) : Type 0 where
  pub len : length T ≡ 4096
  pub tail : part T 4 28 ≡ part (header q) 4 28
  pub laid : Rows T 0 ys p
  pub empty_from : (e : ℕ) → p ≤ e → e < 126 → state_at T e ≡ empty
  pub fits : p ≤ 126
  pub fine : AllFine ys

module _ (q : ℕ) (T : List ℕ) (ys : List (List ℕ)) (p : ℕ) (H : Shape q T ys p) where
  shape_right : header_right T ≡ true
  shape_right = right_same (header q) T H.tail ∙ header_right_lem q

  -- with the state word it is a page
  pub shape-active : Word4 T 0xFE → state_of T ≡ Active
  shape-active w = state_is T 0xFE (λ e. omega arith) shape_right w

  pub shape-full : Word4 T 0xFC → state_of T ≡ Full
  shape-full w = state_is T 0xFC (λ e. omega arith) shape_right w

  -- with the sequence that its header says
  pub shape-sequence : q < 2 ^ 32 → sequence_of T ≡ q
  shape-sequence h = sequence_same (header q) T H.tail ∙ header-sequence q h

  -- and its items are those that were laid
  pub shape-items : is_free (state_of T) ≡ false → raws (items_of T) ≡ ys
  unfolding items_of
  shape-items f = rw f (walk-laid T p 126 0 ys (omega arith) H.fits H.empty_from H.fine H.laid)

  -- entry 125 is Empty unless p is 126
  pub shape-room : p < 126 → no_room T ≡ false
  shape-room h =
      ne_eqb (count_state T empty) 0 (λ (e : count_state T empty ≡ 0). let a = count-ge (state_at T) empty 126 125 (omega arith) (H.empty_from 125 (omega arith) (omega arith)) in omega arith)

-- ---- steps that keep a shape
-- outside the header, the states and the laid entries
pub shape-keep : (q : ℕ) (T T' : List ℕ) (ys : List (List ℕ)) (p : ℕ) → Shape q T ys p → length T' ≡ length T → part T' 4 28 ≡ part T 4 28
    → ((e : ℕ) → e < 126 → state_at T' e ≡ state_at T e) → ((i : ℕ) → 64 ≤ i → i < 64 + p * 32 → get_or T' i 0 ≡ get_or T i 0) → Shape q T' ys p
shape-keep q T T' ys p H n t st by = record {
  len = n ∙ H.len;
  tail = t ∙ H.tail;
  laid = laid-keep T T' p n (λ e h. let a = H.fits in st e (omega arith)) by 0 ys H.fine H.laid;
  empty_from = λ e a b. st e b ∙ H.empty_from e a b;
  fits = H.fits;
  fine = H.fine;
}

-- steps behind it leave the state word
pub word-keep : (ss : List Step) (T : List ℕ) (a b x : ℕ) → AllIn a b ss → 4 ≤ a → Word4 T x → Word4 (run ss T) x
word-keep ss T a b x i h w = (
  run-other a b ss T 0 i (inl (omega arith)) ∙ w.0,
  run-other a b ss T 1 i (inl (omega arith)) ∙ w.1,
  run-other a b ss T 2 i (inl (omega arith)) ∙ w.2,
  run-other a b ss T 3 i (inl (omega arith)) ∙ w.3,
)

-- bytes from 64 + p * 32 on
pub shape-words : (q : ℕ) (T : List ℕ) (ys : List (List ℕ)) (p b : ℕ) (ss : List Step) → AllIn (64 + p * 32) b ss → Shape q T ys p → Shape q (run ss T) ys p
shape-words q T ys p b ss i H =
    shape-keep q T (run ss T) ys p H (length_run ss T) (part-kept (64 + p * 32) b 4 28 ss T i (inl (omega arith)))
    (λ e h. state-byte 0 e T (run ss T) (run-other (64 + p * 32) b ss T (0 + (32 + e / 4)) i (inl (omega arith)))) (λ j u v. run-other (64 + p * 32) b ss T j i (inl v))

-- the Full mark
pub shape-marked : (q : ℕ) (T : List ℕ) (ys : List (List ℕ)) (p : ℕ) → Shape q T ys p → Shape q (run (page_state 0 0xFC ∷ []) T) ys p
shape-marked q T ys p H =
    let m = page_state 0 0xFC ∷ [] in
    let i : AllIn 0 4 (page_state 0 0xFC ∷ []) = every_one (In 0 4) _ (omega arith, omega arith) in
    shape-keep q T (run m T) ys p H (length_run m T) (part-kept 0 4 4 28 m T i (inr (omega arith)))
    (λ e h. state-byte 0 e T (run m T) (run-other 0 4 m T (0 + (32 + e / 4)) i (inr (omega arith)))) (λ j u v. run-other 0 4 m T j i (inr (omega arith)))
