-- All items of the source copied into the target: every cut, and the end. Assumes nothing.
use mathlib.Core.Path.{◌∙◌, ◌≡◌, ap, refl, sym}
use mathlib.Core.Logic.{◌⊎◌, inl, inr, ⊎_elim}
use mathlib.Core.Bool.{Bool, cond, false, true}
use mathlib.Core.List.{List, [], ◌++◌, ◌∷◌, append_assoc, append-nil}
use Prim.Native.Nat.{◌*◌, ◌+◌, ◌-◌, ◌<◌, ◌^◌, ◌≤◌, suc, zero, ℕ}
use native.Mathlib.Omega.{arith}
use lib.ListN.{drop, get_or, length, length-drop, length-take, take}
use lib.Seq.{take-nil, take-take}
use Rattle.entry.specs.Fields.{entry_at, span_of}
use Rattle.lists.specs.Lists.{sum_of}
use Rattle.lists.proofs.Maps.{in_map, map_in}
use Rattle.lists.proofs.Member.{◌∈◌, in_left, true≢false}
use Rattle.page.specs.declared.state.PageState.TheVariants.{Active, Full}
use Rattle.page.specs.State.{is_free, sequence_of, state_of}
use Rattle.page.specs.Walk.{Laid, is_item, items_of, laid_at, on_from, right_header, walk}
use Rattle.page.proofs.Walking.{raw-span}
use Rattle.page.proofs.Items.{IsItem, is_item_lem, item_is, raw_at}
use Rattle.page.proofs.Read.{Word4, no_room}
use Rattle.flash.specs.Step.{Step, run}
use Rattle.flash.proofs.Laws.{cut-append, run-append}
use Rattle.flash.proofs.Lent.{AllFit, Fit}
use Rattle.flash.proofs.Order.{le-or-gt}
use Rattle.flash.proofs.Every.{every_append, every_none}
use Rattle.flash.proofs.Small.{part_small}
use Rattle.item.specs.Copy.{copying}
use Rattle.item.proofs.Local.{copying_fit}
use Rattle.item.proofs.Packed.{Packed}
use Rattle.item.proofs.Shape.{AllFine, Fine, Rows, Shape, raws, shape-active, shape-full, shape-items, shape-room, shape-sequence}
use Rattle.item.proofs.OneItem.{item_cut, item_end}
use Rattle.relocate.specs.Move.{copies}

-- how many entries they take
abbrev pub spans : List (List ℕ) → ℕ
spans rs = sum_of (λ (r : List ℕ). span_of r) rs

-- R is what is to be copied: a part of it is laid, and the page is Active; or all of it, and it is Full
pub record Going (q : ℕ) (R : List (List ℕ)) (T : List ℕ) : Type 0 where
  pub ys : List (List ℕ)
  pub p : ℕ
  pub more : List (List ℕ)
  pub shape : Shape q T ys p
  pub word : Word4 T 0xFE
  pub all : ys ++ more ≡ R
  pub fit : p + spans more ≤ 126
  pub fine : AllFine more

-- all is laid, and its entries are Written with the sector blank behind them: the page is Active and has room, or it is Full
pub record Ready (q : ℕ) (R : List (List ℕ)) (T : List ℕ) : Type 0 where
  pub p : ℕ
  pub shape : Shape q T R p
  pub packed : Packed T p
  pub word : ((p < 126) × Word4 T 0xFE) ⊎ Word4 T 0xFC

-- it is packed up to where the items end
rows_end : (T : List ℕ) (j : ℕ) (rs : List (List ℕ)) (p : ℕ) → Rows T j rs p → p ≡ j + spans rs
unfolding sum_of
rows_end T j [] p e = omega arith
rows_end T j (r ∷ rs) p e = let a = rows_end T (j + span_of r) rs p e.2 in omega arith

pub ready-packed : (q : ℕ) (R : List (List ℕ)) (T : List ℕ) → Ready q R T → Packed T (spans R)
ready-packed q R T D =
    let e = rows_end T 0 R D.p D.shape.laid in
    let z : D.p ≡ spans R = omega arith in
    rw z at D.packed

module _ (q : ℕ) (R : List (List ℕ)) where
  -- where the page is full, nothing is left to copy
  none_more : (T : List ℕ) (ys : List (List ℕ)) (p : ℕ) (xs : List Laid) → Shape q T ys p → Packed T p → p ≡ 126 → Word4 T 0xFC → ys ++ raws xs ≡ R
      → p + spans (raws xs) ≤ 126 → AllFine (raws xs) → Ready q R (run (copies 0 p xs) T)
  unfolding copies run sum_of
  none_more T ys p [] S k z w e f F = let y : ys ≡ R = sym (append-nil ys) ∙ e in record { p = p; shape = rw y at S; packed = k; word = inr w }
  none_more T ys p (x ∷ xs) S k z w e f F = let b = F.0.some in absurd (omega arith)

  -- one item copied, and then the rest
  one_more : (T : List ℕ) (ys : List (List ℕ)) (p : ℕ) (x : Laid) (xs : List Laid) → Shape q T ys p → Word4 T 0xFE → Packed T p
      → ys ++ raws (x ∷ xs) ≡ R → p + spans (raws (x ∷ xs)) ≤ 126 → AllFine (raws (x ∷ xs))
      → (let T' = run (copying 0 p x.raw) T in let ys' = ys ++ (x.raw ∷ []) in let p' = p + span_of x.raw in
      Shape q T' ys' p' → (p' < 126) → Word4 T' 0xFE → Packed T' p' → ys' ++ raws xs ≡ R → p' + spans (raws xs) ≤ 126 → AllFine (raws xs) → Ready q R (run (copies 0 p' xs) T'))
      → Ready q R (run (copies 0 p (x ∷ xs)) T)
  unfolding copies sum_of
  one_more T ys p x xs H W K e f F rest =
      let r = x.raw in
      let d = item_end q T ys p H r F.0 (omega arith) K W in
      let a : (ys ++ (r ∷ [])) ++ raws xs ≡ R = append_assoc ys (r ∷ []) (raws xs) ∙ e in
      rw (run-append (copying 0 p r) (copies 0 (p + span_of r) xs) T)
      (⊎_elim (λ k. rest d.0 k.0 k.1 d.1 a (omega arith) F.1)
      (λ k. none_more (run (copying 0 p r) T) (ys ++ (r ∷ [])) (p + span_of r) xs d.0 d.1 k.0 k.1 a (omega arith) F.1) d.2)

  -- all items copied
  pub copies_end : (T : List ℕ) (ys : List (List ℕ)) (p : ℕ) (xs : List Laid) → Shape q T ys p → (p < 126) → Word4 T 0xFE
      → Packed T p → ys ++ raws xs ≡ R → p + spans (raws xs) ≤ 126 → AllFine (raws xs) → Ready q R (run (copies 0 p xs) T)
  unfolding copies run
  copies_end T ys p [] H h W K e f F = let z : ys ≡ R = sym (append-nil ys) ∙ e in record { p = p; shape = rw z at H; packed = K; word = inl (h, W) }
  copies_end T ys p (x ∷ xs) H h W K e f F =
      one_more T ys p x xs H W K e f F (copies_end (run (copying 0 p x.raw) T) (ys ++ (x.raw ∷ [])) (p + span_of x.raw) xs)

  -- a cut anywhere
  pub copies-cut : (T : List ℕ) (ys : List (List ℕ)) (p : ℕ) (xs : List Laid) (k : ℕ) → Shape q T ys p → (p < 126) → Word4 T 0xFE
      → Packed T p → ys ++ raws xs ≡ R → p + spans (raws xs) ≤ 126 → AllFine (raws xs) → Going q R (run (take k (copies 0 p xs)) T) ⊎ Ready q R (run (take k (copies 0 p xs)) T)
  unfolding copies run sum_of
  copies-cut T ys p [] k H h W K e f F = rw (take-nil {A = Step} k) (inl (record { ys = ys; p = p; more = []; shape = H; word = W; all = e; fit = f; fine = tt }))
  copies-cut T ys p (x ∷ xs) k H h W K e f F =
      let r = x.raw in
      let T' = run (copying 0 p r) T in
      let d = item_end q T ys p H r F.0 (omega arith) K W in
      let a : (ys ++ (r ∷ [])) ++ raws xs ≡ R = append_assoc ys (r ∷ []) (raws xs) ∙ e in
      ⊎_elim
      (λ c. rw c (within (item_cut q T ys p H r F.0 (omega arith) K W k) a))
      (λ c. rw c.1 (rw (run-append (copying 0 p r) (take (suc c.0) (copies 0 (p + span_of r) xs)) T)
      (⊎_elim (λ z. copies-cut T' (ys ++ (r ∷ [])) (p + span_of r) xs (suc c.0) d.0 z.0 z.1 d.1 a (omega arith) F.1)
      (λ z. inr (over T' (ys ++ (r ∷ [])) (p + span_of r) xs (suc c.0) d.0 d.1 z.0 z.1 a (omega arith) F.1)) d.2)))
      (cut-append k (copying 0 p r) (copies 0 (p + span_of r) xs))
    where
      over : (T' : List ℕ) (ys' : List (List ℕ)) (p' : ℕ) (xs : List Laid) (j : ℕ) → Shape q T' ys' p' → Packed T' p' → p' ≡ 126 → Word4 T' 0xFC → ys' ++ raws xs ≡ R
          → p' + spans (raws xs) ≤ 126 → AllFine (raws xs) → Ready q R (run (take j (copies 0 p' xs)) T')
      over T' ys' p' [] j S k z w a g K = let y : ys' ≡ R = sym (append-nil ys') ∙ a in rw (take-nil {A = Step} j) (record { p = p'; shape = rw y at S; packed = k; word = inr w })
      over T' ys' p' (y ∷ xs) j S k z w a g K = let b = K.0.some in absurd (omega arith)

      none_left : (p' : ℕ) (xs : List Laid) → p' ≡ 126 → p' + spans (raws xs) ≤ 126 → AllFine (raws xs) → raws xs ≡ []
      none_left p' [] z g K = refl
      none_left p' (y ∷ xs) z g K = let b = K.0.some in absurd (omega arith)

      within : {T2 : List ℕ}
          → (Shape q T2 ys p × Word4 T2 0xFE) ⊎
          ((Shape q T2 (ys ++ (x.raw ∷ [])) (p + span_of x.raw) × Word4 T2 0xFE) ⊎ (Shape q T2 (ys ++ (x.raw ∷ [])) (p + span_of x.raw) × Packed T2 (p + span_of x.raw) × (((p + span_of x.raw < 126) × Word4 T2 0xFE) ⊎ ((p + span_of x.raw ≡ 126) × Word4 T2 0xFC))))
          → (ys ++ (x.raw ∷ [])) ++ raws xs ≡ R → Going q R T2 ⊎ Ready q R T2
      within (inl z) a = inl (record { ys = ys; p = p; more = x.raw ∷ raws xs; shape = z.0; word = z.1; all = e; fit = f; fine = F })
      within (inr (inl z)) a =
          inl (record { ys = ys ++ (x.raw ∷ []); p = p + span_of x.raw; more = raws xs; shape = z.0; word = z.1; all = a; fit = omega arith; fine = F.1 })
      within (inr (inr (s, k, inl z))) a =
          inl (record { ys = ys ++ (x.raw ∷ []); p = p + span_of x.raw; more = raws xs; shape = s; word = z.1; all = a; fit = omega arith; fine = F.1 })
      within (inr (inr (s, k, inr z))) a =
          let y : ys ++ (x.raw ∷ []) ≡ R = sym (append-nil (ys ++ (x.raw ∷ []))) ∙ ap {B = List (List ℕ)} (λ (w : List (List ℕ)). (ys ++ (x.raw ∷ [])) ++ w) (sym (none_left (p + span_of x.raw) xs z.0 (omega arith) F.1)) ∙ a in
          inr (record { p = p + span_of x.raw; shape = rw y at s; packed = k; word = inr z.1 })

⊎_swap : {A B : Type 0} → A ⊎ B → B ⊎ A
⊎_swap (inl a) = inr a
⊎_swap (inr b) = inl b

more_none : (rs : List (List ℕ)) → AllFine rs → spans rs ≤ 0 → rs ≡ []
unfolding sum_of
more_none [] F h = refl
more_none (r ∷ rs) F h = let b = F.0.some in absurd (omega arith)

-- each item of the target is one of the source's, and they are all there where no entry is Empty
pub record Partial (S T : List ℕ) : Type 0 where
  pub sub : (y : Laid) → y ∈ items_of T → (x : Laid) × (x ∈ items_of S) × (y.raw ≡ x.raw)
  pub complete : no_room T ≡ true → raws (items_of T) ≡ raws (items_of S)

-- an Active page or a Full one
abbrev pub Settled : List ℕ → Type 0
Settled T = (state_of T ≡ Active) ⊎ (state_of T ≡ Full)

-- ---- what is read of it
module _ (q : ℕ) (xs : List Laid) (T : List ℕ) where
  -- a page to which a part was copied
  pub going-active : Going q (raws xs) T → state_of T ≡ Active
  going-active G = shape-active q T G.ys G.p G.shape G.word

  -- its items are the source's, and all of them where no entry is Empty
  pub going_partial : (S : List ℕ) → items_of S ≡ xs → Going q (raws xs) T → Partial S T
  going_partial S e G =
      let it : raws (items_of T) ≡ G.ys = shape-items q T G.ys G.p G.shape (rw (going-active G)) in
      record {
        sub = λ y m. (let k : y.raw ∈ G.ys = rw it at (in_map (λ (i : Laid). i.raw) (items_of T) y m) in
            let j : y.raw ∈ raws (items_of S) = rw e (rw G.all at (in_left y.raw G.ys G.more k)) in
            map_in (λ (i : Laid). i.raw) (items_of S) y.raw j);
        complete = λ ne. ⊎_elim (λ h. absurd (true≢false ne (shape-room q T G.ys G.p G.shape h))) (λ h. it ∙ none h ∙ rw e) (⊎_swap (le-or-gt 126 G.p));
      }
    where
      none : 126 ≤ G.p → G.ys ≡ raws xs
      none h =
          let f = G.fit in let z = more_none G.more G.fine (omega arith) in sym (append-nil G.ys) ∙ ap {B = List (List ℕ)} (λ (w : List (List ℕ)). G.ys ++ w) (sym z) ∙ G.all

  pub going-seq : q < 2 ^ 32 → Going q (raws xs) T → sequence_of T ≡ q
  going-seq h G = shape-sequence q T G.ys G.p G.shape h

  -- all there
  pub ready_settled : Ready q (raws xs) T → Settled T
  ready_settled D =
      ⊎_elim (λ k. inl (shape-active q T (raws xs) D.p D.shape k.1))
      (λ k. inr (shape-full q T (raws xs) D.p D.shape k)) D.word

  -- and its items are the source's
  pub ready-items : Ready q (raws xs) T → raws (items_of T) ≡ raws xs
  ready-items D = shape-items q T (raws xs) D.p D.shape (⊎_elim (λ k. rw k) (λ k. rw k) (ready_settled D))

  pub ready-seq : q < 2 ^ 32 → Ready q (raws xs) T → sequence_of T ≡ q
  ready-seq h D = shape-sequence q T (raws xs) D.p D.shape h

-- ---- the source's items

module _ (S : List ℕ) (len : length S ≡ 4096) (small : (i : ℕ) → get_or S i 0 < 256) where
  fine-raw : (e : ℕ) → IsItem S e → Fine (raw_at S e)
  fine-raw e I =
      let a = I.ends in
      let b = I.some in
      let sp = raw-span S e (is_item_lem S e I) in
      record {
        right = ap right_header (head_is e b) ∙ I.right;
        some = rw sp b;
        long = long_is e a ∙ ap (λ (k : ℕ). k * 32) (sym sp);
        small = λ i. tiny e i;
      }
    where
      long_is : (e : ℕ) → e + span_of (entry_at S e) ≤ 126 → length (raw_at S e) ≡ span_of (entry_at S e) * 32
      long_is e a = simp (length-take, length-drop, len) (omega arith)

      head_is : (e : ℕ) → 1 ≤ span_of (entry_at S e) → take 32 (raw_at S e) ≡ entry_at S e
      head_is e b = take-take 32 (span_of (entry_at S e) * 32) (drop (64 + e * 32) S) (omega arith)

      tiny : (e i : ℕ) → get_or (raw_at S e) i 0 < 256
      tiny e i = part_small S (64 + e * 32) (span_of (entry_at S e) * 32) small i

  walk_fine : (n i : ℕ) → AllFine (raws (walk S n i)) × (spans (raws (walk S n i)) ≤ 126 - i)
  unfolding walk sum_of
  walk_fine zero i = (tt, omega arith)
  walk_fine (suc n) i = go (is_item S i) refl (walk_fine n (on_from S i))
    where
      go : (b : Bool) → is_item S i ≡ b
          → AllFine (raws (walk S n (on_from S i))) × (spans (raws (walk S n (on_from S i))) ≤ 126 - cond b (i + span_of (entry_at S i)) (i + 1))
          → AllFine (raws (cond b (laid_at S i ∷ walk S n (on_from S i)) (walk S n (on_from S i)))) ×
          (spans (raws (cond b (laid_at S i ∷ walk S n (on_from S i)) (walk S n (on_from S i)))) ≤ 126 - i)
      go true q x = let I = item_is S i q in let a = raw-span S i q in let b = I.ends in let c = x.1 in ((fine-raw i I, x.0), omega arith)
      go false q x = let c = x.1 in (x.0, omega arith)

  -- the items of a page are fine, and fit on one
  pub items-fine : AllFine (raws (items_of S)) × (spans (raws (items_of S)) ≤ 126)
  unfolding items_of sum_of
  items-fine = go (is_free (state_of S)) (walk_fine 126 0)
    where
      go : (b : Bool) → AllFine (raws (walk S 126 0)) × (spans (raws (walk S 126 0)) ≤ 126 - 0)
          → AllFine (raws (cond b [] (walk S 126 0))) × (spans (raws (cond b [] (walk S 126 0))) ≤ 126)
      go true x = (tt, omega arith)
      go false x = let c = x.1 in (x.0, omega arith)

-- ---- the steps lie in the sector
pub fine_fit : (p : ℕ) (xs : List Laid) → AllFine (raws xs) → p + spans (raws xs) ≤ 126 → AllFit 4096 (copies 0 p xs)
unfolding copies sum_of
fine_fit p [] F h = every_none (Fit 4096)
fine_fit p (x ∷ xs) F h =
    every_append (Fit 4096) _ _ (copying_fit p x.raw (let b = F.0.some in omega arith)) (fine_fit (p + span_of x.raw) xs F.1 (omega arith))
