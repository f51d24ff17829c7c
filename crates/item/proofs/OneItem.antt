-- One item copied into the target: every cut of it, and its end. Assumes nothing.
use mathlib.Core.Path.{◌∙◌, ◌≡◌, refl, sym}
use mathlib.Core.Logic.{◌⊎◌, inl, inr, ⊎_elim}
use mathlib.Core.List.{List, [], ◌++◌, ◌∷◌}
use Prim.Native.Nat.{◌*◌, ◌+◌, ◌<◌, ◌≤◌, suc, ℕ}
use native.Mathlib.Omega.{arith}
use lib.ListN.{get_or, length, length-drop, length-take, take}
use lib.Seq.{ext_get_or, take-nil}
use Rattle.word.specs.Number.{part}
use Rattle.word.proofs.Bytes.{part-byte}
use Rattle.entry.specs.States.{state_at, written}
use Rattle.entry.specs.Fields.{span_of}
use Rattle.page.proofs.Read.{Word4}
use Rattle.flash.specs.Step.{Step, and8, run}
use Rattle.flash.specs.Words.{words}
use Rattle.flash.proofs.Frame.{AllIn, In, length_run, part-kept, run-other}
use Rattle.flash.proofs.Words.{words-read}
use Rattle.flash.proofs.Laws.{cut-append, run-append}
use Rattle.flash.proofs.Order.{le-or-gt}
use Rattle.flash.proofs.Every.{every_take}
use Rattle.item.specs.Copy.{copying, full_mark}
use Rattle.marking.specs.Marking.{marking}
use Rattle.marking.proofs.Spans.{marking_first, marking_in, marking-keeps, marking_whole}
use Rattle.item.proofs.Turns.{full-no, full-yes}
use Rattle.item.proofs.Packed.{Packed, item_packed, item_words_in}
use Rattle.item.proofs.Marked.{marked-word}
use Rattle.item.proofs.Shape.{Fine, Shape, fine-append, laid-keep, laid-snoc, shape-marked, shape-words, word-keep}

module _ (q : ℕ) (T : List ℕ) (ys : List (List ℕ)) (p : ℕ) (H : Shape q T ys p) (r : List ℕ) (F : Fine r) (fit : p + span_of r ≤ 126) (K : Packed T p) where
  abbrev n : ℕ
  n = span_of r

  abbrev ws : List Step
  ws = words (0 + 64 + p * 32) r 0 (n * 8)

  abbrev st : List Step
  st = marking 0 p n

  abbrev T1 : List ℕ
  T1 = run ws T

  shape-T1 : Shape q T1 ys p
  shape-T1 = shape-words q T ys p (64 + (p + n) * 32) ws (item_words_in p r) H

  read-T1 : (j : ℕ) → j < n * 32 → get_or T1 (64 + p * 32 + j) 0 ≡ get_or r j 0
  read-T1 j h =
      words-read (0 + 64 + p * 32) r T 0 (n * 8) (let a = H.len in omega arith) F.small (λ i a b. K.ones_from (0 + 64 + p * 32 + i) (omega arith) (omega arith)) j (omega arith) (omega arith)

  -- any steps on the state map keep what is read of the item's bytes
  raw_in : (T2 : List ℕ) → length T2 ≡ 4096 → ((i : ℕ) → 64 ≤ i → get_or T2 i 0 ≡ get_or T1 i 0) → part T2 (64 + p * 32) (n * 32) ≡ r
  raw_in T2 ln by =
      let a = F.long in
      ext_get_or 0 _ r (simp (length-take, length-drop, ln) (omega arith)) (λ i g.
      let b : i < n * 32 = omega (arith, simp (length-take, length-drop) at g) in
      part-byte T2 (64 + p * 32) (n * 32) i b ∙ by (64 + p * 32 + i) (omega arith) ∙ read-T1 i b)

  st_in : AllIn 32 64 st
  st_in = marking_in 0 p n fit

  -- after the first of the state words, and any more of them
  pub shape-states : (c : ℕ) → Shape q (run (take (suc c) st) T1) (ys ++ (r ∷ [])) (p + n)
  unfolding and8
  shape-states c =
      let T2 = run (take (suc c) st) T1 in
      let i : AllIn 32 64 (take (suc c) st) = every_take (In 32 64) (suc c) st st_in in
      let l1 = shape-T1.len in
      let ln : length T2 ≡ 4096 = length_run (take (suc c) st) T1 ∙ l1 in
      let by : (j : ℕ) → 64 ≤ j → get_or T2 j 0 ≡ get_or T1 j 0 = (λ j u. run-other 32 64 (take (suc c) st) T1 j i (inr u)) in
      let keeps : (x : ℕ) → (x < p) ⊎ (p + n ≤ x) → state_at T2 x ≡ state_at T1 x = (λ x o. marking-keeps 0 p n fit x o T1 (omega arith) (suc c)) in
      let some_span = F.some in
      let first : state_at T2 p ≡ written = marking_first 0 p n fit T1 (omega arith) some_span c ∙ rw (shape-T1.empty_from p (omega arith) (omega arith)) in
      record {
        len = ln;
        tail = part-kept 32 64 4 28 (take (suc c) st) T1 i (inl (omega arith)) ∙ shape-T1.tail;
        laid = laid-snoc T2 0 ys p r (laid-keep T1 T2 p (ln ∙ sym l1) (λ x h. keeps x (inl h)) (λ j u v. by j u) 0 ys H.fine shape-T1.laid) first (raw_in T2 ln by);
        empty_from = λ x a b. keeps x (inr a) ∙ shape-T1.empty_from x (omega arith) b;
        fits = fit;
        fine = fine-append ys (r ∷ []) H.fine (F, tt);
      }

  abbrev fm : List Step
  fm = full_mark 0 (p + n)

  abbrev ys' : List (List ℕ)
  ys' = ys ++ (r ∷ [])

  shape-T2 : Shape q (run st T1) ys' (p + n)
  shape-T2 = rw (marking_whole 0 p n) at (shape-states (length st))

  packed-T3 : Packed (run fm (run st T1)) (p + n)
  packed-T3 = item_packed T p r K F.some fit

  module _ (W : Word4 T 0xFE) where
    word-T1 : Word4 T1 0xFE
    word-T1 = word-keep ws T (64 + p * 32) (64 + (p + n) * 32) 0xFE (item_words_in p r) (omega arith) W

    word-T2 : Word4 (run st T1) 0xFE
    word-T2 = word-keep st T1 32 64 0xFE st_in (omega arith) word-T1

    -- the Full mark where it is due
    abbrev Ended : List ℕ → Type 0
    Ended T3 = Shape q T3 ys' (p + n) × Packed T3 (p + n) × (((p + n < 126) × Word4 T3 0xFE) ⊎ ((p + n ≡ 126) × Word4 T3 0xFC))

    end-T3 : Ended (run fm (run st T1))
    unfolding and8
    end-T3 = ⊎_elim (λ h. yes (omega arith)) (λ h. not (omega arith)) (le-or-gt 126 (p + n))
      where
        yes : p + n ≡ 126 → Ended (run fm (run st T1))
        yes e =
            let k = rw (full-yes 0 (p + n) e) at packed-T3 in
            rw (full-yes 0 (p + n) e) (shape-marked q (run st T1) ys' (p + n) shape-T2, k, inr (e, marked-word (run st T1) 0xFC (let l2 = shape-T2.len in omega arith) 0xFE 0xFC word-T2 refl))

        not : p + n < 126 → Ended (run fm (run st T1))
        not h =
            let d : (p + n ≡ 126 → ⊥) = (λ e. omega arith) in
            let k = rw (full-no 0 (p + n) d) at packed-T3 in
            rw (full-no 0 (p + n) d) (unfold run in (shape-T2, k, inl (h, word-T2)))

    -- the end: the item is laid, and the page marked Full where it is used up
    pub item_end : Ended (run (copying 0 p r) T)
    unfolding copying
    item_end = rw (run-append ws (st ++ fm) T, run-append st fm T1) end-T3

    -- a cut: the item is not there, or it is, or the page is marked too
    pub item_cut : (k : ℕ) → (Shape q (run (take k (copying 0 p r)) T) ys p × Word4 (run (take k (copying 0 p r)) T) 0xFE)
        ⊎ ((Shape q (run (take k (copying 0 p r)) T) ys' (p + n) × Word4 (run (take k (copying 0 p r)) T) 0xFE) ⊎ Ended (run (take k (copying 0 p r)) T))
    unfolding copying
    item_cut k =
        ⊎_elim (λ e. inl (rw e (in_words k))) (λ e. rw e.1 (rw (run-append ws (take (suc e.0) (st ++ fm)) T) (inr (past e.0)))) (cut-append k ws (st ++ fm))
      where
        in_words : (k : ℕ) → Shape q (run (take k ws) T) ys p × Word4 (run (take k ws) T) 0xFE
        in_words k =
            let i = every_take (In (64 + p * 32) (64 + (p + n) * 32)) k ws (item_words_in p r) in
            (shape-words q T ys p (64 + (p + n) * 32) (take k ws) i H, word-keep (take k ws) T (64 + p * 32) (64 + (p + n) * 32) 0xFE i (omega arith) W)

        past-full : (j : ℕ) → Ended (run (take (suc j) fm) (run st T1))
        past-full j = ⊎_elim (λ h. let e : p + n ≡ 126 = omega arith in yes e) (λ h. not (omega arith)) (le-or-gt 126 (p + n))
          where
            yes : p + n ≡ 126 → Ended (run (take (suc j) fm) (run st T1))
            yes e = let z = rw (full-yes 0 (p + n) e) at end-T3 in rw (full-yes 0 (p + n) e) (rw (take-nil {A = Step} j) z)

            not : p + n < 126 → Ended (run (take (suc j) fm) (run st T1))
            not h = let d : (p + n ≡ 126 → ⊥) = (λ e. omega arith) in let z = rw (full-no 0 (p + n) d) at end-T3 in rw (full-no 0 (p + n) d) z

        past : (j : ℕ)
            → (Shape q (run (take (suc j) (st ++ fm)) T1) ys' (p + n) × Word4 (run (take (suc j) (st ++ fm)) T1) 0xFE) ⊎ Ended (run (take (suc j) (st ++ fm)) T1)
        past j = ⊎_elim
            (λ e. inl (rw e (shape-states j, word-keep (take (suc j) st) T1 32 64 0xFE (every_take (In 32 64) (suc j) st st_in) (omega arith) word-T1)))
            (λ e. inr (rw e.1 (rw (run-append st (take (suc e.0) fm) T1) (past-full e.0))))
            (cut-append (suc j) st fm)
