-- Moving the items of a sector: every cut of it, on the image. Assumes nothing.
use mathlib.Core.Path.{◌∙◌, ◌≡◌, refl, sym}
use mathlib.Core.Logic.{◌⊎◌, inl, inr, ⊎_elim}
use mathlib.Core.Bool.{Bool, cond, false, true}
use mathlib.Core.List.{List, [], ◌++◌, ◌∷◌}
use Prim.Native.Nat.{◌*◌, ◌+◌, ◌≤◌, suc, zero, ℕ}
use native.Mathlib.Omega.{arith}
use lib.ListN.{length, take}
use lib.Seq.{take-nil}
use Rattle.page.specs.State.{all_ones, is_free, state_of}
use Rattle.page.specs.Walk.{Laid}
use Rattle.page.proofs.Read.{ones_byte}
use Rattle.flash.specs.Words.{words}
use Rattle.flash.specs.Step.{Step, blank, erase, run, sector}
use Rattle.flash.proofs.Erased.{blank-byte, erased-blank, length-sector}
use Rattle.flash.proofs.Frame.{In, erase_in, length_run, sector-kept}
use Rattle.flash.proofs.Laws.{cut-append, run-append}
use Rattle.flash.proofs.Lent.{AllFit, Fit, sector-local, shift, shift_in, take-shift}
use Rattle.flash.proofs.Every.{every_append, every_take}
use Rattle.item.specs.Initialise.{clearing, header}
use Rattle.item.proofs.Local.{header_fit}
use Rattle.item.proofs.Clearing.{clearing_in}
use Rattle.item.proofs.Fresh.{blank_free, init_junk, init_packed, init_shape, init_word, init_steps}
use Rattle.item.proofs.Packed.{Ones, Packed}
use Rattle.item.proofs.Shape.{AllFine, raws}
use Rattle.relocate.specs.Move.{copies, moving}
use Rattle.relocate.proofs.Filling.{fill, moving-fills}
use Rattle.relocate.proofs.Copies.{Going, Ready, copies-cut, copies_end, fine_fit, ready-packed, spans}

module _ (q : ℕ) (xs : List Laid) (F : AllFine (raws xs)) (fit : spans (raws xs) ≤ 126) where
  module _ (T : List ℕ) (len : length T ≡ 4096) (on : Ones T 0) where
    abbrev I : List ℕ
    I = run (init_steps q) T

    fill_end : Ready q (raws xs) (run (fill q xs) T)
    fill_end = rw (run-append (init_steps q) (copies 0 0 xs) T)
        (copies_end q (raws xs) I [] 0 xs (init_shape q T len on) (omega arith) (init_word q T len on) (init_packed q T len on) refl (omega arith) F)

    start : Going q (raws xs) I
    start = record { ys = []; p = 0; more = raws xs; shape = init_shape q T len on; word = init_word q T len on; all = refl; fit = omega arith; fine = F }

    fill-cut : (k : ℕ)
        → (is_free (state_of (run (take k (fill q xs)) T)) ≡ true) ⊎ (Going q (raws xs) (run (take k (fill q xs)) T) ⊎ Ready q (raws xs) (run (take k (fill q xs)) T))
    fill-cut k = ⊎_elim
        (λ e. rw e (head k))
        (λ e. rw e.1 (rw (run-append (init_steps q) (take (suc e.0) (copies 0 0 xs)) T)
        (inr (copies-cut q (raws xs) I [] 0 xs (suc e.0) (init_shape q T len on) (omega arith) (init_word q T len on) (init_packed q T len on) refl (omega arith) F))))
        (cut-append k (init_steps q) (copies 0 0 xs))
      where
        one_left : (j : ℕ) → take (suc j) (words 0 (header q) 0 1) ≡ words 0 (header q) 0 1
        one_left j = unfold words in rw (take-nil {A = Step} j)

        head : (k : ℕ)
            → (is_free (state_of (run (take k (init_steps q)) T)) ≡ true) ⊎
            (Going q (raws xs) (run (take k (init_steps q)) T) ⊎ Ready q (raws xs) (run (take k (init_steps q)) T))
        head k =
            ⊎_elim (λ e. inl (rw e (init_junk q T len on k))) (λ e. inr (inl (rw (e.1, one_left e.0) start)))
            (cut-append k (words 0 (header q) 1 7) (words 0 (header q) 0 1))

  fill_fit : AllFit 4096 (fill q xs)
  fill_fit = every_append (Fit 4096) _ _ (header_fit (header q)) (fine_fit 0 xs F (omega arith))

  -- ---- on the image
  pub data Cut (s t : ℕ) (l m : List ℕ) : Type 0 where
    unmade : ((u : ℕ) → (u ≡ t → ⊥) → sector u m ≡ sector u l) → is_free (state_of (sector t m)) ≡ true → Cut s t l m
    going : ((u : ℕ) → (u ≡ t → ⊥) → sector u m ≡ sector u l) → Going q (raws xs) (sector t m) → Cut s t l m
    ready : ((u : ℕ) → (u ≡ t → ⊥) → sector u m ≡ sector u l) → Ready q (raws xs) (sector t m) → Cut s t l m
    ended : ((u : ℕ) → (u ≡ t → ⊥) → (u ≡ s → ⊥) → sector u m ≡ sector u l) → Ready q (raws xs) (sector t m) → sector s m ≡ blank 4096 → Cut s t l m

  module _ (s t : ℕ) (l : List ℕ) (ht : t * 4096 + 4096 ≤ length l) (hs : s * 4096 + 4096 ≤ length l) (ne : s ≡ t → ⊥) (free : is_free (state_of (sector t l)) ≡ true) where
    -- after the clearing
    abbrev l1 : List ℕ
    l1 = run (clearing t l) l

    len_t : length (sector t l) ≡ 4096
    len_t = length-sector t l ∙ omega arith

    clear-cut : (k : ℕ) → is_free (state_of (sector t (run (take k (clearing t l)) l))) ≡ true
    unfolding clearing
    clear-cut k = go (all_ones (sector t l)) k
      where
        go : (b : Bool) (k : ℕ) → is_free (state_of (sector t (run (take k (cond b [] (erase t ∷ []))) l))) ≡ true
        go true k = rw (take-nil {A = Step} k) (unfold run in free)
        go false zero = unfold run in free
        go false (suc k) = rw (take-nil {A = Step} k) (rw (erased-blank l t ht) blank_free)

    clear_ones : Ones (sector t l1) 0
    unfolding clearing
    clear_ones = go (all_ones (sector t l)) refl
      where
        go : (b : Bool) → all_ones (sector t l) ≡ b → Ones (sector t (run (cond b [] (erase t ∷ [])) l)) 0
        go true e i a b = unfold run in ones_byte (sector t l) e i (let z = len_t in omega arith)
        go false e i a b = rw (erased-blank l t ht) (blank-byte 4096 i b)

    len-l1 : length l1 ≡ length l
    len-l1 = length_run (clearing t l) l

    len_t1 : length (sector t l1) ≡ 4096
    len_t1 = length-sector t l1 ∙ (let z = len-l1 in omega arith)

    others_1 : (u : ℕ) → (u ≡ t → ⊥) → sector u l1 ≡ sector u l
    others_1 u k = sector-kept u t (clearing t l) l k (clearing_in t l)

    others_2 : (ss : List Step) → AllFit 4096 ss → (u : ℕ) → (u ≡ t → ⊥) → sector u (run (shift (t * 4096) ss) l1) ≡ sector u l
    others_2 ss f u k = sector-kept u t (shift (t * 4096) ss) l1 k (shift_in (t * 4096) 4096 ss f) ∙ others_1 u k

    -- in the filling
    filling : (j : ℕ) → Cut s t l (run (take j (shift (t * 4096) (fill q xs))) l1)
    filling j =
        let ss = take j (fill q xs) in
        let f = every_take (Fit 4096) j (fill q xs) fill_fit in
        let loc = sector-local t (take j (fill q xs)) l1 f in
        let o = others_2 (take j (fill q xs)) f in
        rw (take-shift (t * 4096) j (fill q xs))
        (⊎_elim (λ c. unmade o (rw loc c)) (λ c. ⊎_elim (λ d. going o (rw loc d)) (λ d. ready o (rw loc d)) c) (fill-cut (sector t l1) len_t1 clear_ones j))

    abbrev Whole : List ℕ → Type 0
    Whole m = ((u : ℕ) → (u ≡ t → ⊥) → (u ≡ s → ⊥) → sector u m ≡ sector u l) × Ready q (raws xs) (sector t m) × (sector s m ≡ blank 4096)

    whole : Whole (run (erase s ∷ []) (run (shift (t * 4096) (fill q xs)) l1))
    whole =
        let l2 = run (shift (t * 4096) (fill q xs)) l1 in
        let n2 : length l2 ≡ length l = length_run (shift (t * 4096) (fill q xs)) l1 ∙ len-l1 in
        let kept : (u : ℕ) → (u ≡ s → ⊥) → sector u (run (erase s ∷ []) l2) ≡ sector u l2 = (λ u k. sector-kept u s (erase s ∷ []) l2 k (erase_in s)) in
        let at : sector t (run (erase s ∷ []) l2) ≡ run (fill q xs) (sector t l1) = kept t (λ e. ne (sym e)) ∙ sector-local t (fill q xs) l1 fill_fit in
        (λ u a b. kept u b ∙ others_2 (fill q xs) fill_fit u a, rw at (fill_end (sector t l1) len_t1 clear_ones), erased-blank l2 s (omega arith))

    -- the end: the target has the items, and the source is blank
    pub move_end : ((u : ℕ) → (u ≡ t → ⊥) → (u ≡ s → ⊥) → sector u (run (moving s t q xs l) l) ≡ sector u l) × Ready q (raws xs) (sector t (run (moving s t q xs l) l)) × (sector s (run (moving s t q xs l) l) ≡ blank 4096)
    move_end =
        rw (moving-fills s t q xs l, run-append (clearing t l) (shift (t * 4096) (fill q xs) ++ (erase s ∷ [])) l, run-append (shift (t * 4096) (fill q xs)) (erase s ∷ []) l1) whole

    -- so all entries of the copy are Written, and behind them the sector is blank: the next item can be written there
    pub moved-packed : Packed (sector t (run (moving s t q xs l) l)) (spans (raws xs))
    moved-packed = ready-packed q (raws xs) (sector t (run (moving s t q xs l) l)) move_end.1

    -- and every cut
    pub move_cut : (k : ℕ) → Cut s t l (run (take k (moving s t q xs l)) l)
    move_cut k = rw (moving-fills s t q xs l) (⊎_elim
        (λ e. rw e (unmade (λ u a. sector-kept u t (take k (clearing t l)) l a (every_take (In (t * 4096) (t * 4096 + 4096)) k _ (clearing_in t l))) (clear-cut k)))
        (λ e. rw e.1 (rw (run-append (clearing t l) (take (suc e.0) (shift (t * 4096) (fill q xs) ++ (erase s ∷ []))) l) (past e.0)))
        (cut-append k (clearing t l) (shift (t * 4096) (fill q xs) ++ (erase s ∷ []))))
      where
        past : (j : ℕ) → Cut s t l (run (take (suc j) (shift (t * 4096) (fill q xs) ++ (erase s ∷ []))) l1)
        past j = ⊎_elim
            (λ e. rw e (filling (suc j)))
            (λ e. rw e.1 (rw (take-nil {A = Step} e.0) (rw (run-append (shift (t * 4096) (fill q xs)) (erase s ∷ []) l1) (ended whole.0 whole.1 whole.2))))
            (cut-append (suc j) (shift (t * 4096) (fill q xs)) (erase s ∷ []))
