-- The list that stage 1 leaves has the pages of the list that it found, each where it stood in the image; its marks change state words alone. Assumes nothing.
use mathlib.Core.Path.{◌≡◌, refl, ap, ◌∙◌}
use mathlib.Core.Logic.{◌⊎◌, inl, inr, ⊎_elim}
use mathlib.Core.Bool.{Bool, true, false, cond}
use mathlib.Core.Option.{Option, none, some}
use mathlib.Core.List.{List, [], ◌∷◌, map}
use Prim.Native.Nat.{ℕ, suc, ◌+◌, ◌*◌, ◌%◌, ◌<◌, ◌≤◌}
use native.Mathlib.Omega.{arith}
use lib.ListN.{get_or}
use Rattle.entry.specs.States.{one}
use Rattle.flash.specs.Step.{Step, run, apply}
use Rattle.flash.proofs.Order.{le-or-gt}
use Rattle.flash.proofs.Laws.{run-append}
use Rattle.flash.proofs.Bytes.{word-other}
use Rattle.item.specs.Mark.{mark_full}
use Rattle.lists.specs.Lists.{keep, greatest, sum_of}
use Rattle.lists.proofs.Member.{◌∈◌, in_append}
use Rattle.lists.proofs.Search.{keep_in, best_in}
use Rattle.lists.proofs.Sums.{sum-append, sum_ext, sum_one, greatest-ge, greatest-lt}
use Rattle.lists.proofs.Maps.{sum-map, map_in}
use Rattle.lists.proofs.Out.{out_in}
use Rattle.table.specs.declared.Page.{Page}
use Rattle.table.specs.Table.{sequence, active_page, in_sector, as_full}
use Rattle.table.specs.PagesPlaced.{times_in, PagesPlaced}
use Rattle.table.proofs.Places.{out-times, length-sum}
use Rattle.order.specs.Order.{newer_page, kept, others, no_empty, ordering, ordered, order_steps, order_list}
use Rattle.order.specs.Turns.{closed_page, full_marks, kept_mark}
use Rattle.order.proofs.Turns.{kept_in, ordering_is, ordered_is}

nothing-kept : (ps : List Page) → kept ps ≡ none → (ordering ps ≡ []) × (ordered ps ≡ ps)
unfolding ordering ordered order_steps order_list
nothing-kept ps e = (rw e, rw e)

kept-active : (ps : List Page) (a : Page) → kept ps ≡ some a → active_page a ≡ true
unfolding kept
kept-active ps a e = (keep_in active_page ps a (best_in newer_page (keep active_page ps) a e)).1

-- ---- sums over the list

module _ {n : ℕ} {ps : List Page} {fs : List ℕ} (h : PagesPlaced n ps fs) where
  -- whatever does not tell an Active page from a Full one
  pub ordered-sum : (f : Page → ℕ) → ((p : Page) → active_page p ≡ true → f (as_full p) ≡ f p) → sum_of f (ordered ps) ≡ sum_of f ps
  ordered-sum f same = go (kept ps) refl
    where
      if_active : (p : Page) (b : Bool) → active_page p ≡ b → f (cond b (as_full p) p) ≡ f p
      if_active p true e = same p e
      if_active p false e = refl

      if_full : (p : Page) (b : Bool) → active_page p ≡ true → f (cond b (as_full p) p) ≡ f p
      if_full p true e = same p e
      if_full p false e = refl

      go : (o : Option Page) → kept ps ≡ o → sum_of f (ordered ps) ≡ sum_of f ps
      go none e = ap (sum_of f) (nothing-kept ps e).1
      go (some a) e =
          let x = cond (no_empty a) (as_full a) a in
          let i : sum_of f (ordered ps) ≡ sum_of f (map closed_page (others a ps)) + sum_of f (x ∷ []) = ap (sum_of f) (ordered_is ps a e) ∙ sum-append f (map closed_page (others a ps)) (x ∷ []) in
          let j : sum_of f (map closed_page (others a ps)) ≡ sum_of f (others a ps) = sum-map f closed_page (others a ps) ∙ sum_ext (λ (p : Page). f (closed_page p)) f (others a ps) (λ p m. if_active p (active_page p) refl) in
          let k = sum_one f (x ∷ []) x refl in
          let v = if_full a (no_empty a) (kept-active ps a e) in
          let w = out-times h a (kept_in ps a e) f in
          omega arith

  pub ordered_placed : PagesPlaced n (ordered ps) fs
  unfolding times_in
  ordered_placed =
      record {
        once = λ u. let a = ordered-sum (λ (p : Page). one (in_sector u p)) (λ p e. refl) in let b = h.once u in omega arith;
        sixteen = let a = ordered-sum (λ (p : Page). 1) (λ p e. refl) in let b = length-sum (ordered ps) in let c = length-sum ps in omega (arith, h.sixteen);
      }

-- ---- each page of it

pub ordered_in : (ps : List Page) (p : Page) → p ∈ ordered ps → (q : Page) × (q ∈ ps) × (p.sector ≡ q.sector) × (sequence p ≡ sequence q)
ordered_in ps p m = go (kept ps) refl
  where
    Was : Page → Type 0
    Was p = (q : Page) × (q ∈ ps) × (p.sector ≡ q.sector) × (sequence p ≡ sequence q)

    either : (q : Page) (b : Bool) → q ∈ ps → Was (cond b (as_full q) q)
    either q true k = (q, k, refl, refl)
    either q false k = (q, k, refl, refl)

    go : (o : Option Page) → kept ps ≡ o → Was p
    go none e = (p, rw (nothing-kept ps e).1 at m, refl, refl)
    go (some a) e = ⊎_elim before last (in_append p (map closed_page (others a ps)) (cond (no_empty a) (as_full a) a ∷ []) (rw (ordered_is ps a e) at m))
      where
        before : p ∈ map closed_page (others a ps) → Was p
        before k =
            let z = map_in closed_page (others a ps) p k in
            rw z.2 (either z.0 (active_page z.0) (out_in (in_sector a.sector) ps z.0 z.1))

        last : p ∈ (cond (no_empty a) (as_full a) a ∷ []) → Was p
        last (inl q) = rw q (either a (no_empty a) (kept_in ps a e))
        last (inr q) = absurd q

pub ordered-greatest : (ps : List Page) → greatest sequence (ordered ps) ≤ greatest sequence ps
ordered-greatest ps =
    let b = greatest-lt sequence (ordered ps) (suc (greatest sequence ps)) (omega arith) (λ p m. let q = ordered_in ps p m in let g = greatest-ge sequence ps q.0 q.1 in omega (arith, q.3)) in
    omega arith

-- ---- the marks

module _ (j : ℕ) (h : 4 ≤ j % 4096) where
  mark_keeps : (s : ℕ) (l : List ℕ) → get_or (apply (mark_full s) l) j 0 ≡ get_or l j 0
  unfolding apply
  mark_keeps s l = word-other l (s * 4096) 0xFC 0xFF 0xFF 0xFF j (beside (le-or-gt (s * 4096) j))
    where
      beside : (s * 4096 ≤ j) ⊎ (j < s * 4096) → (j < s * 4096) ⊎ (s * 4096 + 4 ≤ j)
      beside (inl g) = inr (omega arith)
      beside (inr g) = inl g

  marks-keep : (ps : List Page) (l : List ℕ) → get_or (run (map (λ (p : Page). mark_full p.sector) ps) l) j 0 ≡ get_or l j 0
  unfolding run
  marks-keep [] l = refl
  marks-keep (p ∷ ps) l = marks-keep ps (apply (mark_full p.sector) l) ∙ mark_keeps p.sector l

  last_keeps : (a : Page) (l : List ℕ) → get_or (run (kept_mark a) l) j 0 ≡ get_or l j 0
  unfolding kept_mark
  last_keeps a l = go (no_empty a)
    where
      go : (b : Bool) → get_or (run (cond b (mark_full a.sector ∷ []) []) l) j 0 ≡ get_or l j 0
      go true = marks-keep (a ∷ []) l
      go false = marks-keep [] l

  pub ordering-keeps : (ps : List Page) (l : List ℕ) → get_or (run (ordering ps) l) j 0 ≡ get_or l j 0
  unfolding full_marks
  ordering-keeps ps l = go (kept ps) refl
    where
      at : List ℕ → ℕ
      at m = get_or m j 0

      go : (o : Option Page) → kept ps ≡ o → get_or (run (ordering ps) l) j 0 ≡ get_or l j 0
      go none e = ap (λ (ss : List Step). at (run ss l)) (nothing-kept ps e).0 ∙ marks-keep [] l
      go (some a) e =
          ap (λ (ss : List Step). at (run ss l)) (ordering_is ps a e)
          ∙ ap at (run-append (full_marks (others a ps)) (kept_mark a) l)
          ∙ last_keeps a (run (full_marks (others a ps)) l)
          ∙ marks-keep (keep active_page (others a ps)) l
