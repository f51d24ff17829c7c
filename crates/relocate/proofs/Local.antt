-- The copies of a walk's items fit on a page: an item is copied to an entry no further on than where the walk met it. Assumes nothing.
use mathlib.Core.Path.{◌≡◌, refl}
use mathlib.Core.Bool.{Bool, true, false, cond}
use mathlib.Core.List.{List, [], ◌∷◌}
use Prim.Native.Nat.{ℕ, zero, suc, ◌+◌, ◌≤◌}
use native.Mathlib.Omega.{arith}
use Rattle.entry.specs.Fields.{entry_at, span_of}
use Rattle.page.specs.Walk.{is_item, Laid, laid_at, on_from, walk}
use Rattle.page.proofs.Walking.{item_span, raw-span}
use Rattle.flash.proofs.Every.{every_none, every_append}
use Rattle.flash.proofs.Frame.{AllIn}
use Rattle.flash.proofs.Lent.{shift, Fit, AllFit, shift-append, shift_in}
use Rattle.item.proofs.Local.{copying-shift, copying_fit}
use Rattle.relocate.specs.Move.{copies}

pub copies-shift : (a j : ℕ) (xs : List Laid) → copies a j xs ≡ shift a (copies 0 j xs)
unfolding copies
copies-shift a j [] = refl
copies-shift a j (x ∷ xs) = rw (copying-shift a j x.raw, copies-shift a (j + span_of x.raw) xs, shift-append a)

pub copies_fit : (t : List ℕ) (n i j : ℕ) → j ≤ i → AllFit 4096 (copies 0 j (walk t n i))
unfolding walk copies
copies_fit t zero i j h = every_none (Fit 4096)
copies_fit t (suc n) i j h = go (is_item t i) refl (copies_fit t n (on_from t i))
  where
    go : (b : Bool) → is_item t i ≡ b → ((k : ℕ) → k ≤ cond b (i + span_of (entry_at t i)) (i + 1) → AllFit 4096 (copies 0 k (walk t n (on_from t i))))
        → AllFit 4096 (copies 0 j (cond b (laid_at t i ∷ walk t n (on_from t i)) (walk t n (on_from t i))))
    go true q rest =
        let f = item_span t i q in
        let e = raw-span t i q in
        every_append (Fit 4096) _ _ (copying_fit j (laid_at t i).raw (omega arith)) (rest (j + span_of (laid_at t i).raw) (omega arith))
    go false q rest = rest j (omega arith)

pub copies_in : (base : ℕ) (t : List ℕ) → AllIn base (base + 4096) (copies base 0 (walk t 126 0))
copies_in base t = rw (copies-shift base 0 (walk t 126 0)) (shift_in base 4096 _ (copies_fit t 126 0 0 (omega arith)))
