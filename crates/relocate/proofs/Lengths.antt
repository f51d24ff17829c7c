-- How many steps a move takes: the items of a page have 126 entries at most. Assumes nothing.
use mathlib.Core.Path.{◌≡◌, refl}
use mathlib.Core.Bool.{Bool, true, false, cond}
use mathlib.Core.List.{List, [], ◌∷◌, ◌++◌}
use Prim.Native.Nat.{ℕ, zero, suc, ◌+◌, ◌-◌, ◌*◌, ◌≤◌}
use native.Mathlib.Omega.{arith}
use lib.ListN.{length, length-append}
use Rattle.entry.specs.Fields.{entry_at, span_of}
use Rattle.page.specs.Walk.{is_item, laid_at, on_from, walk}
use Rattle.page.proofs.Walking.{item_span, raw-span}
use Rattle.flash.specs.Step.{erase}
use Rattle.item.specs.Initialise.{header, initialising}
use Rattle.item.specs.Copy.{copying}
use Rattle.item.proofs.Lengths.{copying_most, initialising_most}
use Rattle.relocate.specs.Move.{copies, moving}

-- from entry i on
copies_most : (base : ℕ) (t : List ℕ) (n i j : ℕ) → length (copies base j (walk t n i)) ≤ 10 * (126 - i)
unfolding walk copies
copies_most base t zero i j = omega arith
copies_most base t (suc n) i j = go (is_item t i) refl (copies_most base t n (on_from t i))
  where
    go : (b : Bool) → is_item t i ≡ b → ((k : ℕ) → length (copies base k (walk t n (on_from t i))) ≤ 10 * (126 - cond b (i + span_of (entry_at t i)) (i + 1)))
        → length (copies base j (cond b (laid_at t i ∷ walk t n (on_from t i)) (walk t n (on_from t i)))) ≤ 10 * (126 - i)
    go true q rest =
        let r = (laid_at t i).raw in
        let s = item_span t i q in
        let e = raw-span t i q in
        omega (arith, s, e, copying_most base j r (omega arith), rest (j + span_of r), length-append (copying base j r) (copies base (j + span_of r) (walk t n (on_from t i))))
    go false q rest = omega (arith, rest j)

-- a sector erased, 8 words of its header, ten steps an entry, the source erased
abbrev pub most_moving : ℕ
most_moving = 1270

pub moving_most : (s t q : ℕ) (x l : List ℕ) → length (moving s t q (walk x 126 0) l) ≤ most_moving
unfolding moving
moving_most s t q x l =
    let c = copies (t * 4096) 0 (walk x 126 0) in
    omega (arith, length-append (initialising t (header q) l) (c ++ (erase s ∷ [])), length-append c (erase s ∷ []), initialising_most t (header q) l, copies_most (t * 4096) x 126 0 0)
