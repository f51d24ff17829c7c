-- An item that was found has a span, so that erasing it takes a step. Assumes nothing.
use mathlib.Core.Path.{◌≡◌, refl, sym, ap, ◌∙◌}
use mathlib.Core.Logic.{inl}
use mathlib.Core.List.{List, [], ◌∷◌, flat_map}
use Prim.Native.Nat.{ℕ, ◌≤◌}
use native.Mathlib.Omega.{arith}
use lib.ListN.{length}
use Rattle.entry.specs.Fields.{span_of}
use Rattle.flash.specs.Step.{sector}
use Rattle.lists.proofs.Maps.{flat_map_in, map_in}
use Rattle.lists.proofs.Member.{◌∈◌, nil_left}
use Rattle.page.proofs.Items.{is_item_lem, walk_in}
use Rattle.page.proofs.Walking.{raw-span}
use Rattle.table.specs.declared.Page.{Page}
use Rattle.table.specs.Table.{items_in}
use Rattle.item.specs.Erase.{erasing}
use Rattle.item.proofs.Lengths.{length-erasing}
use Rattle.found.specs.Found.{Found, erase_all, found, found_on}
use Rattle.found.proofs.Finding.{found_as}

-- each has a span
abbrev pub Spanned : List Found → Type 0
Spanned fs = (x : Found) → x ∈ fs → 1 ≤ span_of x.raw

pub found_spanned : (ps : List Page) (l : List ℕ) → Spanned (found ps l)
unfolding found found_on items_in
found_spanned ps l x m =
    let g = flat_map_in (found_on l) ps x m in
    let t = sector g.0.sector l in
    let k = map_in (found_as g.0) (items_in g.0.sector l) x g.2 in
    let r = walk_in t 126 0 k.0 k.1 in
    let s = raw-span t k.0.entry (is_item_lem t k.0.entry r.is) in
    let some = r.is.some in
    rw (k.2, r.bytes) (omega arith)

-- an erasure has a step
pub erase_some : (s i n : ℕ) → 1 ≤ n → erasing s i n ≡ [] → ⊥
erase_some s i n h e =
    let none : n ≡ 0 = sym (length-erasing s i n) ∙ ap length e in
    omega arith

-- items are erased by no step only where there are none
pub erase_all_none : (xs : List Found) → Spanned xs → erase_all xs ≡ [] → xs ≡ []
unfolding erase_all flat_map
erase_all_none [] sp e = refl
erase_all_none (x ∷ xs) sp e = absurd (erase_some x.sector x.entry (span_of x.raw) (sp x (inl refl)) (nil_left _ _ e))
