-- `page::are_ones` meets its contract: each of the four groups is ones where its number is. Assumes nothing.
use mathlib.Core.Path.{◌≡◌, refl, ◌∙◌}
use mathlib.Core.Bool.{Bool, true, false, ◌&&◌}
use mathlib.Core.List.{List}
use Prim.Native.Nat.{ℕ, ◌+◌, ◌<◌}
use native.Mathlib.Omega.{arith}
use borrow.Author.Tests.{eq-eqb, ne_eqb}
use lib.Dec.{eqb}
use lib.ListN.{get_or, drop}
use Rattle.word.specs.Number.{le}
use Rattle.page.specs.State.{all_ones}
use Rattle.page.proofs.Eight.{four}
use Rattle.page.proofs.state.are_ones.Goals as goal
use Rattle.page.proofs.state.are_ones.Goals.{then-le64, else-le64, then-le64-2, else-le64-2}

-- whether the group that begins at byte i is ones
abbrev ones : List ℕ → ℕ → Bool
ones s i = eqb (le s i 8) 0xFFFF_FFFF_FFFF_FFFF

regroup : (a b c d e : Bool) → a && (b && (c && (d && e))) ≡ (((a && b) && c) && d) && e
regroup true true c d e = go c
  where
    go : (c : Bool) → c && (d && e) ≡ (c && d) && e
    go true = refl
    go false = refl
regroup true false c d e = refl
regroup false b c d e = refl

pub returns-then-le64-3 : goal.returns-then-le64-3
returns-then-le64-3 c =
    let s = c.args.s.now in
    let at = c.args.at in
    let first : c.if-le64.value ≡ ones s at && ones s (at + 8) =
    elim c.if-le64.branch [
      | then-le64 w ↦ w.value-is ∙ rw (← c.le64.ensures, eq-eqb _ _ w.if-le64.true, w.le64-then-le64.ensures)
      | else-le64 w ↦ w.value-is ∙ rw (← c.le64.ensures, ne_eqb _ _ w.if-le64.false)
    ] in
    let second : c.if-le64-2.value ≡ c.if-le64.value && ones s (at + 16) =
    elim c.if-le64-2.branch [
      | then-le64-2 w ↦ w.value-is ∙ rw (w.if-le64-2.true, w.le64-then-le64-2.ensures)
      | else-le64-2 w ↦ w.value-is ∙ rw w.if-le64-2.false
    ] in
    let small : (j : ℕ) → get_or s j 0 < 256 = λ j. omega (arith, c.type_inv.s j) in
    four s small at c.requires ∙ regroup (ones s at) (ones s (at + 8)) (ones s (at + 16)) (ones s (at + 24)) (all_ones (drop (at + 32) s))
    ∙ rw (← first, ← second, c.if-le64-3.true, c.le64-then-le64-3.ensures)

pub returns-else-le64-3 : goal.returns-else-le64-3
returns-else-le64-3 c =
    let s = c.args.s.now in
    let at = c.args.at in
    let first : c.if-le64.value ≡ ones s at && ones s (at + 8) =
    elim c.if-le64.branch [
      | then-le64 w ↦ w.value-is ∙ rw (← c.le64.ensures, eq-eqb _ _ w.if-le64.true, w.le64-then-le64.ensures)
      | else-le64 w ↦ w.value-is ∙ rw (← c.le64.ensures, ne_eqb _ _ w.if-le64.false)
    ] in
    let second : c.if-le64-2.value ≡ c.if-le64.value && ones s (at + 16) =
    elim c.if-le64-2.branch [
      | then-le64-2 w ↦ w.value-is ∙ rw (w.if-le64-2.true, w.le64-then-le64-2.ensures)
      | else-le64-2 w ↦ w.value-is ∙ rw w.if-le64-2.false
    ] in
    let small : (j : ℕ) → get_or s j 0 < 256 = λ j. omega (arith, c.type_inv.s j) in
    four s small at c.requires ∙ regroup (ones s at) (ones s (at + 8)) (ones s (at + 16)) (ones s (at + 24)) (all_ones (drop (at + 32) s))
    ∙ rw (← first, ← second, c.if-le64-3.false)
