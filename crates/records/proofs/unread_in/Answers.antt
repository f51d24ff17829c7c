-- `records::unread_in` meets its contract: what is noted is right, and else the sector is walked. Assumes nothing.
use mathlib.Core.Path.{◌≡◌, sym, ap, ◌∙◌}
use mathlib.Core.Bool.{true, false}
use Prim.Native.Nat.{ℕ, ◌+◌, ◌≤◌}
use native.Mathlib.Omega.{arith}
use borrow.Author.Rules.{rules}
use mathlib.Core.List.{List}
use lib.ListN.{get_or, length-take, length-drop}
use Rattle.flash.specs.Step.{sector}
use Rattle.flash.proofs.Sectors.{lent-sector}
use Rattle.page.specs.State.{state_of, is_free}
use Rattle.page.specs.Unread.{unread_from, unread_of}
use Rattle.page.proofs.Split.{unread_most}
use Rattle.records.proofs.unread_in.Goals as goal
use Rattle.records.proofs.unread_in.Goals.{Else-is_free, Then-noted-ne0}

pub returns-then-is_free : goal.returns-then-is_free
unfolding unread_of
returns-then-is_free c =
    let free : is_free (state_of (sector c.args.n c.args.image.now)) ≡ true = ap is_free (sym c.requires.2) ∙ sym c.is_free.ensures ∙ c.if-is_free.true in
    rw free

-- the sector is not free
used : (c : Else-is_free) →
    let t = sector c.args.n c.args.image.now in unread_of t ≡ unread_from t 126 0
unfolding unread_of
used c =
    let free : is_free (state_of (sector c.args.n c.args.image.now)) ≡ false = ap is_free (sym c.requires.2) ∙ sym c.is_free.ensures ∙ c.if-is_free.false in
    rw free

-- a note stands
noted : (c : Then-noted-ne0) →
    let t = sector c.args.n c.args.image.now in
    (get_or c.args.notes.now c.args.n 0 ≡ unread_from t 126 0 + 1) × (unread_from t 126 0 ≤ 126)
noted c =
    (c.requires.3.right c.args.n (omega (arith, c.if-noted-ne0.true)), unread_most _)

pub overflow_sub-result : goal.overflow_sub-result
overflow_sub-result c = let h = noted c in search rules

pub overflow_cast-result : goal.overflow_cast-result
overflow_cast-result c = let h = noted c in search rules

pub returns-then-noted-ne0 : goal.returns-then-noted-ne0
returns-then-noted-ne0 c = let h = noted c in omega (arith, used (goal.at.returns-then-noted-ne0 c).Else-is_free)

pub unread_of-requires : goal.unread_of-requires
unread_of-requires c =
    (simp (length-take, length-drop) (omega (arith, c.requires.0)))

pub returns : goal.returns
returns c =
    c.unread_of.ensures ∙ ap (λ (s : List ℕ). unread_from s 126 0) (lent-sector c.args.n c.args.image.now) ∙ sym (used (goal.at.returns c).Else-is_free)
