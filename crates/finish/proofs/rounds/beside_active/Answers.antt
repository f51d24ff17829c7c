-- `finish::beside_active` meets its contract: whether the page is a copy decides. Assumes nothing.
use mathlib.Core.Bool.{true, false}
use mathlib.Core.Logic.{inl, inr}
use mathlib.Core.Path.{◌≡◌, refl, sym, ◌∙◌}
use Rattle.table.specs.Table.{active_page, items_in, listed}
use Rattle.table.proofs.Seeking.{first_member}
use Rattle.table.proofs.Places.{page-fits}
use Rattle.finish.specs.Finish.{copy_of, round_with}
use Rattle.finish.proofs.Likeness.{copy_is}
use Rattle.finish.proofs.rounds.beside_active.Goals as goal

pub matches-requires : goal.matches-requires
matches-requires c =
    let l = c.args.image.now in
    let copy = page-fits l l c.requires.0 refl c.args.y (inr (first_member active_page (listed c.args.table.now) c.args.y c.requires.1)) in
    (rw c.from-copy.ensures copy, rw c.from-source.ensures (page-fits l l c.requires.0 refl c.args.x (inl refl)))

pub returns-then-matches : goal.returns-then-matches
unfolding round_with
returns-then-matches c =
    let a = c.args in
    let told = rw (c.from-copy.ensures, c.from-source.ensures) at c.matches.ensures in
    let e : copy_of (items_in a.y.sector a.image.now) (items_in a.x.sector a.image.now) ≡ true = sym (copy_is _ _) ∙ sym told ∙ c.if-matches.true in
    rw e c.erase_copy.ensures

pub returns : goal.returns
unfolding round_with
returns c =
    let a = c.args in
    let told = rw (c.from-copy.ensures, c.from-source.ensures) at c.matches.ensures in
    let e : copy_of (items_in a.y.sector a.image.now) (items_in a.x.sector a.image.now) ≡ false = sym (copy_is _ _) ∙ sym told ∙ c.if-matches.false in
    rw e c.copy_afresh.ensures
