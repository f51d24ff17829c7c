-- `versions::newer_of` meets its contract: each test that led to a return decides the definition's. Assumes nothing.
use mathlib.Core.Path.{refl, sym, ◌∙◌}
use Rattle.lists.specs.Lists.{better}
use Rattle.versions.specs.Search.{newest_with}
use Rattle.versions.proofs.sound.newer_of.Goals as goal

pub returns-then-not-is_index_of : goal.returns-then-not-is_index_of
unfolding newest_with
returns-then-not-is_index_of c = rw (sym c.is_index_of.ensures ∙ c.if-not-is_index_of.true) (refl, c.requires.1)

pub returns-in-Some : goal.returns-in-Some
unfolding newest_with better
returns-in-Some c =
    rw (sym c.is_index_of.ensures ∙ c.if-not-is_index_of.false, c.in-Some.is, sym c.is_newer.ensures ∙ c.if-is_newer.true)
    (refl, rw c.in-Some.is at c.requires.1)

pub returns-in_default : goal.returns-in_default
unfolding newest_with better
returns-in_default c =
    rw (sym c.is_index_of.ensures ∙ c.if-not-is_index_of.false, c.in-Some.is, sym c.is_newer.ensures ∙ c.if-is_newer.false)
    (refl, c.requires.0)

pub returns-in_default-2 : goal.returns-in_default-2
unfolding newest_with better
returns-in_default-2 c = rw (sym c.is_index_of.ensures ∙ c.if-not-is_index_of.false, c.in_default.is) (refl, c.requires.0)
