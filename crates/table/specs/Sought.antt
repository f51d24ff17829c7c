-- Bridge: a page that is sought in a list, as the code answers it, and a list's choice page by page from its end. Assumes nothing.
use Rattle.std.specs.Prelude.{Bool, cond, ℕ, eqb, Option, Some, None}
use Rattle.std.proofs.Math.Option.{Option as Chosen, none, some}
use Rattle.page.specs.declared.state.PageState.{PageState}
use Rattle.page.specs.declared.state.PageState.TheVariants.{Blank, Corrupt, Active, Full, Freeing}
use Rattle.table.specs.declared.Page.{Page}

abbrev pub sought_of : Chosen Page → Option Page
sought_of none = None
sought_of (some p) = Some p

-- one page more, in front: `over y x` says that y, which stands later, goes before x
abbrev pub better_of : (Page → Page → Bool) → Page → Option Page → Option Page
better_of over x None = Some x
better_of over x (Some y) = cond (over y x) (Some y) (Some x)

-- a number for each state, which tells them apart
abbrev pub code_of : PageState → ℕ
code_of Blank = 0
code_of Corrupt = 1
code_of Active = 2
code_of Full = 3
code_of Freeing = 4

abbrev pub in_state : PageState → Page → Bool
in_state w p = eqb (code_of p.seen.state) (code_of w)
