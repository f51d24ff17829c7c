-- `lines::put_line` meets its contract: of a page, its record goes behind the state. Assumes nothing.
use mathlib.Core.Path.{sym, ◌∙◌}
use mathlib.Core.Bool.{cond}
use mathlib.Core.List.{[]}
use Rattle.page.specs.State.{is_free}
use Rattle.text.specs.Grown.{Grown}
use Rattle.text.proofs.Putting.{grown-nothing, grown_both}
use Rattle.lines.specs.Lines.{page_text, line}
use Rattle.lines.proofs.put_line.Goals as goal
use Rattle.lines.proofs.put_line.Goals.{then-not-is_free, else-not-is_free}

pub returns : goal.returns
unfolding line
returns c =
    let told : Grown c.text.new.self (cond (is_free c.args.r.state) [] (page_text c.args.r)) c.if-not-is_free.text =
    elim c.if-not-is_free.branch [
      | then-not-is_free w ↦ rw (sym c.is_free.ensures ∙ w.if-not-is_free.true, w.text-is) w.put_page.ensures
      | else-not-is_free w ↦ rw (sym c.is_free.ensures ∙ w.if-not-is_free.false, w.text-is) (grown-nothing c.text.new.self)
    ] in
    rw c.state_name.ensures at (grown_both c.number.ensures (grown_both c.push.ensures (grown_both c.text.ensures (grown_both told c.push-2.ensures))))
