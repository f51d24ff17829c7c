-- `order::close_all` meets its contract: the pages passed are closed. Assumes nothing.
use Rattle.std.proofs.Common.{◌≡◌, ◌∙◌, ◌<◌, ap, length, length-take-le, get_or, set, take, drop, map, rules, arith}
use lib.ListN.{length-map}
use lib.Seq.{take_at}
use Rattle.std.proofs.lemmas.List.Edits.{map_over_more}
use Rattle.order.specs.Turns.{closed_page}
use Rattle.order.proofs.close_all.Goals as goal

pub loop-i-preserved : goal.loop-i-preserved
loop-i-preserved c =
    let t = c.args.table.now in
    let l = c.loop-i in
    let room : l.i < length t.pages = omega (arith, t.sixteen, c.loop-i-test.true) in
    let i = l.invariant in
    (ap (set l.table.pages l.i) c.close.ensures ∙ map_over_more closed_page t.pages l.table.pages l.i (get_or l.table.pages l.i _) room i.0 (search rules), i.1, i.2, i.3)

pub returns : goal.returns
returns c =
    let t = c.args.table.now in
    let l = c.loop-i in
    let i = l.invariant in
    let e : l.i ≡ t.count = omega (arith, c.loop-i-test.false, l.auto.i-end) in
    let front = map closed_page (take l.i t.pages) in
    let n : length front ≡ l.table.count = omega (arith, length-map (take l.i t.pages) closed_page, length-take-le l.i t.pages (omega (arith, e, t.sixteen)), e, i.1) in
    record {
      list = ap (take l.table.count) i.0 ∙ take_at front (drop l.i t.pages) l.table.count n ∙ ap (λ k. map closed_page (take k t.pages)) e;
      free = rw (i.2, i.3);
    }
