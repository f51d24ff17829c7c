-- `Table::drop_free` meets its contract: the front of an array that is one shorter. Assumes nothing.
use Rattle.std.proofs.Common.{◌≡◌, ◌∙◌, ◌-◌, sym, ap, refl, length, take, length-take-le, arith}
use Rattle.std.proofs.lemmas.List.{take-take}
use Rattle.table.specs.Table.{freed}
use Rattle.table.proofs.Found.{take-but_last}
use Rattle.table.proofs.Table.drop_free.Goals as goal

pub returns : goal.returns
returns c =
    let t = c.args.self.now in
    let fs = freed t in
    let n : length fs ≡ t.free_count = length-take-le t.free_count t.free (omega (arith, t.sixteen_free)) in
    let m = length-take-le (t.free_count - 1) t.free (omega (arith, t.sixteen_free)) in (
      record { list = refl; free = sym (take-take (t.free_count - 1) t.free_count t.free (omega arith)) ∙ ap (λ k. take (k - 1) fs) (sym n) ∙ take-but_last fs },
      omega (arith, m, t.sixteen_free, n, c.requires),
    )
