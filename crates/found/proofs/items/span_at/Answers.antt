-- `found::span_at` meets its contract: the span is the third byte at the place, and the item ends on its page. Assumes nothing.
use mathlib.Core.Path.{◌≡◌, sym, ◌∙◌}
use Prim.Native.Nat.{◌*◌}
use native.Mathlib.Omega.{arith}
use Rattle.word.specs.Number.{part}
use Rattle.word.proofs.Bytes.{part-byte}
use Rattle.entry.specs.Fields.{span_of}
use Rattle.found.proofs.Reading.{byte-here}
use Rattle.found.proofs.items.span_at.Goals as goal

pub returns : goal.returns
returns c =
    let l = c.args.image.now in
    let p = c.args.place in
    let e : c.from.result ≡ span_of (part l (p * 32) 32) = c.from.ensures ∙ sym (part-byte l (p * 32) 32 2 (omega arith)) in
    (e ∙ sym (byte-here l p c.requires 2 (omega arith)), rw e c.requires.some, rw e c.requires.ends)
