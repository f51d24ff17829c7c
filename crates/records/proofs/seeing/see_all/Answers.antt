-- `records::see_all` meets its contract: what is seen so far is the sectors passed. Assumes nothing.
use Rattle.std.proofs.Common.{◌≡◌, ◌∙◌, ap, List, arith}
use mathlib.Core.Path.{ap₂}
use lib.ListN.{set}
use Rattle.flash.specs.Step.{sector}
use Rattle.flash.proofs.Sectors.{lent-sector}
use Rattle.page.specs.declared.seen.Seen.{Seen}
use Rattle.page.specs.Record.{seen_of}
use Rattle.records.specs.Records.{each_to}
use Rattle.records.specs.Scanned.{blank_seen}
use Rattle.records.proofs.Reading.{row_read}
use Rattle.records.proofs.seeing.see_all.Goals as goal

pub loop-n-init : goal.loop-n-init
unfolding each_to
loop-n-init c = rw c.blank_seen-seen.ensures

pub loop-n-preserved : goal.loop-n-preserved
loop-n-preserved c =
    let image = c.args.image.now in
    let n = c.loop-n.n in
    let here : c.see.result ≡ seen_of (sector n image) = c.see.ensures ∙ ap seen_of (lent-sector n image) in
    ap₂ (λ (rows : List Seen) (r : Seen). set rows n r) c.loop-n.invariant here ∙ row_read seen_of image blank_seen n (omega arith)
