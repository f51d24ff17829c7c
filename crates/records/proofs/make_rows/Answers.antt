-- `records::make_rows` meets its contract: what is made so far is the records of the sectors passed. Assumes nothing.
use Rattle.std.proofs.Common.{◌≡◌, ◌∙◌, ap, List, get_or, set, length, ℕ, ◌<◌, arith}
use mathlib.Core.Path.{ap₂}
use Rattle.flash.specs.Step.{sector}
use Rattle.page.specs.declared.seen.Seen.{Seen}
use Rattle.page.specs.declared.«record».PageRecord.{PageRecord}
use Rattle.page.specs.Record.{seen_of, with_unread, record_of}
use Rattle.page.proofs.Fields.{seen_state}
use Rattle.records.specs.declared.Rows.{Rows}
use Rattle.records.specs.Records.{each_to, blank_record, rows_of}
use Rattle.records.proofs.Reading.{length-each, each_at, row_read}
use Rattle.records.proofs.make_rows.Goals as goal

pub loop-n-init : goal.loop-n-init
unfolding each_to
loop-n-init c = rw c.blank_record-rows.ensures

-- the place n has what the scan saw of sector n
seen_in : (l : List ℕ) (m : ℕ) (xs : List Seen) → xs ≡ each_to seen_of l m → (n : ℕ) (d : Seen) → n < length xs → (get_or xs n d ≡ seen_of (sector n l)) × (n < m)
seen_in l m xs all n d h =
    let few : n < m = omega (arith, ap length all, length-each seen_of l m) in
    (ap (λ (ys : List Seen). get_or ys n d) all ∙ each_at seen_of l m n d few, few)

pub unread_in-requires : goal.unread_in-requires
unread_in-requires c =
    let n = c.loop-n.n in
    let s = c.args.scanned.now in
    let here = seen_in c.args.image.now s.count _ (c.listed-seen-items.ensures.0 ∙ c.requires.1) n _ c.loop-n-test.true in
    (omega (arith, c.requires.0, here.1), omega (arith, here.1, s.sixteen), ap (λ (x : Seen). x.state) here.0 ∙ seen_state (sector n c.args.image.now), c.requires.2)

pub loop-n-preserved : goal.loop-n-preserved
unfolding record_of
loop-n-preserved c =
    let l = c.args.image.now in
    let n = c.loop-n.n in
    let s = c.args.scanned.now in
    let here = seen_in l s.count _ (c.listed-seen-items.ensures.0 ∙ c.requires.1) n _ c.loop-n-test.true in
    let made : c.with_unread.result ≡ record_of (sector n l) = c.with_unread.ensures ∙ ap₂ with_unread here.0 c.unread_in.ensures in
    ap₂ (λ (rows : List PageRecord) (r : PageRecord). set rows n r) c.loop-n.invariant made
    ∙ row_read record_of l blank_record n (omega (arith, here.1, s.sixteen))

pub returns : goal.returns
returns c =
    let l = c.args.image.now in
    let s = c.args.scanned.now in
    let long = ap length (c.listed-seen-items.ensures.0 ∙ c.requires.1) in
    let e : c.loop-n.n ≡ s.count = omega (arith, long, length-each seen_of l s.count, c.loop-n-test.false, c.loop-n.auto.n-end) in
    ap {B = Rows} (λ (rows : List PageRecord). record { rows = rows; count = s.count }) (c.loop-n.invariant ∙ ap (λ (k : ℕ). (rows_of l k).rows) e)
