-- `recover::recover_image` meets its contract: each refusal in its order, and what the stages made. Assumes nothing.
use Rattle.std.specs.Prelude.{Ok}
use mathlib.Core.Path.{◌≡◌, sym, ap, ◌∙◌}
use mathlib.Core.Bool.{true, false}
use Prim.Native.Nat.{◌≤◌}
use native.Mathlib.Omega.{arith}
use Rattle.stages.specs.Stages.{too_high}
use Rattle.table.specs.Table.{sectors_of, whole_sectors, pages, frees, Holds}
use Rattle.table.proofs.Whole.{whole_is}
use Rattle.records.specs.declared.scanned.Scanned.{Scanned}
use Rattle.page.specs.Record.{seen_of}
use Rattle.records.specs.Scanned.{scanned_of, listed}
use Rattle.records.specs.Records.{each_to, rows_of}
use Rattle.records.proofs.Lent.{scanned-listed}
use Rattle.recover.proofs.Promised.{refused-sectors, refused-records, refused-sequences, stopped_short, ended-rows, seen_idle, none_walked, made_size}
use Rattle.recover.proofs.recover_image.Goals as goal
use Rattle.recover.proofs.recover_image.Goals.{After-list_seen-table, After-see_again-last, Else-is_too_high}

pub returns-then-not-is_whole : goal.returns-then-not-is_whole
returns-then-not-is_whole c =
    refused-sectors c.args.image.now c.args.lent c.args.allowance (sym c.is_whole.ensures ∙ c.if-not-is_whole.true) c.without_rows.ensures.0 c.without_rows.ensures.1

pub returns-then-lent-sectors : goal.returns-then-lent-sectors
returns-then-lent-sectors c =
    refused-records c.args.image.now c.args.lent c.args.allowance (sym c.is_whole.ensures ∙ c.if-not-is_whole.false) c.if-lent-sectors.true c.without_rows-then-lent-sectors.ensures.0 c.without_rows-then-lent-sectors.ensures.1

pub see_all-scanned-requires : goal.see_all-scanned-requires
see_all-scanned-requires c =
    let w = whole_is c.args.image.now (sym c.is_whole.ensures ∙ c.if-not-is_whole.false) in
    (w.0, w.1)

-- what is known once the scan was listed: the image is whole, and the lists are the image's
scan_is : (c : After-list_seen-table) →
    (whole_sectors c.args.image.now ≡ true) × (sectors_of c.args.image.now ≤ c.args.lent) × Holds c.list_seen-table.result (pages c.args.image.now) (frees c.args.image.now)
scan_is c =
    ((sym c.is_whole.ensures ∙ c.if-not-is_whole.false), c.if-lent-sectors.false, c.list_seen-table.ensures.whole c.args.image.now c.see_all-scanned.ensures)

pub returns-then-is_too_high : goal.returns-then-is_too_high
returns-then-is_too_high c =
    let s = scan_is (goal.at.returns-then-is_too_high c).After-list_seen-table in
    let high = ap too_high (sym s.2.list) ∙ sym c.is_too_high.ensures ∙ c.if-is_too_high.true in
    refused-sequences c.args.image.now c.args.lent c.args.allowance s.0 s.1 high c.without_rows-then-is_too_high.ensures.0 c.without_rows-then-is_too_high.ensures.1

-- the sequences are not spent
low : (c : Else-is_too_high) →
    too_high (pages c.args.image.now) ≡ false
low c =
    let scan_is : (whole_sectors c.args.image.now ≡ true) × (sectors_of c.args.image.now ≤ c.args.lent) × Holds c.list_seen-table.result (pages c.args.image.now) (frees c.args.image.now) =
    ((sym c.is_whole.ensures ∙ c.if-not-is_whole.false), c.if-lent-sectors.false, c.list_seen-table.ensures.whole c.args.image.now c.see_all-scanned.ensures)
    in
    ap too_high (sym (scan_is).2.list) ∙ sym c.is_too_high.ensures ∙ c.if-is_too_high.false

pub make_stages-went-requires : goal.make_stages-went-requires
make_stages-went-requires c =
    let s = scan_is (goal.at.make_stages-went-requires c).After-list_seen-table in
    let w = whole_is c.args.image.now s.0 in
    (s.2, w.0, w.1, low (goal.at.make_stages-went-requires c).Else-is_too_high, none_walked)

pub returns-in_default : goal.returns-in_default
returns-in_default c =
    let s = scan_is (goal.at.returns-in_default c).After-list_seen-table in
    stopped_short c.args.image.now c.args.lent c.args.allowance s.0 s.1 (low (goal.at.returns-in_default c).Else-is_too_high) c.make_stages-went.ensures.0 c.in_default.is (c.without_rows-in_default.ensures.0 ∙ c.told-answer.ensures) c.without_rows-in_default.ensures.1

pub see_again-last-requires : goal.see_again-last-requires
see_again-last-requires c =
    let w = whole_is c.args.image.now (scan_is (goal.at.see_again-last-requires c).After-list_seen-table).0 in
    let made = c.make_stages-went.ensures.0 in
    let count : c.see_all-scanned.result.count ≡ sectors_of c.args.image.now = omega (arith, ap (λ (x : Scanned). x.count) c.see_all-scanned.ensures, w.1) in
    (rw count (made_size made ∙ w.0), λ e. c.see_all-scanned.ensures ∙ seen_idle made (c.in-Ok.is ∙ ap Ok e) (sectors_of c.args.image.now) ∙ ap (scanned_of _) (sym count))

-- as many sectors as the image has were seen
as_many : (c : After-see_again-last) →
    (c.see_again-last.result.count ≡ c.see_all-scanned.result.count) × (c.see_all-scanned.result.count ≡ sectors_of c.args.image.now)
as_many c =
    let few = (whole_is c.args.image.now (sym c.is_whole.ensures ∙ c.if-not-is_whole.false)).1 in
    let first = ap (λ (x : Scanned). x.count) c.see_all-scanned.ensures in
    let again = ap (λ (x : Scanned). x.count) c.see_again-last.ensures in
    (omega (arith, again, c.see_all-scanned.result.sixteen), omega (arith, first, few))

pub make_rows-rows-requires : goal.make_rows-rows-requires
make_rows-rows-requires c =
    let w = whole_is c.args.image.now (scan_is (goal.at.make_rows-rows-requires c).After-list_seen-table).0 in
    let made = c.make_stages-went.ensures in
    let n = as_many (goal.at.make_rows-rows-requires c).After-see_again-last in
    let seen = ap listed c.see_again-last.ensures ∙ scanned-listed _ _ c.see_all-scanned.result.sixteen in
    (rw (n.0 ∙ n.1) (made_size made.0 ∙ w.0), seen ∙ ap (each_to seen_of _) (sym n.0), made.1 _ c.in-Ok.is)

pub returns : goal.returns
returns c =
    let s = scan_is (goal.at.returns c).After-list_seen-table in
    let n = as_many (goal.at.returns c).After-see_again-last in
    ended-rows c.args.image.now c.args.lent c.args.allowance s.0 s.1 (low (goal.at.returns c).Else-is_too_high) c.make_stages-went.ensures.0 c.in-Ok.is c.told-answer.ensures (c.make_rows-rows.ensures ∙ ap (rows_of _) (n.0 ∙ n.1))
