-- `gathering::gather_page` meets its contract: what is lent for the walk is the page's sector. Assumes nothing.
use Rattle.std.proofs.Common.{◌∙◌, ◌+◌, ◌*◌, ◌++◌, ap, List, ℕ, map, take, arith}
use Rattle.page.specs.Walk.{Laid, walk}
use Rattle.page.specs.Unread.{unread_from}
use Rattle.flash.proofs.Sectors.{lent-sector}
use Rattle.records.proofs.Noting.{noted_more}
use Rattle.gathering.proofs.Paging.{walked_page}
use Rattle.gathering.proofs.gather_page.Goals as goal

pub returns : goal.returns
returns c =
    let l = c.args.image.now in
    let u = c.from-sector.result in
    let lent = lent-sector u l in
    let walked = c.places-walked.ensures in
    let stored = ap (λ (s : List ℕ). map (λ (x : Laid). u * 128 + 2 + x.entry) (walk s 126 0)) lent ∙ walked_page l c.args.p u c.from-sector.ensures in (
      walked.0 ∙ ap (λ (xs : List ℕ). take c.args.from c.args.out.now ++ xs) stored,
      walked.1,
      noted_more l c.requires.2 u _ (omega (arith, c.from-sector.ensures, c.requires.0.sixteen)) (c.from.ensures ∙ walked.2 ∙ ap (λ (s : List ℕ). unread_from s 126 0) lent),
    )
