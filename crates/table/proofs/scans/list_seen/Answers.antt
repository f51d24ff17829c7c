-- `table::list_seen` meets its contract: what is listed so far is the lists of the sectors passed, of any image that they are of. Assumes nothing.
use Rattle.std.proofs.Common.{◌≡◌, ◌∙◌, sym, ap, refl, List, [], ◌∷◌, ◌++◌, Bool, length, get_or, ℕ, ◌+◌, ◌<◌, arith}
use mathlib.Core.Path.{ap₂}
use lib.ListN.{length-append}
use Rattle.flash.specs.Step.{sector}
use Rattle.page.specs.State.{state_of, is_free}
use Rattle.page.specs.declared.seen.Seen.{Seen}
use Rattle.page.specs.Record.{seen_of}
use Rattle.records.specs.Records.{each_to}
use Rattle.records.specs.Scanned.{listed as listed_seen}
use Rattle.records.proofs.Reading.{length-each}
use Rattle.records.proofs.Lent.{lent_seen}
use Rattle.table.specs.Table.{sectors_of, pages_to, frees_to, pages, frees, listed, freed}
use Rattle.table.proofs.Scanning.{seen_at, state_at_lem, pages_free, pages-used, frees_free, frees-used}
use Rattle.table.proofs.scans.list_seen.Goals as goal
use Rattle.table.proofs.scans.list_seen.Goals.{then-is_free, else-is_free}

pub loop-n-init : goal.loop-n-init
unfolding pages_to frees_to
loop-n-init c = record { pages_fit = omega arith; free_fit = omega arith; lists = λ l e. record { list = refl; free = refl } }

-- the state of the sector of this turn
state_here : (l : List ℕ) (xs : List Seen) → xs ≡ each_to seen_of l (sectors_of l) → (n : ℕ) (d : Seen) → n < length xs → {b : Bool} → {f : Bool} → f ≡ is_free (get_or xs n d).state → f ≡ b
    → is_free (state_of (sector n l)) ≡ b
state_here l xs e n d h g k =
    sym (ap is_free (state_at_lem l xs e n h d)) ∙ sym g ∙ k

-- a list with one more at its end is longer by one
longer : {A : Type 0} (xs ys : List A) (y : A) → ys ≡ xs ++ (y ∷ []) → length ys ≡ length xs + 1
longer xs ys y e = omega (arith, ap length e, length-append xs (y ∷ []))

pub loop-n-preserved : goal.loop-n-preserved
loop-n-preserved c =
    let n = c.loop-n.n in
    let i = c.loop-n.invariant in
    let lent : (l : List ℕ) → listed_seen c.args.scanned.now ≡ each_to seen_of l (sectors_of l) → c.listed-seen-items.result.now ≡ each_to seen_of l (sectors_of l) = λ l e. c.listed-seen-items.ensures.0 ∙ e in
    elim c.if-is_free.branch [
      | then-is_free w ↦
          let made = w.join_free.ensures in
          let a = ap listed w.table-is ∙ made.list in
          let b = ap freed w.table-is ∙ made.free in
          record {
            pages_fit = omega (arith, ap length a, i.pages_fit);
            free_fit = omega (arith, longer _ _ _ b, i.free_fit);
            lists = λ l e.
                let free = state_here l _ (lent l e) n _ c.loop-n-test.true c.is_free.ensures w.if-is_free.true in
                record { list = a ∙ (i.lists l e).list ∙ sym (pages_free l n free); free = b ∙ ap (λ r. r ++ (n ∷ [])) (i.lists l e).free ∙ sym (frees_free l n free) };
          }
      | else-is_free w ↦
          let made = w.append_page.ensures in
          let a = ap listed w.table-is ∙ made.list in
          let b = ap freed w.table-is ∙ made.free in
          record {
            pages_fit = omega (arith, longer _ _ _ a, i.pages_fit);
            free_fit = omega (arith, ap length b, i.free_fit);
            lists = λ l e.
                let used = state_here l _ (lent l e) n _ c.loop-n-test.true c.is_free.ensures w.if-is_free.false in
                let here = seen_at l _ (lent l e) n c.loop-n-test.true _ in
                record {
                  list = a ∙ ap₂ (λ r (s : Seen). r ++ (record { sector = n; seen = s } ∷ [])) (i.lists l e).list here ∙ sym (pages-used l n used);
                  free = b ∙ (i.lists l e).free ∙ sym (frees-used l n used);
                };
          }
    ]

pub returns-clause-seen : goal.returns-clause-seen
unfolding pages frees
returns-clause-seen c = λ l e.
    let i = c.loop-n.invariant.lists l e in
    let same = ap length (c.listed-seen-items.ensures.0 ∙ e) in
    let h : c.loop-n.n ≡ sectors_of l = omega (arith, same, length-each seen_of l (sectors_of l), c.loop-n-test.false, c.loop-n.auto.n-end) in
    record { list = i.list ∙ ap (pages_to l) h; free = i.free ∙ ap (frees_to l) h }

-- a scan of the image lists what is seen of it
pub returns-clause-whole : goal.returns-clause-whole
returns-clause-whole c = λ l e.
    let lent = c.listed-seen-items.ensures in
    returns-clause-seen c l (sym lent.0 ∙ lent_seen l (sectors_of l) c.args.scanned.now e _ lent)
