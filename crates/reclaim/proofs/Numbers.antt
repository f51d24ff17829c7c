-- Document 01's table for reclaim: each number is given exactly when its condition holds and none before it does, and no other number is given. Assumes
-- nothing.
use mathlib.Core.Path.{◌≡◌}
use mathlib.Core.Logic.{◌↔◌}
use mathlib.Core.Bool.{true, false}
use mathlib.Core.Option.{some}
use mathlib.Core.List.{List, []}
use Prim.Native.Nat.{ℕ, ◌≤◌, ◌<◌}
use lib.ListN.{length}
use borrow.Author.Tests.{ltb-true, ltb-false, lt-ltb, le-ltb}
use Rattle.page.proofs.Tests.{not-true, both_first, both-second, both_is}
use Rattle.answer.specs.declared.Answer.{Answer}
use Rattle.answer.specs.Answer.{number_of}
use Rattle.answer.specs.Told.{before, condition_of, NoneHolds}
use Rattle.answer.proofs.Numbers.{absent, once, positive, given, given_last, not-given}
use Rattle.lists.specs.Lists.{some_of, greatest}
use Rattle.table.specs.declared.Page.{Page}
use Rattle.table.specs.Table.{whole_sectors, pages, frees, sequence, active_page}
use Rattle.plan.specs.Plan.{candidate, chosen, sequences_spent}
use Rattle.plan.specs.Closed.{Closed}
use Rattle.plan.proofs.Closed.{image-closed}
use Rattle.reclaim.specs.Reclaim.{reclaiming}
use Rattle.reclaim.specs.Promise.{copy_needed, no_sector_free, reclaim_table, ReclaimPromise}
use Rattle.reclaim.proofs.Choice.{none_free}

-- of "1, 3, 4, .. 5, 6; then steps" no condition before that of the number k holds
abbrev pub Passed : List ℕ → ℕ → ℕ → Type 0
Passed l n k = NoneHolds (before k (reclaim_table l n))

-- "the chosen page is always Full or Freeing once result 3 has been passed": the next number of the table is 4
pub passed-closed : (l : List ℕ) (n : ℕ) → Passed l n 4 → (x : Page) → chosen (pages l) ≡ some x → Closed x
unfolding reclaim_table before
passed-closed l n h x e = image-closed l h.1.0 x e

module _ {l : List ℕ} {n : ℕ} {m : List ℕ} {r : Answer} (p : ReclaimPromise l n m r) where
  -- 1 exactly when the image is not 2 to 16 whole sectors
  pub number_1 : (number_of r ≡ 1) ↔ (whole_sectors l ≡ false)
  unfolding reclaim_table before condition_of once absent
  number_1 = let g = given p.answer 1 tt in (λ e. not-true (whole_sectors l) (g.0 e).1, λ e. g.1 (tt, rw e))

  -- 3 exactly when an Active page stands
  pub number_3 : (number_of r ≡ 3) ↔ (Passed l n 3 × (some_of active_page (pages l) ≡ true))
  unfolding reclaim_table before condition_of once absent
  number_3 = given p.answer 3 tt

  -- 4 exactly when no page is below 126 Written
  pub number_4 : (number_of r ≡ 4) ↔ (Passed l n 4 × (some_of candidate (pages l) ≡ false))
  unfolding reclaim_table before condition_of once absent
  number_4 = let g = given p.answer 4 tt in (λ e. let h = g.0 e in (h.0, not-true (some_of candidate (pages l)) h.1), λ e. g.1 (e.0, rw e.1))

  -- 5 exactly when a copy is needed and no sector is free
  pub number_5 : (number_of r ≡ 5) ↔ (Passed l n 5 × (copy_needed (pages l) ≡ true) × (frees l ≡ []))
  unfolding reclaim_table before condition_of once absent
  number_5 =
      let c = copy_needed (pages l) in
      let f = no_sector_free (frees l) in
      let g = given p.answer 5 tt in (
        λ e. let h = g.0 e in (h.0, both_first c f h.1, none_free (frees l) (both-second c f h.1)),
        λ e. g.1 (e.0, both_is c f e.1 (rw e.2)),
      )

  -- 6 exactly when a copy is needed and the greatest sequence is above 0xFFFFFFFD
  pub number_6 : (number_of r ≡ 6) ↔ (Passed l n 6 × (copy_needed (pages l) ≡ true) × (0xFFFFFFFD < greatest sequence (pages l)))
  unfolding reclaim_table before condition_of once absent
  number_6 =
      let c = copy_needed (pages l) in
      let s = sequences_spent (pages l) in
      let g = given p.answer 6 tt in (
        λ e. let h = g.0 e in (h.0, both_first c s h.1, ltb-true 0xFFFFFFFD (greatest sequence (pages l)) (both-second c s h.1)),
        λ e. g.1 (e.0, both_is c s e.1 (lt-ltb 0xFFFFFFFD (greatest sequence (pages l)) e.2)),
      )

  -- 7 exactly when the allowance is used up before the end
  pub number_7 : (number_of r ≡ 7) ↔ (Passed l n 7 × (n < length (reclaiming l)))
  unfolding reclaim_table before condition_of once absent
  number_7 = let g = given p.answer 7 tt in (λ e. let h = g.0 e in (h.0, ltb-true n (length (reclaiming l)) h.1), λ e. g.1 (e.0, lt-ltb n (length (reclaiming l)) e.1))

  -- 0 exactly when the list of steps ended
  pub number_0 : (number_of r ≡ 0) ↔ (Passed l n 7 × (length (reclaiming l) ≤ n))
  unfolding reclaim_table before positive
  number_0 = let g = given_last p.answer tt in (
    λ e. let h = g.0 e in ((h.0, (h.1.0, (h.1.1.0, (h.1.1.1.0, (h.1.1.1.1.0, tt))))), ltb-false n (length (reclaiming l)) h.1.1.1.1.1.0),
    λ e. let h = e.0 in g.1 (h.0, (h.1.0, (h.1.1.0, (h.1.1.1.0, (h.1.1.1.1.0, (le-ltb n (length (reclaiming l)) e.1, tt)))))),
  )

  -- 2 is recovery's
  pub number_2 : number_of r ≡ 2 → ⊥
  unfolding reclaim_table absent
  number_2 = not-given p.answer 2 tt
