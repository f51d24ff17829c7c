-- Document 01's table for recovery: each number is given exactly when its condition holds and none before it does, and no other number is given. Assumes
-- nothing.
use mathlib.Core.Path.{◌≡◌}
use mathlib.Core.Logic.{◌↔◌}
use mathlib.Core.Bool.{true, false}
use mathlib.Core.List.{List}
use Prim.Native.Nat.{ℕ, ◌-◌, ◌≤◌, ◌<◌}
use lib.Dec.{leb, ltb}
use lib.ListN.{length}
use borrow.Author.Tests.{leb-true, ltb-true, ltb-false, le-leb, lt-ltb, le-ltb, not-true, not-false}
use Rattle.page.proofs.Tests.{both_first, both-second, both_is}
use Rattle.answer.specs.declared.Answer.{Answer}
use Rattle.answer.specs.Answer.{number_of}
use Rattle.answer.specs.Told.{before, condition_of, NoneHolds, Told}
use Rattle.answer.proofs.Numbers.{absent, once, positive, given, given_last, not-given}
use Rattle.lists.specs.Lists.{greatest}
use Rattle.table.specs.Table.{sectors_of, whole_sectors, pages, sequence}
use Rattle.finishing.specs.Finishing.{freeings}
use Rattle.stages.specs.Stages.{too_high}
use Rattle.recover.specs.Promise.{called, recover_table}

-- of "1, 2, 6; then steps" no condition before that of the number k holds
abbrev pub Passed : List ℕ → ℕ → ℕ → ℕ → Type 0
Passed l lent n k = NoneHolds (before k (recover_table l lent n))

-- no refusal's condition holds
pub passed_all : (l : List ℕ) (lent n : ℕ) → Passed l lent n 7 ↔ ((whole_sectors l ≡ true) × (sectors_of l ≤ lent) × (too_high (pages l) ≡ false))
unfolding recover_table before
passed_all l lent n = (
  λ h. (not-false (whole_sectors l) h.0, ltb-false lent (sectors_of l) h.1.0, h.1.1.0),
  λ h. (rw h.0, (le-ltb lent (sectors_of l) h.1, (h.2, tt))),
)

module _ (l : List ℕ) (lent n : ℕ) {r : Answer} (t : Told (recover_table l lent n) n (called l lent) r) where
  -- 1 exactly when the image is not 2 to 16 whole sectors
  pub number_1 : (number_of r ≡ 1) ↔ (whole_sectors l ≡ false)
  unfolding recover_table before condition_of once absent
  number_1 = let g = given t 1 tt in (λ e. not-true (whole_sectors l) (g.0 e).1, λ e. g.1 (tt, rw e))

  -- 2 exactly when there are fewer records than sectors
  pub number_2 : (number_of r ≡ 2) ↔ (Passed l lent n 2 × (lent < sectors_of l))
  unfolding recover_table before condition_of once absent
  number_2 = let g = given t 2 tt in (λ e. let h = g.0 e in (h.0, ltb-true lent (sectors_of l) h.1), λ e. g.1 (e.0, lt-ltb lent (sectors_of l) e.1))

  -- 6 exactly when there are k Freeing pages, k above 0, and the greatest sequence is above 0xFFFFFFFE - k
  pub number_6 : (number_of r ≡ 6) ↔ (Passed l lent n 6 × (1 ≤ freeings (pages l)) × (0xFFFFFFFE - freeings (pages l) < greatest sequence (pages l)))
  unfolding recover_table before condition_of once absent too_high
  number_6 =
      let k = freeings (pages l) in
      let top = greatest sequence (pages l) in
      let g = given t 6 tt in (
        λ e. let h = g.0 e in (h.0, leb-true 1 k (both_first (leb 1 k) (ltb (0xFFFFFFFE - k) top) h.1), ltb-true (0xFFFFFFFE - k) top (both-second (leb 1 k) (ltb (0xFFFFFFFE - k) top) h.1)),
        λ e. g.1 (e.0, both_is (leb 1 k) (ltb (0xFFFFFFFE - k) top) (le-leb 1 k e.1) (lt-ltb (0xFFFFFFFE - k) top e.2)),
      )

  -- 7 exactly when the allowance is used up before the end
  pub number_7 : (number_of r ≡ 7) ↔ (Passed l lent n 7 × (n < length (called l lent)))
  unfolding recover_table before condition_of once absent
  number_7 = let g = given t 7 tt in (λ e. let h = g.0 e in (h.0, ltb-true n (length (called l lent)) h.1), λ e. g.1 (e.0, lt-ltb n (length (called l lent)) e.1))

  -- 0 exactly when the list of steps ended
  pub number_0 : (number_of r ≡ 0) ↔ (Passed l lent n 7 × (length (called l lent) ≤ n))
  unfolding recover_table before positive
  number_0 = let g = given_last t tt in (
    λ e. let h = g.0 e in ((h.0, (h.1.0, (h.1.1.0, tt))), ltb-false n (length (called l lent)) h.1.1.1.0),
    λ e. g.1 (e.0.0, (e.0.1.0, (e.0.1.1.0, (le-ltb n (length (called l lent)) e.1, tt)))),
  )

  -- 3, 4 and 5 are reclaim's
  pub number_3 : number_of r ≡ 3 → ⊥
  unfolding recover_table absent
  number_3 = not-given t 3 tt

  pub number_4 : number_of r ≡ 4 → ⊥
  unfolding recover_table absent
  number_4 = not-given t 4 tt

  pub number_5 : number_of r ≡ 5 → ⊥
  unfolding recover_table absent
  number_5 = not-given t 5 tt
