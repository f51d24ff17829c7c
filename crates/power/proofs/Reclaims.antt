-- Within the premises of demand 3 reclaim is not refused: no page is Active, one is below 126, a sector is free, sequences are left. Assumes nothing.
use mathlib.Core.Path.{◌≡◌, refl, ◌∙◌}
use mathlib.Core.Bool.{Bool, true, false, cond, not, ◌&&◌}
use mathlib.Core.List.{List, [], ◌∷◌}
use Prim.Native.Nat.{ℕ, ◌≤◌, ◌<◌}
use native.Mathlib.Omega.{arith}
use lib.Dec.{eqb, ltb}
use lib.ListN.{length}
use borrow.Author.Tests.{ltb-true, le-ltb}
use Rattle.page.proofs.Tests.{both_first}
use Rattle.lists.specs.Lists.{greatest}
use Rattle.lists.proofs.Search.{every_of, some_none}
use Rattle.lists.proofs.Sums.{greatest-lt}
use Rattle.table.specs.declared.Page.{Page}
use Rattle.table.specs.Table.{active_page, frees, pages, sequence, whole_sectors}
use Rattle.answer.specs.declared.Answer.{Answer}
use Rattle.answer.specs.Answer.{number_of, refusal}
use Rattle.answer.specs.Told.{number_in}
use Rattle.stages.specs.Stages.{accepted, too_high}
use Rattle.plan.specs.Plan.{sequences_spent}
use Rattle.plan.proofs.Chosen.{some_chosen}
use Rattle.reclaim.specs.Reclaim.{reclaiming}
use Rattle.reclaim.specs.Promise.{no_sector_free, reclaim_table}
use Rattle.reclaim.proofs.Ends.{reclaim-ended}
use Rattle.power.specs.Demand3.{Premises}
use Rattle.power.specs.Calls.{Reclaims}
use Rattle.power.proofs.Premises.{no-active}

module _ (l : List ℕ) (S : Premises l) (n : ℕ) where
  -- "below 0xFFFFFFF0"
  sequences_left : greatest sequence (pages l) < 0xFFFFFFF0
  sequences_left = greatest-lt sequence (pages l) 0xFFFFFFF0 (omega arith) (λ p m. ltb-true (sequence p) 0xFFFFFFF0 (every_of (λ (q : Page). ltb (sequence q) 0xFFFFFFF0) (pages l) S.below p m))

  -- "a free sector"
  some_free : no_sector_free (frees l) ≡ false
  some_free = go (frees l) S.free_sector
    where
      go : (fs : List ℕ) → 1 ≤ length fs → no_sector_free fs ≡ false
      go [] h = absurd (omega arith)
      go (f ∷ fs) h = refl

  -- no refusal's condition holds
  numbered : ◌≡◌ {A = ℕ} (number_in (reclaim_table l n)) (cond (ltb n (length (reclaiming l))) 7 0)
  unfolding reclaim_table number_in accepted
  numbered =
      let x = some_chosen (pages l) S.below_126 in
      let whole = both_first (whole_sectors l) (not (too_high (pages l))) S.accepts in
      let spent : sequences_spent (pages l) ≡ false = le-ltb 0xFFFFFFFD (greatest sequence (pages l)) (omega (arith, sequences_left)) in
      rw (whole, some_none active_page (pages l) (no-active l S), S.below_126, x.1, some_free, spent) (go (eqb x.0.seen.erased 126))
    where
      end : ℕ
      end = cond (ltb n (length (reclaiming l))) 7 0

      go : (b : Bool) → ◌≡◌ {A = ℕ} (cond (not b && false) 5 (cond (not b && false) 6 end)) end
      go true = refl
      go false = refl

  taken : (r : Answer) → number_of r ≡ number_in (reclaim_table l n) → refusal r ≡ false
  taken r e = rw (e ∙ numbered) (go (ltb n (length (reclaiming l))))
    where
      go : (b : Bool) → (not (eqb (cond b 7 0) 0) && not (eqb (cond b 7 0) 7)) ≡ false
      go true = refl
      go false = refl

pub reclaims : Reclaims
reclaims l S n m r p =
    let t = taken l S n r p.answer.number in
    (t, λ allowed. reclaim-ended p allowed t)
