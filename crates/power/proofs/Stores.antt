-- A store that recovery leaves unchanged is within the premises of the general form: its items are calm. Assumes nothing.
use mathlib.Core.Path.{◌≡◌, refl}
use mathlib.Core.Logic.{⊎_elim}
use mathlib.Core.Bool.{Bool, ◌||◌, false, not, true}
use mathlib.Core.List.{List, []}
use Prim.Native.Nat.{ℕ}
use native.Mathlib.Omega.{arith}
use lib.Dec.{eqb}
use borrow.Author.Tests.{eq-eqb}
use Rattle.entry.specs.States.{one}
use Rattle.entry.specs.Fields.{span_of}
use Rattle.page.proofs.Tests.{both_is}
use Rattle.flash.specs.Step.{run}
use Rattle.lists.proofs.Member.{◌∈◌}
use Rattle.lists.proofs.Search.{every_is, in_keep}
use Rattle.lists.proofs.Sums.{sum-ge}
use Rattle.table.specs.Table.{pages}
use Rattle.found.specs.Found.{Found, found, index_of, is_index, version_of}
use Rattle.versions.specs.Versions.{sound}
use Rattle.quick.specs.Calm.{Calm, tot}
use Rattle.quick.proofs.Counts.{one_true}
use Rattle.quick.proofs.Idle.{calm_same, index-only, sound_is}
use Rattle.answer.specs.Staged.{untag}
use Rattle.stages.specs.Stages.{recovering}
use Rattle.power.specs.Demand3.{Premises, Store, total}
use Rattle.power.specs.General.{Unsettled}
use Rattle.power.proofs.Plain.{plain, plain_same}
use Rattle.power.proofs.Premises.{no-active, no-freeing, state_of_lem, tidy}
use Rattle.power.proofs.Quiet.{calm_stable}
use Rattle.power.proofs.Totals.{total_found}
use Rattle.power.proofs.Unchanged.{no_steps}

module _ (L : List ℕ) (S : Store L) where
  abbrev H : Premises L
  H = S.premises

  -- recovery makes no step on it
  pub no_step : plain L ≡ []
  no_step = let e : run (untag (recovering L)) L ≡ L = S.unchanged in no_steps L (no-active L H) (no-freeing L H) (rw (plain_same L) at e)

  -- and so its items are calm
  calm : Calm (λ (f : List ℕ → ℕ). total f L)
  calm = calm_stable L (λ u h. (state_of_lem L H u h).0) (λ u h. (state_of_lem L H u h).1) (tidy L H) no_step

  pub unsettled : Unsettled L
  unsettled = record { premises = H; alone = calm.single; one_entry = every_is _ fs (λ x m. go x m (is_index x.raw) refl) }
    where
      fs : List Found
      fs = found (pages L) L

      still : Calm (λ (f : List ℕ → ℕ). tot f fs)
      still = calm_same (λ (f : List ℕ → ℕ). tot f fs) (λ (f : List ℕ → ℕ). total f L) (λ f. total_found f L) calm

      -- a version has one index, which is sound
      is_sound : (x : Found) → x ∈ fs → is_index x.raw ≡ true → sound (version_of x.raw) fs x ≡ true
      is_sound x m e =
          let v = version_of x.raw in
          let here = both_is _ _ e (eq-eqb v v refl) in
          let a = sum-ge (λ (y : Found). one (index_of v y.raw)) fs x m in
          let b = one_true (index_of v x.raw) here in
          let i = index-only fs still v (omega arith) in
          let same : x ≡ i.0 = ⊎_elim (λ k. k) (λ k. absurd k) (rw i.1 at (in_keep (λ (y : Found). index_of v y.raw) fs x m here)) in
          rw (← same) at (sound_is fs still v i.0 i.1 (omega arith))

      go : (x : Found) → x ∈ fs → (b : Bool) → is_index x.raw ≡ b → not b || (sound (version_of x.raw) fs x || eqb (span_of x.raw) 1) ≡ true
      go x m true e = rw (is_sound x m e)
      go x m false e = refl
