-- A store within the premises of the general form: it is what is left of it, and what is asked of its items holds in sums. Assumes nothing.
use mathlib.Core.Path.{◌∙◌, ◌≡◌, refl, sym}
use mathlib.Core.Bool.{Bool, ◌&&◌, ◌||◌, cond, false, not, true}
use mathlib.Core.List.{List}
use Prim.Native.Nat.{◌^◌, ◌≤◌, ℕ}
use lib.Dec.{eqb, ltb}
use borrow.Author.Tests.{eq-eqb, lt-ltb}
use Rattle.entry.specs.States.{one}
use Rattle.entry.specs.Fields.{key_number, key_of, span_of}
use Rattle.page.proofs.Tests.{both_is}
use Rattle.lists.proofs.Member.{◌∈◌}
use Rattle.lists.proofs.Search.{every_of}
use Rattle.lists.proofs.Sums.{sum-zero}
use Rattle.table.specs.Table.{pages}
use Rattle.found.specs.Found.{Found, found, is_index, version_of}
use Rattle.versions.specs.Versions.{sound}
use Rattle.quick.specs.Calm.{in_group, part_of, tot}
use Rattle.power.specs.Demand3.{Premises, total}
use Rattle.power.specs.General.{Unsettled}
use Rattle.power.proofs.Doomed.{sound_is, sound_by_same}
use Rattle.power.proofs.Judged.{Fit}
use Rattle.power.proofs.Left.{Left, final_left, sound_of}
use Rattle.power.proofs.Premises.{state_of_lem, tidy}
use Rattle.power.proofs.Steps.{still_final}
use Rattle.power.proofs.Totals.{total_found}

-- nothing is gone yet
pub store_left : (L : List ℕ) → Premises L → Left L L
store_left L S = final_left L L (still_final L (state_of_lem L S))

-- what stage 3 asks of an index, by the sums of the store
pub sound_found : (L : List ℕ) → Premises L → ((g : ℕ) → total (λ (r : List ℕ). one (in_group g r)) L ≤ 1) → (x : Found) → x ∈ found (pages L) L → is_index x.raw ≡ true
    → sound (version_of x.raw) (found (pages L) L) x ≡ sound_of L (version_of x.raw)
sound_found L S alone x m e =
    let v = version_of x.raw in
    sound_is (found (pages L) L) (tidy L S) (λ g. rw (total_found (λ (r : List ℕ). one (in_group g r)) L) (alone g)) v x m (both_is _ _ e (eq-eqb v v refl))
    ∙ sound_by_same (λ (f : List ℕ → ℕ). tot f (found (pages L) L)) (λ (f : List ℕ → ℕ). total f L) v (λ g. total_found (λ (r : List ℕ). cond (part_of v r) (g r) 0) L)

-- no item fails a test that each item found passes
none_found : (L : List ℕ) (p : List ℕ → Bool) → ((x : Found) → x ∈ found (pages L) L → p x.raw ≡ false) → total (λ (r : List ℕ). one (p r)) L ≡ 0
none_found L p h = sym (total_found (λ (r : List ℕ). one (p r)) L) ∙ sum-zero (λ (x : Found). one (p x.raw)) (found (pages L) L) (λ x m. rw (h x m))

module _ (L : List ℕ) (U : Unsettled L) where
  pub fit : Fit L
  fit = record {
    keys = none_found L (λ (r : List ℕ). not (ltb (key_number (key_of r)) (2 ^ 128))) (λ x m. rw (lt-ltb (key_number (key_of x.raw)) (2 ^ 128) (tidy L U.premises x m).0));
    part_in_0 = U.premises.part_in_0;
    alone = U.alone;
    one_entry = none_found L (λ (r : List ℕ). is_index r && (not (sound_of L (version_of r)) && not (eqb (span_of r) 1)))
        (λ x m. go x m (is_index x.raw) refl (every_of _ (found (pages L) L) U.one_entry x m));
  }
    where
      two : (a b : Bool) → a || b ≡ true → not a && not b ≡ false
      two true b e = refl
      two false b e = rw e

      go : (x : Found) → x ∈ found (pages L) L → (b : Bool) → is_index x.raw ≡ b
          → not b || (sound (version_of x.raw) (found (pages L) L) x || eqb (span_of x.raw) 1) ≡ true
          → b && (not (sound_of L (version_of x.raw)) && not (eqb (span_of x.raw) 1)) ≡ false
      go x m true q e = two (sound_of L (version_of x.raw)) (eqb (span_of x.raw) 1) (rw (sound_found L U.premises U.alone x m q) at e)
      go x m false q e = refl
