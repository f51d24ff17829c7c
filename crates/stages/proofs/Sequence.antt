-- The stages in sequence: what each one's steps leave to the next. Assumes nothing.
use Rattle.std.specs.Prelude.{Err, Ok}
use Rattle.std.specs.Result.{IsErrAnd}
use mathlib.Core.Path.{◌≡◌, refl}
use mathlib.Core.List.{List}
use Prim.Native.Nat.{ℕ, zero, suc}
use native.Mathlib.Omega.{arith}
use Rattle.flash.specs.Step.{run}
use Rattle.flash.specs.Did.{Did, Ran}
use Rattle.answer.specs.declared.Stage.{Stage}
use Rattle.answer.specs.declared.Stage.TheVariants.{Order}
use Rattle.answer.specs.Staged.{Staged, untag}
use Rattle.answer.specs.Went.{Made, Went, in_stage}
use Rattle.answer.proofs.Made.{made_then, made_out, made_all, making_start, making_on, making_out}
use Rattle.table.specs.declared.Page.{Page}
use Rattle.table.specs.Table.{pages, frees}
use Rattle.order.specs.Order.{ordering, ordered}
use Rattle.finishing.specs.Finishing.{freeings, finishing}
use Rattle.stages.specs.Stages.{last_stages, from_order, from_finish, after_order, recovering}

-- ---- stage 1, and then 3 and 4

module _ (ps : List Page) {n : ℕ} {l m : List ℕ} {r : Ran} (d : Did (ordering ps) n l m r) where
  pub order_stop : {w v : Went} {s : Stage} → w ≡ in_stage Order r → w ≡ Err s → IsErrAnd v (λ y. y ≡ s) → Made (from_order ps l) n l m v
  unfolding from_order
  order_stop i q h = making_out (making_start _ n l) Order _ refl d i q h

  pub order_on_lem : {w : Went} {k : ℕ} {m' : List ℕ} {v : Went} → w ≡ in_stage Order r → w ≡ Ok k → Made (last_stages (ordered ps) m) k m m' v → Made (from_order ps l) n l m' v
  unfolding from_order
  order_on_lem i q next = (making_on (making_start _ n l) Order (last_stages (ordered ps)) refl d i q).on _ _ next

-- ---- stage 2, and then 1, 3 and 4

module _ (ps : List Page) (fs : List ℕ) {c n : ℕ} {l m : List ℕ} {w : Went} (same : c ≡ freeings ps) (d : Made (finishing c ps fs l) n l m w) where
  pub finish-stop : {v : Went} {x : Stage} → w ≡ Err x → IsErrAnd v (λ y. y ≡ x) → Made (from_finish ps fs l) n l m v
  unfolding from_finish
  finish-stop e h = made_out _ (rw same at d) e h

  pub finish_on_lem : {k : ℕ} {m' : List ℕ} {v : Went} → w ≡ Ok k → Made (from_order (pages m) m) k m m' v → Made (from_finish ps fs l) n l m' v
  unfolding from_finish
  finish_on_lem e next =
      let made = rw (same, e) at d in
      let left : m ≡ run (untag (finishing (freeings ps) ps fs l)) l = made_all made in
      made_then made (rw (← left) next)

-- ---- all of them

module _ {n : ℕ} {l m : List ℕ} {r : Ran} (d : Did (ordering (pages l)) n l m r) where
  abbrev onward : List ℕ → List Staged
  onward k = after_order (freeings (ordered (pages l))) (ordered (pages l)) (frees l) k

  pub all_stop : {w v : Went} {s : Stage} → w ≡ in_stage Order r → w ≡ Err s → IsErrAnd v (λ y. y ≡ s) → Made (recovering l) n l m v
  unfolding recovering
  all_stop i q h = making_out (making_start _ n l) Order _ refl d i q h

  all_on : {w : Went} {k : ℕ} {m' : List ℕ} {v : Went} → w ≡ in_stage Order r → w ≡ Ok k → Made (onward m) k m m' v → Made (recovering l) n l m' v
  unfolding recovering
  all_on i q next = (making_on (making_start _ n l) Order onward refl d i q).on _ _ next

  onward_none : (c : ℕ) (ps : List Page) (fs k : List ℕ) → c ≡ 0 → after_order c ps fs k ≡ last_stages ps k
  unfolding after_order
  onward_none zero ps fs k e = refl
  onward_none (suc c) ps fs k e = absurd (omega arith)

  onward_some : (c : ℕ) (ps : List Page) (fs k : List ℕ) → (c ≡ 0 → ⊥) → after_order c ps fs k ≡ from_finish ps fs k
  unfolding after_order
  onward_some zero ps fs k e = absurd (e refl)
  onward_some (suc c) ps fs k e = refl

  pub none_on : {w : Went} {k : ℕ} {m' : List ℕ} {v : Went} → w ≡ in_stage Order r → w ≡ Ok k → freeings (ordered (pages l)) ≡ 0 → Made (last_stages (ordered (pages l)) m) k m m' v → Made (recovering l) n l m' v
  none_on i q z next = all_on i q (rw (onward_none _ (ordered (pages l)) (frees l) m z) next)

  pub some_on : {w : Went} {k : ℕ} {m' : List ℕ} {v : Went} → w ≡ in_stage Order r → w ≡ Ok k → (freeings (ordered (pages l)) ≡ 0 → ⊥) → Made (from_finish (ordered (pages l)) (frees l) m) k m m' v → Made (recovering l) n l m' v
  some_on i q z next = all_on i q (rw (onward_some _ (ordered (pages l)) (frees l) m z) next)
