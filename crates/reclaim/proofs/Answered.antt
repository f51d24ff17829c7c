-- The number that the table gives is that of the plan. Assumes nothing.
use Rattle.std.specs.Prelude.{Result, Ok, Err}
use mathlib.Core.Path.{◌≡◌, refl}
use mathlib.Core.Bool.{Bool, true, false, cond}
use mathlib.Core.Option.{Option, none, some}
use mathlib.Core.List.{List, get_last?}
use Prim.Native.Nat.{ℕ}
use lib.Dec.{eqb, ltb}
use lib.ListN.{length}
use Rattle.answer.specs.declared.Answer.{Answer}
use Rattle.answer.specs.declared.Answer.TheVariants.{ActiveStands, SequencesSpent}
use Rattle.answer.specs.Answer.{number_of, refusal}
use Rattle.answer.specs.Told.{number_in}
use Rattle.lists.specs.Lists.{some_of}
use Rattle.table.specs.declared.Page.{Page}
use Rattle.table.specs.Table.{whole_sectors, pages, frees, active_page}
use Rattle.plan.specs.declared.Plan.{Plan}
use Rattle.plan.specs.declared.Plan.TheVariants.{Clear, Move}
use Rattle.plan.specs.Plan.{next, chosen, sequences_spent, plan_to, plan_with, plan}
use Rattle.reclaim.specs.Reclaim.{reclaiming}
use Rattle.reclaim.specs.Promise.{reclaim_table}
use Rattle.reclaim.proofs.Choice.{chosen_none, chosen_some, last_none, last_some}

module _ (l : List ℕ) (n : ℕ) where
  -- the number of a plan: of its refusal, or that of its steps
  abbrev pub Numbered : Result Plan Answer → Type 0
  Numbered (Err a) = (refusal a ≡ true) × (number_of a ≡ number_in (reclaim_table l n))
  Numbered (Ok (Clear s)) = number_in (reclaim_table l n) ≡ cond (ltb n (length (reclaiming l))) 7 0
  Numbered (Ok (Move s t q)) = number_in (reclaim_table l n) ≡ cond (ltb n (length (reclaiming l))) 7 0

  module _ (w : whole_sectors l ≡ true) (none_active : some_of active_page (pages l) ≡ false) where
    numbered_to : (x : Page) → chosen (pages l) ≡ some x → eqb x.seen.erased 126 ≡ false → (o : Option ℕ) → get_last? (frees l) ≡ o → Numbered (plan_to (pages l) x.sector o)
    unfolding plan_to reclaim_table number_in
    numbered_to x e c none f = (refl, rw (w, none_active, chosen_some (pages l) e, e, c, last_none (frees l) f))
    numbered_to x e c (some t) f = go (sequences_spent (pages l)) refl
      where
        go : (b : Bool) → sequences_spent (pages l) ≡ b → Numbered (cond b (Err SequencesSpent) (Ok (Move x.sector t (next (pages l)))))
        go true s = (refl, rw (w, none_active, chosen_some (pages l) e, e, c, last_some (frees l) f, s))
        go false s = rw (w, none_active, chosen_some (pages l) e, e, c, last_some (frees l) f, s)

    numbered-with : (o : Option Page) → chosen (pages l) ≡ o → Numbered (plan_with (pages l) (frees l) o)
    unfolding plan_with reclaim_table number_in
    numbered-with none e = (refl, rw (w, none_active, chosen_none (pages l) e))
    numbered-with (some x) e = go (eqb x.seen.erased 126) refl
      where
        go : (b : Bool) → eqb x.seen.erased 126 ≡ b → Numbered (cond b (Ok (Clear x.sector)) (plan_to (pages l) x.sector (get_last? (frees l))))
        go true c = rw (w, none_active, chosen_some (pages l) e, e, c)
        go false c = numbered_to x e c (get_last? (frees l)) refl

  pub numbered : whole_sectors l ≡ true → Numbered (plan (pages l) (frees l))
  unfolding plan reclaim_table number_in
  numbered w = go (some_of active_page (pages l)) refl
    where
      go : (b : Bool) → some_of active_page (pages l) ≡ b → Numbered (cond b (Err ActiveStands) (plan_with (pages l) (frees l) (chosen (pages l))))
      go true e = (refl, rw (w, e))
      go false e = numbered-with w e (chosen (pages l)) refl
