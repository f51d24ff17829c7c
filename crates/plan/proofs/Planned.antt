-- What a plan names lies in the image: the source is a page, the target a free sector. Assumes nothing.
use Rattle.std.specs.Prelude.{Result, Ok, Err}
use mathlib.Core.Path.{◌≡◌, refl, sym, ap, ◌∙◌}
use mathlib.Core.Bool.{Bool, true, false, cond}
use mathlib.Core.Option.{Option, none, some}
use mathlib.Core.List.{List, get_last?}
use Prim.Native.Nat.{ℕ, ◌<◌}
use lib.Dec.{eqb, ltb}
use Rattle.page.specs.State.{state_of, is_free}
use Rattle.flash.specs.Step.{sector}
use Rattle.answer.specs.declared.Answer.{Answer}
use Rattle.answer.specs.declared.Answer.TheVariants.{ActiveStands, SequencesSpent}
use Rattle.lists.specs.Lists.{some_of, greatest}
use Rattle.lists.proofs.Member.{◌∈◌, true≢false}
use Rattle.lists.proofs.Search.{last_in}
use Rattle.table.specs.declared.Page.{Page}
use Rattle.table.specs.Table.{sectors_of, pages, frees, sequence, active_page}
use Rattle.table.proofs.Pages.{pages_in, frees_in}
use Rattle.plan.specs.declared.Plan.{Plan}
use Rattle.plan.specs.declared.Plan.TheVariants.{Clear, Move}
use Rattle.plan.specs.Plan.{next, chosen, plan_to, plan_with, plan}
use Rattle.plan.proofs.Chosen.{chosen_in}

-- the sectors that a plan names are in the image, and they are two
abbrev pub Named : List ℕ → Result Plan Answer → Type 0
Named l (Err a) = Unit {0}
Named l (Ok (Clear s)) = s < sectors_of l
Named l (Ok (Move s t q)) = (s < sectors_of l) × (t < sectors_of l) × (s ≡ t → ⊥)

module _ (l : List ℕ) where
  -- a page is not free, and a free sector is
  apart : (p : Page) (t : ℕ) → p ∈ pages l → t ∈ frees l → (p.sector ≡ t → ⊥)
  apart p t h f e =
      let a = (pages_in l p h).2 in
      let b = (frees_in l t f).1 in
      let c : is_free (state_of (sector p.sector l)) ≡ is_free (state_of (sector t l)) = ap (λ (u : ℕ). is_free (state_of (sector u l))) e in
      true≢false b (sym c ∙ a)

  named_to : (p : Page) → p ∈ pages l → (o : Option ℕ) → get_last? (frees l) ≡ o → Named l (plan_to (pages l) p.sector o)
  unfolding plan_to
  named_to p h none e = tt
  named_to p h (some t) e = go (ltb 0xFFFFFFFD (greatest sequence (pages l)))
    where
      f : t ∈ frees l
      f = last_in (frees l) t e

      go : (b : Bool) → Named l (cond b (Err SequencesSpent) (Ok (Move p.sector t (next (pages l)))))
      go true = tt
      go false = ((pages_in l p h).1, (frees_in l t f).0, apart p t h f)

  named-with : (o : Option Page) → chosen (pages l) ≡ o → Named l (plan_with (pages l) (frees l) o)
  unfolding plan_with
  named-with none e = tt
  named-with (some p) e = go (eqb p.seen.erased 126)
    where
      h : p ∈ pages l
      h = (chosen_in (pages l) e).0

      go : (b : Bool) → Named l (cond b (Ok (Clear p.sector)) (plan_to (pages l) p.sector (get_last? (frees l))))
      go true = (pages_in l p h).1
      go false = named_to p h (get_last? (frees l)) refl

  pub named : Named l (plan (pages l) (frees l))
  unfolding plan
  named = go (some_of active_page (pages l))
    where
      go : (b : Bool) → Named l (cond b (Err ActiveStands) (plan_with (pages l) (frees l) (chosen (pages l))))
      go true = tt
      go false = named-with (chosen (pages l)) refl
