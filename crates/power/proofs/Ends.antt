-- The source is erased, in the end: the target holds its items, or it had none. Assumes nothing.
use mathlib.Core.Path.{◌∙◌, ◌≡◌}
use mathlib.Core.Logic.{inr}
use mathlib.Core.Bool.{true}
use mathlib.Core.List.{List, [], ◌∷◌}
use Prim.Native.Nat.{◌*◌, ◌+◌, ◌<◌, ◌≤◌, suc, zero, ℕ}
use native.Mathlib.Omega.{arith}
use lib.ListN.{get_or, length, take}
use lib.Seq.{take-nil}
use Rattle.page.specs.declared.state.PageState.TheVariants.{Full}
use Rattle.page.specs.State.{is_free, state_of}
use Rattle.page.specs.Walk.{Laid, items_of}
use Rattle.flash.specs.Step.{Step, erase, run, sector}
use Rattle.flash.proofs.Frame.{length_run, sector-kept, erase_in}
use Rattle.lists.proofs.Member.{true≢false}
use Rattle.table.specs.Table.{sectors_of}
use Rattle.power.proofs.State.{AllFree, Good, Side, State, Target, done, gone}
use Rattle.relocate.proofs.Copies.{Settled}
use Rattle.power.proofs.Runs.{run-nil}
use Rattle.item.proofs.Fresh.{blank_free}
use Rattle.flash.proofs.Erased.{erased-blank}
use Rattle.item.proofs.Shape.{raws}
use Rattle.power.proofs.Steps.{Final, done_final, gone_final}

module _ (L : List ℕ) (s : ℕ) (G : Good L s) (small : (i : ℕ) → get_or L i 0 < 256) where
  abbrev n : ℕ
  n = sectors_of L

  abbrev X : List Laid
  X = items_of (sector s L)

  -- a sector of the store lies within the image
  pub room : (l : List ℕ) → length l ≡ length L → (u : ℕ) → u < n → u * 4096 + 4096 ≤ length l
  room l e u h = omega arith

  module _ (l : List ℕ) (D : Side L l s) where
    abbrev le : List ℕ
    le = run (erase s ∷ []) l

    e_others : (u : ℕ) → (u ≡ s → ⊥) → sector u le ≡ sector u l
    e_others u k = sector-kept u s (erase s ∷ []) l k (erase_in s)

    e_side : Side L le s
    e_side = record { len = length_run (erase s ∷ []) l ∙ D.len; kept = λ u h k e. e_others u k ∙ D.kept u h k e }

    e_free : is_free (state_of (sector s le)) ≡ true
    e_free = rw (erased-blank l s (room l D.len s G.here)) blank_free

    not_s : (u : ℕ) → is_free (state_of (sector u L)) ≡ true → u ≡ s → ⊥
    not_s u f k = true≢false (rw k at f) G.page

    e_all : AllFree L l → AllFree L le
    e_all F u h f = rw (e_others u (not_s u f)) (F u h f)

    e_target : (t q : ℕ) → Target L l t q → Target L le t q
    e_target t q T = record {
      here = T.here;
      was = T.was;
      above = T.above;
      bound = T.bound;
      rest = λ u h k f. rw (e_others u (not_s u f)) (T.rest u h k f);
      seq = rw (e_others t (not_s t T.was)) T.seq;
    }

    -- it had no items
    pub e_gone : AllFree L l → X ≡ [] → State L s le × Final L le
    e_gone F x = (gone e_side e_free (e_all F) x, gone_final L s G small le e_side e_free (e_all F) x)

    -- the target has them
    pub e_done : (t q : ℕ) → Target L l t q → state_of (sector t l) ≡ Full → raws (items_of (sector t l)) ≡ raws X → State L s le × Final L le
    e_done t q T m e =
        let z = e_others t (not_s t T.was) in
        let W : Settled (sector t le) = inr (rw z m) in
        let E : raws (items_of (sector t le)) ≡ raws X = rw z e in
        (done t q e_side e_free (e_target t q T) W E, done_final L s G small le t q e_side e_free (e_target t q T) W E)

  -- one step more
  pub one_step : (l : List ℕ) → State L s l → State L s (run (erase s ∷ []) l) → (k : ℕ) → State L s (run (take k (erase s ∷ [])) l)
  one_step l a b zero = rw (run-nil l) a
  one_step l a b (suc k) = rw (take-nil {A = Step} k) b
