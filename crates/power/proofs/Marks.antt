-- A page marked Full, or Freeing: the step on its sector alone, and what the page marked Full reads as. Assumes nothing.
use mathlib.Core.Path.{◌∙◌, ◌≡◌, ap, sym}
use mathlib.Core.Logic.{◌⊎◌}
use mathlib.Core.List.{List, [], ◌∷◌}
use Prim.Native.Nat.{◌*◌, ◌+◌, ◌<◌, ℕ}
use native.Mathlib.Nat.{add-zero}
use native.Mathlib.Omega.{arith}
use lib.ListN.{length}
use Rattle.page.specs.declared.state.PageState.TheVariants.{Active, Full}
use Rattle.page.specs.State.{sequence_of, state_of}
use Rattle.page.specs.Walk.{items_of}
use Rattle.flash.specs.Step.{Step, run, sector}
use Rattle.flash.proofs.Erased.{length-sector}
use Rattle.flash.proofs.Frame.{AllIn, In, sector-kept}
use Rattle.flash.proofs.Lent.{Fit, sector-local}
use Rattle.flash.proofs.Every.{every_one}
use Rattle.item.specs.Mark.{mark_full, page_state}
use Rattle.table.specs.Table.{sectors_of}
use Rattle.item.proofs.Marked.{marked-drop, marked-sequence, to_full}
use Rattle.page.proofs.Read.{items_same}

mark_in : (u b : ℕ) → AllIn (u * 4096) (u * 4096 + 4096) (page_state (u * 4096) b ∷ [])
mark_in u b = every_one (In (u * 4096) (u * 4096 + 4096)) _ (omega arith, omega arith)

-- a mark is a step on the sector's own bytes
pub mark_sector : (t b : ℕ) (l : List ℕ) → sector t (run (page_state (t * 4096) b ∷ []) l) ≡ run (page_state 0 b ∷ []) (sector t l)
mark_sector t b l =
    ap (λ (k : ℕ). sector t (run (page_state k b ∷ []) l)) (sym (add-zero (t * 4096)))
    ∙ sector-local t (page_state 0 b ∷ []) l (every_one (Fit 4096) _ (omega arith))

-- no step, or one that marks an Active page Full
abbrev pub Marks : List ℕ → List Step → Type 0
Marks l ss = (ss ≡ []) ⊎ ((t : ℕ) × (t < sectors_of l) × (state_of (sector t l) ≡ Active) × (ss ≡ mark_full t ∷ []))

-- ---- an Active page marked Full
module _ (l : List ℕ) (t : ℕ) (h : t < sectors_of l) (mk : state_of (sector t l) ≡ Active) where
  abbrev lf : List ℕ
  lf = run (mark_full t ∷ []) l

  pub m_others : (u : ℕ) → (u ≡ t → ⊥) → sector u lf ≡ sector u l
  m_others u k = sector-kept u t (mark_full t ∷ []) l k (mark_in t 0xFC)

  len-st : length (sector t l) ≡ 4096
  len-st = length-sector t l ∙ omega arith

  m_at : sector t lf ≡ run (page_state 0 0xFC ∷ []) (sector t l)
  m_at = mark_sector t 0xFC l

  pub m_full : state_of (sector t lf) ≡ Full
  m_full = rw m_at (to_full (sector t l) (let z = len-st in omega arith) mk)

  pub m_items : items_of (sector t lf) ≡ items_of (sector t l)
  m_items =
      let z = len-st in
      let y = to_full (sector t l) (omega arith) mk in
      rw m_at (items_same (sector t l) (run (page_state 0 0xFC ∷ []) (sector t l)) (marked-drop (sector t l) 0xFC (omega arith) 32 (omega arith)) (rw (y, mk)))

  pub m_sequence : sequence_of (sector t lf) ≡ sequence_of (sector t l)
  m_sequence = rw m_at (marked-sequence (sector t l) 0xFC (let z = len-st in omega arith))
