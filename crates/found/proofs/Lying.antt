-- A page lies where it lay on an image whose bytes 4 to 7 of each sector, the sequence, are the same. Assumes nothing.
use mathlib.Core.Path.{◌≡◌, sym, ap, ◌∙◌}
use mathlib.Core.Logic.{inl}
use mathlib.Core.List.{List}
use Prim.Native.Nat.{ℕ, ◌+◌, ◌*◌, ◌%◌, ◌<◌, ◌≤◌}
use native.Mathlib.Omega.{arith}
use lib.ListN.{length, get_or}
use Rattle.word.specs.Number.{part, le}
use Rattle.word.proofs.Bytes.{le-part}
use Rattle.flash.specs.Step.{sector}
use Rattle.flash.proofs.Frame.{part_same}
use Rattle.lists.proofs.Member.{◌∈◌}
use Rattle.table.specs.declared.Page.{Page}
use Rattle.table.specs.Table.{sequence, sectors_of, pages}
use Rattle.table.proofs.Pages.{pages_in}
use Rattle.page.proofs.Fields.{seen_sequence}
use Rattle.found.specs.Places.{Lies, Alike}
use Rattle.lists.specs.Each.{Each}
use Rattle.lists.proofs.Each.{each_of, of_each}

module _ (l m : List ℕ) (size : length m ≡ length l) (same : (j : ℕ) → 4 ≤ j % 4096 → j % 4096 < 8 → get_or m j 0 ≡ get_or l j 0) where
  pub sequence_same : (u : ℕ) → le (sector u m) 4 4 ≡ le (sector u l) 4 4
  unfolding sector
  sequence_same u = within m u ∙ ap (λ (x : List ℕ). le x 0 4) (part_same (u * 4096 + 4) 4 l m size (λ j a b. same j (omega arith) (omega arith))) ∙ sym (within l u)
    where
      within : (x : List ℕ) (u : ℕ) → le (part x (u * 4096) 4096) 4 4 ≡ le (part x (u * 4096 + 4) 4) 0 4
      within x u =
          let e : u * 4096 + 4 ≡ u * 4096 + 4 + 0 = omega arith in
          le-part x (u * 4096) 4096 4 4 (omega arith) ∙ ap (λ (a : ℕ). le x a 4) e ∙ sym (le-part x (u * 4096 + 4) 4 0 4 (omega arith))

  pub lies_same : (p : Page) → Lies l p → Lies m p
  lies_same p h = record { sixteen = h.sixteen; room = rw size h.room; told = h.told ∙ sym (sequence_same p.sector) }

pub lies_alike : {l m : List ℕ} → Alike l m → (ps : List Page) → Each (Lies l) ps → Each (Lies m) ps
lies_alike {l} {m} like ps h =
    each_of (Lies m) ps (λ p i. lies_same l m like.size (λ j a b. like.same j (inl (omega arith))) p (of_each (Lies l) ps h p i))

-- of the scan
pub pages_lie : (l : List ℕ) → sectors_of l ≤ 16 → (p : Page) → p ∈ pages l → Lies l p
pages_lie l h p i =
    let q = pages_in l p i in
    record {
      sixteen = omega (arith, q.1);
      room = omega (arith, q.1);
      told = ap sequence q.0 ∙ seen_sequence (sector p.sector l) q.2;
    }
