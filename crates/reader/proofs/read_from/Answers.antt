-- `reader::read_from` meets its contract: up to where a reader begins a place gives what it hands out first, and from there on what it hands out there.
-- Assumes nothing.
use mathlib.Core.Path.{◌≡◌, refl, ap, ◌∙◌}
use mathlib.Core.Bool.{Bool, true, false}
use mathlib.Core.List.{List}
use Prim.Native.Nat.{ℕ, max}
use native.Mathlib.Omega.{arith}
use borrow.Author.Tests.{leb-true, leb-false}
use lib.Dec.{leb}
use Rattle.reading.specs.declared.Read.{Read}
use Rattle.reading.specs.Reading.{read_on, begins_at}
use Rattle.reader.specs.Reader.{read_from}
use Rattle.reader.proofs.Begins.{first_for, same_from}
use Rattle.reader.proofs.read_from.Goals as goal

pub returns : goal.returns
returns c =
    let a = c.args in
    let s = a.sector.now in
    go s a.entry a.unread c.max.result (c.max.ensures ∙ ap (max a.entry) c.begins_at-first.ensures) c.read_on.result c.read_on.ensures
  where
    go : (s : List ℕ) (e u m : ℕ) → m ≡ max e (begins_at s) → (r : Read) → r ≡ read_on s m u → r ≡ read_from s e u
    go s e u m h r q = or (leb e (begins_at s)) refl
      where
        or : (b : Bool) → leb e (begins_at s) ≡ b → r ≡ read_from s e u
        or true t = let l = leb-true e (begins_at s) t in let z : m ≡ begins_at s = omega arith in q ∙ ap (λ (k : ℕ). read_on s k u) z ∙ first_for s e u l
        or false t = let l = leb-false e (begins_at s) t in let z : m ≡ e = omega arith in q ∙ ap (λ (k : ℕ). read_on s k u) z ∙ same_from s e u (omega arith)
