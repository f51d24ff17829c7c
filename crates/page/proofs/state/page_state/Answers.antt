-- `page::page_state` meets its contract: each test that led to a return decides the definition's. Assumes nothing.
use mathlib.Core.Path.{◌≡◌, sym, ◌∙◌}
use borrow.Author.Tests.{eq-eqb, ne_eqb, le-leb, lt-leb}
use Rattle.word.specs.Number.{part, le}
use Rattle.crc.specs.Crc.{crc_of}
use Rattle.page.specs.State.{state_of, header_right}
use Rattle.page.proofs.state.page_state.Goals as goal
use Rattle.page.proofs.state.page_state.Goals.{else-s-ge-LEAST_VERSION-via-then-s-ge-LEAST_VERSION+else-le32-crc, else-s-ge-LEAST_VERSION-via-else-s-ge-LEAST_VERSION}

pub returns-then-all_ones : goal.returns-then-all_ones
unfolding state_of
returns-then-all_ones c = rw (← c.all_ones.ensures, c.if-all_ones.true)

pub returns-then-le32-crc : goal.returns-then-le32-crc
unfolding state_of header_right
returns-then-le32-crc c =
    let s = c.args.s.now in
    let e : le s 28 4 ≡ crc_of (part s 4 24) = sym c.le32.ensures ∙ c.if-le32-crc.true ∙ c.crc.ensures in
    rw (c.state_of_word.ensures, ← c.all_ones.ensures, c.if-all_ones.false, le-leb _ _ c.if-s-ge-LEAST_VERSION.true, eq-eqb _ _ e)

pub returns-else-s-ge-LEAST_VERSION : goal.returns-else-s-ge-LEAST_VERSION
unfolding state_of header_right
returns-else-s-ge-LEAST_VERSION c =
    let s = c.args.s.now in
    elim c.else-s-ge-LEAST_VERSION.branch [
      | else-s-ge-LEAST_VERSION-via-then-s-ge-LEAST_VERSION+else-le32-crc w ↦
          let ne : le s 28 4 ≡ crc_of (part s 4 24) → ⊥ = λ e. w.if-le32-crc.false (w.le32.ensures ∙ e ∙ sym w.crc.ensures) in
          rw (← c.all_ones.ensures, c.if-all_ones.false, le-leb _ _ w.if-s-ge-LEAST_VERSION.true, ne_eqb _ _ ne)
      | else-s-ge-LEAST_VERSION-via-else-s-ge-LEAST_VERSION w ↦ rw (← c.all_ones.ensures, c.if-all_ones.false, lt-leb _ _ w.if-s-ge-LEAST_VERSION.false)
    ]
