-- `erasing::erase_chunks` meets its contract: the chunks from here on are left, read where they stood as the call began. Assumes nothing.
use mathlib.Core.Path.{sym, ◌∙◌}
use Rattle.flash.proofs.Laws.{goes_start, goes_on, goes_out, goes_end, goes_same}
use Rattle.found.proofs.Alike.{alike_refl, alike_trans}
use Rattle.found.proofs.Erasing.{chunks_end}
use Rattle.erasing.proofs.Turns.{placed_here, chunk_here, other_here}
use Rattle.erasing.proofs.erase_chunks.Goals as goal
use Rattle.erasing.proofs.erase_chunks.Goals.{then-is_chunk_of+in_ok-left, else-is_chunk_of}

pub loop-p-init : goal.loop-p-init
loop-p-init c = (alike_refl _, goes_start _ _ _)

pub is_chunk_of-requires : goal.is_chunk_of-requires
is_chunk_of-requires c = placed_here _ _ _ _ _ c.requires c.loop-p.invariant.0 c.loop-p-test.true c.from-place.ensures

pub span_at-requires : goal.span_at-requires
span_at-requires c = placed_here _ _ _ _ _ c.requires c.loop-p.invariant.0 c.loop-p-test.true c.from-place.ensures

pub erase_at-requires : goal.erase_at-requires
erase_at-requires c = (placed_here _ _ _ _ _ c.requires c.loop-p.invariant.0 c.loop-p-test.true c.from-place.ensures, c.span_at.ensures.2)

pub returns-in_err-left : goal.returns-in_err-left
returns-in_err-left c =
    let l = c.loop-p in
    let more = chunk_here _ _ _ _ _ c.requires l.invariant.0 c.loop-p-test.true c.from-place.ensures _ _ (sym c.is_chunk_of.ensures ∙ c.if-is_chunk_of.true) c.span_at.ensures.0 in
    (goes_out _ l.invariant.1 more c.erase_at.ensures.0 c.in_err-left.was c.from_residual.ensures.0, alike_trans l.invariant.0 c.erase_at.ensures.1)

pub loop-p-preserved : goal.loop-p-preserved
loop-p-preserved c =
    let l = c.loop-p in
    elim c.if-is_chunk_of.branch [
      | then-is_chunk_of+in_ok-left w ↦
          let more = chunk_here _ _ _ _ _ c.requires l.invariant.0 c.loop-p-test.true c.from-place.ensures _ _ (sym c.is_chunk_of.ensures ∙ w.if-is_chunk_of.true) w.span_at.ensures.0 in
          rw (w.image-is, w.left-is) (alike_trans l.invariant.0 w.erase_at.ensures.1, goes_on l.invariant.1 more w.erase_at.ensures.0 w.in_ok-left.was)
      | else-is_chunk_of w ↦
          let none = other_here _ _ _ _ _ c.requires l.invariant.0 c.loop-p-test.true c.from-place.ensures _ (sym c.is_chunk_of.ensures ∙ w.if-is_chunk_of.false) in
          rw (w.image-is, w.left-is) (l.invariant.0, goes_same l.invariant.1 none)
    ]

pub returns : goal.returns
returns c =
    let l = c.loop-p in
    (goes_end l.invariant.1 (chunks_end _ _ _ l.p-index c.loop-p-test.false), l.invariant.0)
