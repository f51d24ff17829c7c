-- `fits::index_fits` meets its contract: each chunk passed is there, and their sizes are summed; it answers no at the first that is not. Assumes nothing.
use mathlib.Core.Path.{refl, ap₂, ◌≡◌, sym, ap, ◌∙◌}
use mathlib.Core.Bool.{Bool, false, true}
use Prim.Native.Nat.{ℕ, ◌+◌}
use native.Mathlib.Numerals.{add-one}
use native.Mathlib.Omega.{arith}
use lib.Dec.{eqb}
use Rattle.std.specs.Prelude.{Some, None}
use Rattle.std.specs.Bool.{then_some}
use Rattle.entry.specs.Fields.{chunk_size, index_count, index_size}
use Rattle.lists.specs.Lists.{all_to, sum_to}
use Rattle.lists.proofs.Member.{refuted, true≢false}
use Rattle.lists.proofs.Passing.{all_at}
use Rattle.found.specs.Found.{version_of}
use Rattle.found.specs.Places.{item_at}
use Rattle.found.specs.Ranks.{rank_number}
use Rattle.found.proofs.Reading.{byte-here, le_at}
use Rattle.slots.specs.Names.{chunk_name}
use Rattle.slots.specs.Slots.{raw_at}
use Rattle.slots.specs.Named.{told_raw}
use Rattle.fits.specs.Fits.{has_chunk, index_fits}
use Rattle.fits.proofs.index_fits.Goals as goal

-- what a test answers with a value
answered_none : (b : Bool) (x : ℕ) → None ≡ then_some b x → b ≡ false
answered_none true x e = cc
answered_none false x e = refl

answered-some : (b : Bool) (x p : ℕ) → Some p ≡ then_some b x → (b ≡ true) × (p ≡ x)
answered-some true x p e = (refl, cc)
answered-some false x p e = cc

pub loop-n-init : goal.loop-n-init
unfolding sum_to all_to
loop-n-init c = (omega arith, refl, refl)

pub returns-in_default : goal.returns-in_default
unfolding index_fits
returns-in_default c =
    let image = c.args.image.now in
    let t = c.args.slots.now in
    let i = c.args.index in
    let r = (item_at image i).raw in
    let count : c.from-count.result ≡ index_count r = c.from-count.ensures ∙ c.index_count.ensures ∙ sym (byte-here image i c.requires.1 28 (omega arith)) in
    let no = rw c.version_at-v.ensures.0 at (answered_none _ _ c.in_default.ensures.0) in
    rw (refuted (all_to (has_chunk t image (version_of r)) (index_count r)) (λ e. true≢false (all_at (has_chunk t image (version_of r)) (index_count r) e c.loop-n.n (omega (arith, c.loop-n-test.true))) no))

pub loop-n-preserved : goal.loop-n-preserved
unfolding all_to sum_to
loop-n-preserved c =
    let a = c.args in
    let image = a.image.now in
    let v = rank_number c.version_at-v.result in
    let got = answered-some _ _ _ c.in-Some.ensures.0 in
    let size : c.chunk_size-size.result ≡ chunk_size (told_raw a.slots.now image (chunk_name v c.loop-n.n)) =
    c.chunk_size-size.ensures.0 ∙ sym (le_at image c.in-Some.place c.in-Some.ensures.1 24 2 (omega arith)) ∙ ap (λ (q : ℕ). chunk_size (raw_at image q)) got.1 in (
      omega (arith, c.loop-n.invariant.0, c.chunk_size-size.ensures.1),
      rw (add-one, got.0) c.loop-n.invariant.1,
      rw add-one (ap₂ (λ (x y : ℕ). x + y) c.loop-n.invariant.2 (sym size)),
    )

pub returns : goal.returns
unfolding index_fits
returns c =
    let image = c.args.image.now in
    let i = c.args.index in
    let r = (item_at image i).raw in
    let version : rank_number c.version_at-v.result ≡ version_of r = c.version_at-v.ensures.0 in
    let count : c.from-count.result ≡ index_count r = c.from-count.ensures ∙ c.index_count.ensures ∙ sym (byte-here image i c.requires.1 28 (omega arith)) in
    let end : c.loop-n.n ≡ index_count r = omega (arith, c.loop-n-test.false) in
    let size : c.index_size.result ≡ index_size r = c.index_size.ensures ∙ sym (le_at image i c.requires.1 24 4 (omega arith)) in
    let sum = sym c.loop-n.invariant.2 ∙ ap₂ (λ (x m : ℕ). sum_to (λ j. chunk_size (told_raw c.args.slots.now image (chunk_name x j))) m) version end in
    let all = sym (ap₂ (λ (x m : ℕ). all_to (has_chunk c.args.slots.now image x) m) version end) ∙ c.loop-n.invariant.1 in
    let answer : eqb c.loop-n.size c.index_size.result ≡ index_fits c.args.slots.now image r = rw (all, ← sum, size) in
    answer
