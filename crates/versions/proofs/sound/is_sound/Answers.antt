-- `versions::is_sound` meets its contract: what the chunks passed so far have told is what those from here on tell. Assumes nothing.
use Rattle.std.specs.List.{push}
use mathlib.Core.Path.{◌≡◌, refl, sym, ap, ◌∙◌}
use mathlib.Core.Bool.{true}
use mathlib.Core.List.{◌∷◌}
use Prim.Native.Nat.{ℕ, ◌≤◌}
use native.Mathlib.Omega.{arith}
use lib.ListN.{length, length-set}
use borrow.Author.Tests.{ne_eqb}
use Rattle.entry.specs.States.{one}
use Rattle.entry.specs.Fields.{chunk_size, index_count, index_size}
use Rattle.found.specs.Ranks.{rank_number}
use Rattle.found.specs.Places.{item_at, items_at, Placed}
use Rattle.found.specs.Found.{Found, chunk_of}
use Rattle.found.proofs.Backward.{left_all, left_each, left_length, left_more, passed, passed_all, passed_more, passed_none}
use Rattle.found.proofs.Reading.{byte-here, le_at}
use Rattle.versions.specs.Versions.{chunk_numbered}
use Rattle.versions.proofs.Counting.{Told, told_all, told_chunk, told_fewer, told_none, told_other, told_past, told_twice}
use Rattle.versions.proofs.Exact.{numbered}
use Rattle.versions.proofs.Totals.{total-part}
use Rattle.versions.proofs.sound.is_sound.Goals as goal
use Rattle.versions.proofs.sound.is_sound.Goals.{After-from-count, After-from-place, After-number_at-n, In-None}

pub loop-place-init : goal.loop-place-init
loop-place-init c =
    let places = c.args.places.now in
    rw (c.into_iter-place-iterator.ensures.into_iter_gives, c.rev-place-items.ensures.source, c.iter.ensures.rest) record {
      left = left_all places;
      few = omega (arith, c.requires.0.few);
      small = omega arith;
      long = refl;
      told = rw (ap (items_at c.args.image.now) (passed_none places)) (told_none (rank_number c.args.v) c.from-count.result 128);
    }

-- this turn's place is the last of those left
turn : (c : After-from-place) → c.loop-place.place-iterator.iter.rest.now ≡ push c.next.new.self.iter.rest.now c.from-place.result
turn c = rw c.from-place.ensures c.in-Some.ensures.steps

here : (c : After-from-place) → Placed c.args.image.now c.from-place.result
here c =
    left_each c.args.places.now _ _ _ c.loop-place.invariant.left (turn c) (Placed c.args.image.now) c.requires.0.each

-- its item stands before those passed
items : (c : After-from-place) →
    let image = c.args.image.now in
    let places = c.args.places.now in
    items_at image (passed places c.next.new.self.iter.rest.now) ≡ item_at image c.from-place.result ∷ items_at image (passed places c.loop-place.place-iterator.iter.rest.now)
items c = ap (items_at c.args.image.now) (passed_more c.args.places.now _ _ _ c.loop-place.invariant.left (turn c))

-- as many chunks as the index counts
counts : (c : After-from-count) → let a = c.args in index_count (item_at a.image.now a.index).raw ≡ c.from-count.result
counts c =
    byte-here c.args.image.now c.args.index c.requires.1 28 (omega arith) ∙ sym (c.from-count.ensures ∙ c.index_count.ensures)

-- this turn's item is a chunk of the version
chunk : (c : After-number_at-n) → chunk_of (rank_number c.args.v) (item_at c.args.image.now c.from-place.result).raw ≡ true
chunk c = sym c.is_chunk_of.ensures ∙ c.if-not-is_chunk_of.false

-- what is told from here on is told of all
part_of : (c : After-from-place) →
    let image = c.args.image.now in
    let places = c.args.places.now in
    let v = rank_number c.args.v in
    (n : ℕ) → numbered v (item_at image c.from-place.result ∷ items_at image (passed places c.loop-place.place-iterator.iter.rest.now)) n ≤ numbered v (items_at image places) n
part_of c n =
    rw (items c) at (total-part (λ (x : Found). one (chunk_numbered (rank_number c.args.v) n x.raw)) c.args.image.now c.args.places.now (length c.next.new.self.iter.rest.now))

pub is_chunk_of-requires : goal.is_chunk_of-requires
is_chunk_of-requires c = here c

pub loop-place-preserved-then-not-is_chunk_of : goal.loop-place-preserved-then-not-is_chunk_of
loop-place-preserved-then-not-is_chunk_of c =
    let l = c.loop-place in
    let i = l.invariant in
    let at = (goal.at.loop-place-preserved-then-not-is_chunk_of c).After-from-place in
    let shorter = left_length c.args.places.now _ _ _ i.left (turn at) in
    let other = sym c.is_chunk_of.ensures ∙ c.if-not-is_chunk_of.true in
    record {
      left = left_more c.args.places.now _ _ _ i.left (turn at);
      few = omega arith;
      small = omega arith;
      long = i.long;
      told = rw (items at) (told_other (rank_number c.args.v) _ (item_at c.args.image.now c.from-place.result) _ _ _ _ i.told other);
    }

pub number_at-n-requires : goal.number_at-n-requires
number_at-n-requires c = here (goal.at.number_at-n-requires c).After-from-place

pub returns-then-count-n : goal.returns-then-count-n
returns-then-count-n c =
    let at = goal.at.returns-then-count-n c in
    let fs = items_at c.args.image.now c.args.places.now in
    sym (told_past (rank_number c.args.v) _ _ _ _ _ _ c.loop-place.invariant.told (chunk at.After-number_at-n) fs (item_at c.args.image.now c.args.index) (counts at.After-from-count) (part_of at.After-from-place) (rw c.number_at-n.ensures at c.if-count-n.true))

pub returns-then-seen-n : goal.returns-then-seen-n
returns-then-seen-n c =
    let at = goal.at.returns-then-seen-n c in
    let fs = items_at c.args.image.now c.args.places.now in
    sym (told_twice (rank_number c.args.v) _ _ _ _ _ _ c.loop-place.invariant.told (chunk at.After-number_at-n) fs (item_at c.args.image.now c.args.index) (counts at.After-from-count) (part_of at.After-from-place) (rw c.number_at-n.ensures at c.if-seen-n.true))

pub chunk_size-requires : goal.chunk_size-requires
chunk_size-requires c =
    let h = here (goal.at.chunk_size-requires c).After-from-place in omega (arith, h.room)

pub loop-place-preserved : goal.loop-place-preserved
loop-place-preserved c =
    let l = c.loop-place in
    let i = l.invariant in
    let image = c.args.image.now in
    let at = goal.at.loop-place-preserved c in
    let h = here at.After-from-place in
    let x = item_at image c.from-place.result in
    let shorter = left_length c.args.places.now _ _ _ i.left (turn at.After-from-place) in
    let size : c.from-size.result ≡ chunk_size x.raw = c.from-size.ensures ∙ c.chunk_size.ensures.0 ∙ sym (le_at image c.from-place.result h 24 2 (omega arith)) in
    let told = told_chunk (rank_number c.args.v) _ x _ _ _ _ i.told (chunk at.After-number_at-n) (omega (arith, c.number_at-n.ensures)) (rw c.number_at-n.ensures at c.if-seen-n.false) (omega (arith, i.long)) in
    record {
      left = left_more c.args.places.now _ _ _ i.left (turn at.After-from-place);
      few = omega arith;
      small = omega (arith, c.from-size.ensures, c.chunk_size.ensures.1);
      long = simp length-set i.long;
      told = rw (items at.After-from-place, size, c.number_at-n.ensures) told;
    }

-- at the end all have told
ended : (c : In-None) (n : ℕ) → n ≡ c.from-count.result → let l = c.loop-place in Told (rank_number c.args.v) n (items_at c.args.image.now c.args.places.now) l.seen l.chunks l.size
ended c n e =
    let all : passed c.args.places.now c.loop-place.place-iterator.iter.rest.now ≡ c.args.places.now = passed_all c.args.places.now _ c.in-None.ensures.steps.0 in
    rw e (rw all at c.loop-place.invariant.told)

pub returns-then-chunks-count : goal.returns-then-chunks-count
returns-then-chunks-count c =
    let at = goal.at.returns-then-chunks-count c in
    let size : c.from.result ≡ index_size (item_at c.args.image.now c.args.index).raw = c.from.ensures ∙ c.index_size.ensures ∙ sym (le_at c.args.image.now c.args.index c.requires.1 24 4 (omega arith)) in
    let count = counts at.After-from-count in
    rw size (sym (told_all (rank_number c.args.v) _ _ _ _ _ (ended at.In-None _ count) (c.if-chunks-count.true ∙ sym count)))

pub returns-else-chunks-count : goal.returns-else-chunks-count
returns-else-chunks-count c =
    let at = goal.at.returns-else-chunks-count c in
    let count = counts at.After-from-count in
    ne_eqb _ _ c.if-chunks-count.false
    ∙ sym (told_fewer (rank_number c.args.v) _ _ _ _ _ (ended at.In-None _ count) (λ e. c.if-chunks-count.false (e ∙ count)))
