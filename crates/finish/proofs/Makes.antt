-- Rounds put together of steps that come first and a round on what they left; and the sequence that a source's copy gets. Assumes nothing.
use Rattle.std.specs.Prelude.{Ok, Err, IsErr}
use Rattle.std.proofs.lemmas.Bool.{false≢true}
use mathlib.Core.Path.{◌≡◌}
use mathlib.Core.Bool.{Bool}
use mathlib.Core.List.{List, get_last?}
use Prim.Native.Nat.{ℕ, ◌<◌}
use native.Mathlib.Omega.{arith}
use Rattle.flash.specs.Step.{Step}
use Rattle.flash.specs.declared.Stopped.{Stopped}
use Rattle.flash.specs.Did.{Did, Ran}
use Rattle.flash.proofs.Laws.{did_then, did-stop}
use Rattle.lists.specs.Lists.{greatest, take_out}
use Rattle.lists.proofs.Member.{◌∈◌}
use Rattle.lists.proofs.Sums.{greatest-ge}
use Rattle.table.specs.declared.Page.{Page}
use Rattle.table.specs.declared.Table.{Table}
use Rattle.table.specs.Table.{sequence}
use Rattle.table.proofs.Places.{greatest-out}
use Rattle.finish.specs.Finish.{Round, next_sequence, afresh, after}
use Rattle.finish.specs.Rounds.{Makes}

-- a call that stopped leaves no lists
no_lists : {r : Ran} {k : ℕ} → IsErr r → r ≡ Ok k → ⊥
no_lists {r = Err _} h e = let z : ◌≡◌ {A = ℕ} 0 1 = cc in omega arith
no_lists {r = Ok _} h e = false≢true h

-- the call above stops with it
did_out : {ss : List Step} {n : ℕ} {l m : List ℕ} {q r : Ran} {e : Stopped} → Did ss n l m q → q ≡ Err e → IsErr r → Did ss n l m r
did_out {r = Err _} d e h = rw e at d
did_out {r = Ok _} d e h = absurd (false≢true h)

module _ {ss : List Step} {n : ℕ} {l m : List ℕ} {q : Ran} where
  pub makes_then : {k : ℕ} {m' : List ℕ} {w : Round} {r : Ran} {t : Table} → Did ss n l m q → q ≡ Ok k → Makes w k m m' r t → Makes (after ss w) n l m' r t
  unfolding after
  makes_then d e w = record { did = did_then (rw e at d) w.did; table = w.table }

  pub makes_stop : {e : Stopped} {r : Ran} (w : Round) (t : Table) → Did ss n l m q → q ≡ Err e → IsErr r → Makes (after ss w) n l m r t
  unfolding after
  makes_stop {r = Err _} w t d e h = record { did = did-stop w.steps (rw e at d); table = λ k f. absurd (no_lists h f) }
  makes_stop {r = Ok _} w t d e h = absurd (false≢true h)

pub makes_out : {n : ℕ} {l m : List ℕ} {q r : Ran} {e : Stopped} (w : Round) (t : Table) → Did w.steps n l m q → q ≡ Err e → IsErr r → Makes w n l m r t
makes_out w t d e h = record { did = did_out d e h; table = λ k f. absurd (no_lists h f) }

-- the lists and the image that a copy afresh begins with, by other names
pub makes_same : (x : Page) {ps qs : List Page} {fs gs l i a b : List ℕ} {n : ℕ} {r : Ran} {t : Table} → ps ≡ qs → fs ≡ gs → l ≡ i
    → Makes (afresh x ps fs l (get_last? fs)) n a b r t → Makes (afresh x qs gs i (get_last? gs)) n a b r t
makes_same x p f e w = rw (← p, ← f, ← e) w

-- it fits 32 bits, where that of the whole list does
pub next-out : (p : Page → Bool) (x : Page) (ps : List Page) → next_sequence x ps < 0x100000000 → next_sequence x (take_out p ps) < 0x100000000
next-out p x ps h = let a = greatest-out p ps 0xFFFFFFFF (omega arith) (omega arith) in omega arith

pub next-below : (p : Page → Bool) (x : Page) (ps : List Page) → x ∈ ps → greatest sequence ps < 0xFFFFFFFF → next_sequence x (take_out p ps) < 0x100000000
next-below p x ps m h =
    let a = greatest-out p ps 0xFFFFFFFF (omega arith) h in
    let b = greatest-ge sequence ps x m in
    omega arith
