-- `entry::totals_of` meets its contract: one law, at each of the four states; and a count of 126 entries is a byte. Assumes nothing.
use mathlib.Core.Path.{◌≡◌}
use mathlib.Core.List.{List}
use Prim.Native.Nat.{ℕ, ◌+◌, ◌<◌, ◌-◌}
use native.Mathlib.Omega.{arith}
use lib.Dec.{lit<}
use lib.ListN.{get_or}
use Rattle.word.specs.Number.{le}
use Rattle.entry.specs.States.{state_at, count_of, totals_of}
use Rattle.entry.specs.Ones.{masked}
use Rattle.entry.proofs.Counting.{count-le}
use Rattle.entry.proofs.Masked.{pairs_below}
use Rattle.entry.proofs.Words.{total}
use Rattle.entry.proofs.states.totals_of.Goals as goal

-- what the four words tell of a state, and that it is a byte
module _ (s : List ℕ) (small : (i : ℕ) → get_or s i 0 < 256) (a b c d : ℕ) (ea : a ≡ le s 32 8) (eb : b ≡ le s 40 8) (ec : c ≡ le s 48 8) (ed : d ≡ le s 56 8) where
  abbrev Tally : ℕ → ℕ → Type 0
  Tally g t =
      t ≡ masked a (pairs_below g 0 32) (pairs_below 1 0 32) + masked b (pairs_below g 0 32) (pairs_below 1 0 32) + masked c (pairs_below g 0 32) (pairs_below 1 0 32) + masked d (pairs_below g 0 32) (pairs_below 1 0 30)

  counted : (g : ℕ) → g < 4 → (t : ℕ) → Tally g t → (t ≡ count_of (state_at s) (3 - g) 126) × (t < 256)
  counted g hg t e =
      let n = total s small g hg t a b c d ea eb ec ed e in
      let m = count-le (3 - g) (state_at s) 126 in
      (n, omega arith)

pub overflow_cast-result : goal.overflow_cast-result
unfolding pairs_below
overflow_cast-result c =
    omega (arith, (counted c.args.s.now (λ i. omega (arith, c.type_inv.s i)) _ _ _ _ c.le64.ensures c.le64-2.ensures c.le64-3.ensures c.le64-4.ensures 1 (lit< tt) _ c.tally.ensures).1)

pub overflow_cast-result-2 : goal.overflow_cast-result-2
unfolding pairs_below
overflow_cast-result-2 c =
    omega (arith, (counted c.args.s.now (λ i. omega (arith, c.type_inv.s i)) _ _ _ _ c.le64.ensures c.le64-2.ensures c.le64-3.ensures c.le64-4.ensures 3 (lit< tt) _ c.tally-2.ensures).1)

pub overflow_cast-result-3 : goal.overflow_cast-result-3
unfolding pairs_below
overflow_cast-result-3 c =
    omega (arith, (counted c.args.s.now (λ i. omega (arith, c.type_inv.s i)) _ _ _ _ c.le64.ensures c.le64-2.ensures c.le64-3.ensures c.le64-4.ensures 0 (lit< tt) _ c.tally-3.ensures).1)

pub overflow_cast-result-4 : goal.overflow_cast-result-4
unfolding pairs_below
overflow_cast-result-4 c =
    omega (arith, (counted c.args.s.now (λ i. omega (arith, c.type_inv.s i)) _ _ _ _ c.le64.ensures c.le64-2.ensures c.le64-3.ensures c.le64-4.ensures 2 (lit< tt) _ c.tally-4.ensures).1)

pub returns : goal.returns
unfolding totals_of pairs_below
returns c =
    let all = counted c.args.s.now (λ i. omega (arith, c.type_inv.s i)) _ _ _ _ c.le64.ensures c.le64-2.ensures c.le64-3.ensures c.le64-4.ensures in
    rw (
      (all 1 (lit< tt) _ c.tally.ensures).0,
      (all 3 (lit< tt) _ c.tally-2.ensures).0,
      (all 0 (lit< tt) _ c.tally-3.ensures).0,
      (all 2 (lit< tt) _ c.tally-4.ensures).0,
    )
