-- `page::state_of_word` meets its contract: a word's number tells its four bytes. Assumes nothing.
use mathlib.Core.Path.{◌≡◌}
use mathlib.Core.Bool.{cond, ◌&&◌}
use mathlib.Core.List.{List}
use Prim.Native.Nat.{ℕ, ◌+◌, ◌*◌, ◌<◌}
use native.Mathlib.Omega.{arith}
use lib.Dec.{eqb, lit<}
use lib.ListN.{get_or}
use Rattle.std.proofs.lemmas.Bool.Decides.{nat_tests}
use Rattle.word.specs.Number.{part, le}
use Rattle.word.proofs.Bytes.{le_four, part-byte}
use Rattle.page.specs.declared.state.PageState.{PageState}
use Rattle.page.specs.declared.state.PageState.TheVariants.{Corrupt, Active, Full, Freeing}
use Rattle.page.specs.State.{word_state}
use Rattle.page.proofs.state.state_of_word.Goals as goal

-- the state that a number stands for
abbrev named : ℕ → PageState
named n = cond (eqb n 0xFFFF_FFFE) Active (cond (eqb n 0xFFFF_FFFC) Full (cond (eqb n 0xFFFF_FFF8) Freeing Corrupt))

-- is that of its bytes
by_bytes : (a b c d : ℕ) → a < 256 → b < 256 → c < 256 → d < 256
    → cond (eqb b 0xFF && (eqb c 0xFF && eqb d 0xFF)) (cond (eqb a 0xFE) Active (cond (eqb a 0xFC) Full (cond (eqb a 0xF8) Freeing Corrupt))) Corrupt
    ≡ named (a + 256 * (b + 256 * (c + 256 * d)))
by_bytes a b c d ha hb hc hd = grind (arith, nat_tests)

by_number : (s : List ℕ) → ((j : ℕ) → get_or s j 0 < 256) → (n : ℕ) → n ≡ le s 0 4 → word_state (part s 0 4) ≡ named n
unfolding word_state
by_number s small n e =
    rw (e, le_four s 0, part-byte s 0 4 0 (lit< tt), part-byte s 0 4 1 (lit< tt), part-byte s 0 4 2 (lit< tt), part-byte s 0 4 3 (lit< tt))
    (by_bytes (get_or s 0 0) (get_or s 1 0) (get_or s 2 0) (get_or s 3 0) (small 0) (small 1) (small 2) (small 3))

pub returns-in-4294967294 : goal.returns-in-4294967294
returns-in-4294967294 c = rw (by_number c.args.s.now (λ j. omega (arith, c.type_inv.s j)) _ c.le32.ensures, c.in-4294967294.is)

pub returns-in-4294967292 : goal.returns-in-4294967292
returns-in-4294967292 c = rw (by_number c.args.s.now (λ j. omega (arith, c.type_inv.s j)) _ c.le32.ensures, c.in-4294967292.is)

pub returns-in-4294967288 : goal.returns-in-4294967288
returns-in-4294967288 c = rw (by_number c.args.s.now (λ j. omega (arith, c.type_inv.s j)) _ c.le32.ensures, c.in-4294967288.is)

pub returns-in_default : goal.returns-in_default
returns-in_default c = let e = by_number c.args.s.now (λ j. omega (arith, c.type_inv.s j)) _ c.le32.ensures in grind (arith, nat_tests)
