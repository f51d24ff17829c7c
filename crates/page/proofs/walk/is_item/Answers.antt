-- `page::is_item` meets its contract: test by test the chain is the definition's. Assumes nothing.
use mathlib.Core.Path.{◌≡◌, refl, sym, ap, ◌∙◌}
use mathlib.Core.Bool.{Bool, true, false, ◌&&◌}
use Prim.Native.Nat.{◌+◌, ◌*◌}
use native.Mathlib.Omega.{arith}
use borrow.Author.Rules.{rules}
use Rattle.std.proofs.lemmas.Bool.Decides.{nat_tests}
use lib.Dec.{eqb, leb, lit<, lit≤}
use lib.ListN.{get_or}
use Rattle.word.proofs.Bytes.{part-byte, le-part}
use Rattle.entry.specs.States.{state_at, written}
use Rattle.entry.specs.Kinds.{known}
use Rattle.entry.specs.Fields.{entry_at, crc_in, entry_crc, kind_in, span_of}
use Rattle.page.specs.Walk.{is_item, right_header}
use Rattle.page.proofs.walk.is_item.Goals as goal
use Rattle.page.proofs.walk.is_item.Goals.{then-eq, else-eq, then-le32-entry_crc, else-le32-entry_crc, then-is_known, else-is_known}

-- the chain's values are the definition's tests
told : (a b c d e v₁ v₂ v₃ : Bool) → v₁ ≡ a && b → v₂ ≡ v₁ && c → v₃ ≡ v₂ && d → v₃ && e ≡ (a && (b && c)) && (d && e)
told true b c d e v₁ v₂ v₃ p q r = rw (r, q, p) (go b c)
  where
    go : (b c : Bool) → ((b && c) && d) && e ≡ (b && c) && (d && e)
    go true true = refl
    go true false = refl
    go false c = refl
told false b c d e v₁ v₂ v₃ p q r = rw (r, q, p)

pub returns-then-s-at-ne0 : goal.returns-then-s-at-ne0
unfolding is_item right_header
returns-then-s-at-ne0 c =
    let s = c.args.s.now in
    let i = c.args.i in
    let h = entry_at s i in
    let n = get_or s (64 + i * 32 + 2) 0 in
    let span : span_of h ≡ n = part-byte s (64 + i * 32) 32 2 (lit< tt) in
    let state : c.eq.result ≡ eqb (state_at s i) written = search rules in
    let first : c.if-eq.value ≡ eqb (state_at s i) written && eqb (crc_in h) (entry_crc h) =
    elim c.if-eq.branch [
      | then-eq w ↦ w.value-is ∙ rw (← state, w.if-eq.true, w.le32.ensures, w.entry_crc.ensures, le-part s (64 + i * 32) 32 4 4 (lit≤ tt))
      | else-eq w ↦ w.value-is ∙ rw (← state, w.if-eq.false)
    ] in
    let second : c.if-le32-entry_crc.value ≡ c.if-eq.value && known (kind_in h) =
    elim c.if-le32-entry_crc.branch [
      | then-le32-entry_crc w ↦ w.value-is ∙ w.is_known.ensures ∙ rw (w.if-le32-entry_crc.true, w.kind_of.ensures, part-byte s (64 + i * 32) 32 1 (lit< tt))
      | else-le32-entry_crc w ↦ w.value-is ∙ rw w.if-le32-entry_crc.false
    ] in
    let third : c.if-is_known.value ≡ c.if-le32-entry_crc.value && leb 1 n =
    elim c.if-is_known.branch [
      | then-is_known w ↦ grind (arith, nat_tests)
      | else-is_known w ↦ w.value-is ∙ rw w.if-is_known.false
    ] in
    let all = told _ _ _ _ (leb (i + n) 126) _ _ _ first second third in
    rw (c.from.ensures, span) (ap (λ (v : Bool). v && leb (i + n) 126) (sym c.if-s-at-ne0.true) ∙ all)

pub returns-else-s-at-ne0 : goal.returns-else-s-at-ne0
unfolding is_item right_header
returns-else-s-at-ne0 c =
    let s = c.args.s.now in
    let i = c.args.i in
    let h = entry_at s i in
    let n = get_or s (64 + i * 32 + 2) 0 in
    let span : span_of h ≡ n = part-byte s (64 + i * 32) 32 2 (lit< tt) in
    let state : c.eq.result ≡ eqb (state_at s i) written = search rules in
    let first : c.if-eq.value ≡ eqb (state_at s i) written && eqb (crc_in h) (entry_crc h) =
    elim c.if-eq.branch [
      | then-eq w ↦ w.value-is ∙ rw (← state, w.if-eq.true, w.le32.ensures, w.entry_crc.ensures, le-part s (64 + i * 32) 32 4 4 (lit≤ tt))
      | else-eq w ↦ w.value-is ∙ rw (← state, w.if-eq.false)
    ] in
    let second : c.if-le32-entry_crc.value ≡ c.if-eq.value && known (kind_in h) =
    elim c.if-le32-entry_crc.branch [
      | then-le32-entry_crc w ↦ w.value-is ∙ w.is_known.ensures ∙ rw (w.if-le32-entry_crc.true, w.kind_of.ensures, part-byte s (64 + i * 32) 32 1 (lit< tt))
      | else-le32-entry_crc w ↦ w.value-is ∙ rw w.if-le32-entry_crc.false
    ] in
    let third : c.if-is_known.value ≡ c.if-le32-entry_crc.value && leb 1 n =
    elim c.if-is_known.branch [
      | then-is_known w ↦ grind (arith, nat_tests)
      | else-is_known w ↦ w.value-is ∙ rw w.if-is_known.false
    ] in
    let all = told _ _ _ _ (leb (i + n) 126) _ _ _ first second third in
    rw span (c.if-s-at-ne0.false ∙ sym (ap (λ (v : Bool). v && leb (i + n) 126) c.if-s-at-ne0.false) ∙ all)
