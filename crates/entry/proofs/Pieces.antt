-- An entry's CRC is one run over bytes 0 to 3 and then 8 to 31. Assumes nothing.
use mathlib.Core.Path.{◌≡◌, sym, ap, ap₂, ◌∙◌}
use mathlib.Core.List.{List, ◌++◌}
use Prim.Native.Nat.{ℕ, ◌+◌, ◌-◌, ◌≤◌}
use native.Mathlib.Omega.{arith}
use lib.ListN.{length, take, drop, length-drop}
use lib.Seq.{take-take, take-add, drop_at, drop-drop, length-take-le}
use lib.Dec.{lit≤}
use Rattle.word.specs.Number.{part}
use Rattle.crc.specs.Crc.{crc_from, crc_of, complement}
use Rattle.crc.proofs.Pieces.{from_append}
use Rattle.entry.specs.Fields.{entry_crc}

module _ (s : List ℕ) (at : ℕ) (fits : at + 32 ≤ length s) where
  low : take 4 (part s at 32) ≡ part s at 4
  low = take-take 4 32 (drop at s) (lit≤ tt)

  high : drop 8 (part s at 32) ≡ part s (at + 8) 24
  high =
      let l = drop at s in
      let h : 8 ≤ length l = simp length-drop (omega arith) in
      ap (drop 8) (take-add 8 24 l) ∙ drop_at (take 8 l) (take 24 (drop 8 l)) 8 (length-take-le 8 l h) ∙ ap (take 24) (drop-drop 8 at s)

  pub two_pieces : entry_crc (part s at 32) ≡ complement (crc_from (crc_from 0 (part s at 4)) (part s (at + 8) 24))
  unfolding entry_crc crc_of
  two_pieces = ap complement (ap₂ (λ (a b : List ℕ). crc_from 0 (a ++ b)) low high ∙ from_append 0 (part s at 4) (part s (at + 8) 24))

  -- the same, of two ranges whose ends are those
  pub two_ranges : {i j k n : ℕ} → i ≡ at → j ≡ at + 4 → k ≡ at + 8 → n ≡ at + 32 → complement (crc_from (crc_from 0 (take (j - i) (drop i s))) (take (n - k) (drop k s))) ≡ entry_crc (part s at 32)
  two_ranges e f g h =
      let a : at + 4 - at ≡ 4 = omega arith in
      let b : at + 32 - (at + 8) ≡ 24 = omega arith in
      rw (e, f, g, h, a, b) (sym two_pieces)
