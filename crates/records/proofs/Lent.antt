-- What a scan lends of an image is what it saw of each sector. Assumes nothing.
use mathlib.Core.Path.{◌≡◌, ap, ◌∙◌}
use mathlib.Core.List.{List}
use Prim.Native.Nat.{ℕ, ◌≤◌}
use native.Mathlib.Omega.{arith}
use lib.ListN.{length, take}
use Rattle.page.specs.Record.{seen_of}
use Rattle.records.specs.declared.scanned.Scanned.{Scanned}
use Rattle.records.specs.Records.{each_to}
use Rattle.records.specs.Scanned.{blank_seen, scanned_of, listed}
use Rattle.records.proofs.Reading.{rows-read, rows-there}

-- what is seen of at most sixteen sectors is listed
pub scanned-listed : (l : List ℕ) (n : ℕ) → n ≤ 16 → listed (scanned_of l n) ≡ each_to seen_of l n
scanned-listed l n few =
    let count : (scanned_of l n).count ≡ n = omega arith in
    ap (λ (k : ℕ). take k (scanned_of l n).seen) count ∙ rows-read seen_of l blank_seen n

-- and lent: that the sectors are so few, the array's length tells
pub lent_seen : (l : List ℕ) (n : ℕ) (s : Scanned) → s ≡ scanned_of l n → (xs : List _) → (xs ≡ take s.count s.seen) × (length s.seen ≡ 16) → xs ≡ each_to seen_of l n
lent_seen l n s e xs h =
    let few : n ≤ 16 = omega (arith, ap (λ (x : Scanned). length x.seen) e, h.1, rows-there seen_of l blank_seen n) in
    h.0 ∙ ap listed e ∙ scanned-listed l n few
