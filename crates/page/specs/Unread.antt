-- Rule. Document 02, No. 7: "the count of Written entries that the walk reached and could not take as an item", of a sector t of 4,096 bytes. Assumes nothing.
use Rattle.std.specs.Prelude.{Bool, cond, not, ◌&&◌, List, ℕ, zero, suc, ◌+◌, eqb, ltb}
use Rattle.entry.specs.States.{one, written, state_at, count_of}
use Rattle.entry.specs.Fields.{span_of}
use Rattle.page.specs.State.{state_of, is_free}
use Rattle.page.specs.Walk.{Laid, is_item, on_from}

-- a Written entry that is no item. The walk ends with entry 125: "The two pairs past entry 125 never count."
abbrev pub unread_at : List ℕ → ℕ → Bool
unread_at t i = ltb i 126 && (eqb (state_at t i) written && not (is_item t i))

-- how many of them the walk reaches from entry i on, in n turns
unfoldable pub unread_from : List ℕ → ℕ → ℕ → ℕ
unread_from t zero i = 0
unread_from t (suc n) i = one (unread_at t i) + unread_from t n (on_from t i)

-- "Item walk, from entry 0"; "It is 0 for free sectors."
unfoldable pub unread_of : List ℕ → ℕ
unread_of t = cond (is_free (state_of t)) 0 (unread_from t 126 0)

-- how many of them stand from entry i on before the next item, or up to the walk's end, in n turns
unfoldable pub passed_from : List ℕ → ℕ → ℕ → ℕ
passed_from t zero i = 0
passed_from t (suc n) i = cond (is_item t i) 0 (one (unread_at t i) + passed_from t n (i + 1))

-- how many entries of an item are Written: its payload's need not be
unfoldable pub written_in : List ℕ → Laid → ℕ
written_in t x = count_of (λ j. state_at t (x.entry + j)) written (span_of x.raw)
