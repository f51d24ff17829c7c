-- What the walk finds: an item is Written, its header is right and its span ends on the page. Assumes nothing.
use mathlib.Core.Path.{◌≡◌, refl, ap}
use mathlib.Core.Logic.{inl, inr}
use mathlib.Core.Bool.{Bool, ◌&&◌, cond, false, true}
use mathlib.Core.List.{List, [], ◌∷◌}
use Prim.Native.Nat.{◌+◌, ◌<◌, ◌≤◌, suc, zero, ℕ}
use native.Mathlib.Omega.{arith}
use lib.Dec.{eqb}
use lib.ListN.{length}
use borrow.Author.Tests.{eq-eqb, eqb-true, le-leb}
use Rattle.entry.specs.States.{state_at, written}
use Rattle.entry.specs.Fields.{entry_at, span_of}
use Rattle.lists.proofs.Member.{◌∈◌, refuted}
use Rattle.page.specs.State.{is_free, state_of}
use Rattle.page.specs.Walk.{Laid, fits, is_item, items_of, laid_at, on_from, readable, right_header, walk}
use Rattle.page.proofs.Tests.{both_first, both_is, both-second}
use Rattle.page.proofs.Walking.{goes_on, item_span}

-- the bytes of the item at entry i, header and payload
abbrev pub raw_at : List ℕ → ℕ → List ℕ
raw_at t i = (laid_at t i).raw

-- an item at entry i
pub record IsItem (t : List ℕ) (i : ℕ) : Type 0 where
  pub is_written : state_at t i ≡ written
  pub right : right_header (entry_at t i) ≡ true
  pub some : 1 ≤ span_of (entry_at t i)
  pub ends : i + span_of (entry_at t i) ≤ 126

-- the test of it, both ways
pub item_is : (t : List ℕ) (i : ℕ) → is_item t i ≡ true → IsItem t i
item_is t i e =
    let s = item_span t i e in
    let r = both_first (readable t i) _ (opened e) in
    record {
      is_written = eqb-true (state_at t i) written (both_first (eqb (state_at t i) written) _ r);
      right = both-second (eqb (state_at t i) written) _ r;
      some = s.0;
      ends = s.1;
    }
  where
    opened : is_item t i ≡ true → readable t i && fits i (span_of (entry_at t i)) ≡ true
    opened q = unfold is_item in q

pub is_item_lem : (t : List ℕ) (i : ℕ) → IsItem t i → is_item t i ≡ true
unfolding is_item
is_item_lem t i h =
    both_is _ _ (both_is _ _ (eq-eqb (state_at t i) written h.is_written) h.right) (both_is _ _ (le-leb 1 _ h.some) (le-leb _ 126 h.ends))

-- an entry that is not Written is no item
pub no_item : (t : List ℕ) (i : ℕ) → (i < 126 → state_at t i ≡ written → ⊥) → is_item t i ≡ false
no_item t i h = refuted (is_item t i) (λ e. let r = item_is t i e in let a = r.some in let b = r.ends in h (omega arith) r.is_written)

-- a laid item that stands on the page t
pub record Real (t : List ℕ) (x : Laid) : Type 0 where
  pub is : IsItem t x.entry
  pub bytes : x.raw ≡ raw_at t x.entry

-- each item of the walk stands on its page
pub walk_in : (t : List ℕ) (n i : ℕ) (x : Laid) → x ∈ walk t n i → Real t x
unfolding walk
walk_in t zero i x m = absurd m
walk_in t (suc n) i x m = go (is_item t i) refl m (walk_in t n (on_from t i) x)
  where
    go : (b : Bool) → is_item t i ≡ b → x ∈ cond b (laid_at t i ∷ walk t n (on_from t i)) (walk t n (on_from t i)) → (x ∈ walk t n (on_from t i) → Real t x) → Real t x
    go true q (inl r) f = rw r (record { is = item_is t i q; bytes = refl })
    go true q (inr k) f = f k
    go false q k f = f k

-- the walk from entry i on meets nothing before it
pub walk_from : (t : List ℕ) (m i : ℕ) (x : Laid) → x ∈ walk t m i → i ≤ x.entry
unfolding walk
walk_from t zero i x w = absurd w
walk_from t (suc m) i x w = go (is_item t i) (on_from t i) (goes_on t i) w (walk_from t m (on_from t i) x)
  where
    go : (b : Bool) (j : ℕ) → i < j → x ∈ cond b (laid_at t i ∷ walk t m j) (walk t m j) → (x ∈ walk t m j → j ≤ x.entry) → i ≤ x.entry
    go true j h (inl r) f = let a : x.entry ≡ i = ap (λ (y : Laid). y.entry) r in omega arith
    go true j h (inr k) f = let a = f k in omega arith
    go false j h k f = let a = f k in omega arith

-- no more items than turns
pub walk_most : (t : List ℕ) (n i : ℕ) → length (walk t n i) ≤ n
unfolding walk
walk_most t zero i = omega arith
walk_most t (suc n) i = go (is_item t i) (walk_most t n (on_from t i))
  where
    go : (b : Bool) → length (walk t n (on_from t i)) ≤ n → length (cond b (laid_at t i ∷ walk t n (on_from t i)) (walk t n (on_from t i))) ≤ suc n
    go true h = omega arith
    go false h = omega arith

-- "A Blank or Corrupt sector has none"
pub free_none : (t : List ℕ) → is_free (state_of t) ≡ true → items_of t ≡ []
unfolding items_of
free_none t e = rw e
