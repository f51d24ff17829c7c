-- What the chunks of a version passed so far have told: which numbers are there, how many chunks there are and how large they are. Assumes nothing.
use mathlib.Core.Path.{◌≡◌, refl, sym, ap, ◌∙◌}
use mathlib.Core.Bool.{Bool, true, false, ◌&&◌}
use mathlib.Core.List.{List, [], ◌∷◌}
use Prim.Native.Nat.{ℕ, zero, suc, ◌+◌, ◌≤◌, ◌<◌}
use native.Mathlib.Omega.{arith}
use lib.Dec.{eqb, ltb}
use lib.ListN.{length, get_or, set, replicate}
use lib.Seq.{get_or-set_same, get_or-set_other}
use borrow.Author.Tests.{eq-eqb, ne_eqb, eqb-true, eqb-false, lt-ltb, le-ltb}
use Rattle.entry.specs.States.{one}
use Rattle.entry.specs.Fields.{chunk_number, chunk_size, index_count, index_size}
use Rattle.lists.specs.Lists.{sum_of}
use Rattle.lists.proofs.Member.{refuted}
use Rattle.found.specs.Found.{Found, chunk_of}
use Rattle.versions.specs.Versions.{chunk_numbered, exact, size_in, sound}
use Rattle.versions.proofs.Exact.{exact-full, numbered, sound-exact}
use Rattle.versions.proofs.Totals.{size-chunk, size-other}

one_most : (b : Bool) → one b ≤ 1
one_most true = omega arith
one_most false = omega arith

-- c are counted
pub record Told (v c : ℕ) (xs : List Found) (seen : List Bool) (chunks size : ℕ) : Type 0 where
  pub marked : (n : ℕ) → one (get_or seen n false) ≡ numbered v xs n
  pub most : (n : ℕ) → numbered v xs n ≤ one (ltb n c)
  pub counted : chunks ≡ sum_of (λ (x : Found). one (chunk_of v x.raw)) xs
  pub sized : size ≡ sum_of (λ (x : Found). size_in v x.raw) xs

module _ (v c : ℕ) where
  -- nothing is seen yet
  unseen : (k n : ℕ) → get_or (replicate k false) n false ≡ false
  unseen zero n = refl
  unseen (suc k) zero = refl
  unseen (suc k) (suc n) = unseen k n

  pub told_none : (k : ℕ) → Told v c [] (replicate k false) 0 0
  unfolding sum_of
  told_none k = record { marked = λ n. rw (unseen k n); most = λ n. omega arith; counted = refl; sized = refl }

  module _ (x : Found) (xs : List Found) (seen : List Bool) (chunks size : ℕ) (told : Told v c xs seen chunks size) where
    abbrev r : List ℕ
    r = x.raw

    -- an item that is no chunk of the version tells nothing
    pub told_other : chunk_of v r ≡ false → Told v c (x ∷ xs) seen chunks size
    unfolding sum_of
    told_other e =
        let none : (n : ℕ) → one (chunk_numbered v n r) ≡ 0 = λ n. rw e in
        record {
          marked = λ n. let z = none n in omega (arith, told.marked n);
          most = λ n. let z = none n in omega (arith, told.most n);
          counted = let z : one (chunk_of v r) ≡ 0 = rw e in omega (arith, told.counted);
          sized = omega (arith, told.sized, size-other v r e);
        }

    module _ (chunk : chunk_of v r ≡ true) where
      here : one (chunk_numbered v (chunk_number r) r) ≡ 1
      here = rw (chunk, eq-eqb (chunk_number r) (chunk_number r) refl)

      -- a chunk of a new number below the count
      pub told_chunk : chunk_number r < c → get_or seen (chunk_number r) false ≡ false → chunk_number r < length seen
          → Told v c (x ∷ xs) (set seen (chunk_number r) true) (chunks + 1) (size + chunk_size r)
      unfolding sum_of
      told_chunk below new room =
          record {
            marked = λ n. marked n (eqb (chunk_number r) n) refl;
            most = λ n. most n (eqb (chunk_number r) n) refl;
            counted = let z : one (chunk_of v r) ≡ 1 = rw chunk in omega (arith, told.counted);
            sized = omega (arith, told.sized, size-chunk v r chunk);
          }
        where
          marked : (n : ℕ) (b : Bool) → eqb (chunk_number r) n ≡ b → one (get_or (set seen (chunk_number r) true) n false) ≡ one (chunk_of v r && b) + numbered v xs n
          marked n true e =
              let same = eqb-true (chunk_number r) n e in
              let z : one (get_or (set seen (chunk_number r) true) (chunk_number r) false) ≡ 1 = rw (get_or-set_same seen (chunk_number r) true false room) in
              let o : one (get_or seen (chunk_number r) false) ≡ 0 = rw new in
              let t : one (chunk_of v r && true) ≡ 1 = rw chunk in
              rw (← same) (omega (arith, told.marked (chunk_number r)))
          marked n false e =
              let other = eqb-false (chunk_number r) n e in
              let z : one (get_or (set seen (chunk_number r) true) n false) ≡ one (get_or seen n false) = ap one (get_or-set_other seen (chunk_number r) n true false (λ q. other (sym q))) in
              let t : one (chunk_of v r && false) ≡ 0 = rw chunk in
              omega (arith, told.marked n)

          most : (n : ℕ) (b : Bool) → eqb (chunk_number r) n ≡ b → one (chunk_of v r && b) + numbered v xs n ≤ one (ltb n c)
          most n true e =
              let same = eqb-true (chunk_number r) n e in
              let o : one (get_or seen (chunk_number r) false) ≡ 0 = rw new in
              let t : one (chunk_of v r && true) ≡ 1 = rw chunk in
              let l : one (ltb (chunk_number r) c) ≡ 1 = rw (lt-ltb (chunk_number r) c below) in
              rw (← same) (omega (arith, told.marked (chunk_number r)))
          most n false e = let z : one (chunk_of v r && false) ≡ 0 = rw chunk in omega (arith, told.most n)

      -- a chunk from the count on, and one of a number that is there already: the version is not sound
      module _ (fs : List Found) (i : Found) (counts : index_count i.raw ≡ c) (part : (n : ℕ) → numbered v (x ∷ xs) n ≤ numbered v fs n) where
        over : one (ltb (chunk_number r) c) < 1 + numbered v xs (chunk_number r) → sound v fs i ≡ false
        unfolding sum_of
        over h =
            refuted (sound v fs i)
            (λ e. let a = rw counts at (sound-exact v fs i e (chunk_number r)) in let b = part (chunk_number r) in let z = here in absurd (omega arith))

        pub told_past : c ≤ chunk_number r → sound v fs i ≡ false
        told_past h = over (rw (le-ltb (chunk_number r) c h) (omega arith))

        pub told_twice : get_or seen (chunk_number r) false ≡ true → sound v fs i ≡ false
        told_twice e =
            let o : one (get_or seen (chunk_number r) false) ≡ 1 = rw e in
            over (omega (arith, told.marked (chunk_number r), one_most (ltb (chunk_number r) c)))

-- at the end
module _ (v : ℕ) (fs : List Found) (i : Found) (seen : List Bool) (chunks size : ℕ) (told : Told v (index_count i.raw) fs seen chunks size) where
  pub told_all : chunks ≡ index_count i.raw → sound v fs i ≡ eqb (index_size i.raw) size
  unfolding sound
  told_all e = rw (exact-full v fs (index_count i.raw) told.most (sym told.counted ∙ e), told.sized)

  pub told_fewer : (chunks ≡ index_count i.raw → ⊥) → sound v fs i ≡ false
  unfolding sound exact
  told_fewer n = rw (ne_eqb (index_count i.raw) (sum_of (λ (x : Found). one (chunk_of v x.raw)) fs) (λ e. n (told.counted ∙ sym e)))
