-- What stages 3 and 4 leave of the store L, cut anywhere: its items but for some parts of unsound versions, of which the index goes first. Assumes nothing.
use mathlib.Core.Path.{◌∙◌, ◌≡◌, ap, refl, sym}
use mathlib.Core.Logic.{◌⊎◌, inl, inr, ⊎_elim}
use mathlib.Core.Bool.{Bool, ◌&&◌, cond, false, true}
use mathlib.Core.List.{List, [], ◌++◌, map}
use Prim.Native.Nat.{◌+◌, ◌/◌, ◌≤◌, ℕ}
use native.Mathlib.Omega.{arith}
use lib.Dec.{eqb}
use lib.ListN.{length}
use borrow.Author.Tests.{eqb-true}
use Rattle.entry.specs.States.{one}
use Rattle.lists.specs.Lists.{some_of, sum_of}
use Rattle.lists.proofs.Member.{◌∈◌, in_append, true≢false}
use Rattle.lists.proofs.Maps.{map_in, sum-map}
use Rattle.lists.proofs.Search.{some_in, some_is}
use Rattle.lists.proofs.Sums.{sum-append, sum-zero}
use Rattle.table.specs.Table.{frees, sectors_of}
use Rattle.found.specs.Found.{Found, index_of, is_part, version_of}
use Rattle.quick.specs.Calm.{part_of}
use Rattle.power.specs.Demand3.{total}
use Rattle.power.proofs.Doomed.{sound_by, sound_by_same}
use Rattle.power.proofs.Listing.{frees_same}
use Rattle.power.proofs.Lone.{Lone}
use Rattle.power.proofs.Quiet.{Rest}
use Rattle.power.proofs.Steps.{Final}
use Rattle.power.proofs.Without.{Without}

-- whether version v of the store is sound
abbrev pub sound_of : List ℕ → ℕ → Bool
sound_of l v = sound_by (λ (f : List ℕ → ℕ). total f l) v

pub record Left (L l : List ℕ) : Type 0 where
  pub len : length l ≡ length L
  pub rest : Rest l
  pub free : length (frees L) ≤ length (frees l)
  -- the items that are gone: parts of unsound versions, no index of which is there any more
  pub gone : List (List ℕ)
  pub sums : (f : List ℕ → ℕ) → total f l + sum_of f gone ≡ total f L
  pub doomed : (r : List ℕ) → r ∈ gone → (is_part r ≡ true) × (sound_of L (version_of r) ≡ false)
  pub headless : (r : List ℕ) → r ∈ gone → total (λ (z : List ℕ). one (index_of (version_of r) z)) l ≡ 0

-- an image that the finish stage ends with
pub final_left : (L l : List ℕ) → Final L l → Left L l
unfolding sum_of
final_left L l F =
    record {
      len = F.len;
      rest = F.rest;
      free = F.free;
      gone = [];
      sums = λ f. (let e = F.totals f in omega arith);
      doomed = λ r m. absurd m;
      headless = λ r m. absurd m;
    }

module _ (L l : List ℕ) (K : Left L l) where
  -- fewer items, but all those that no stage erases
  pub fewer : (f : List ℕ → ℕ) → total f l ≤ total f L
  fewer f = let e = K.sums f in omega arith

  pub same_sum : (f : List ℕ → ℕ) → ((r : List ℕ) → r ∈ K.gone → f r ≡ 0) → total f l ≡ total f L
  same_sum f h = let e = K.sums f in let z = sum-zero f K.gone h in omega arith

  -- a version is sound there if it was
  pub sound_same : (v : ℕ) → sound_of l v ≡ sound_of L v
  unfolding sound_by
  sound_same v = go (some_of (λ (r : List ℕ). eqb (version_of r) v) K.gone) refl
    where
      headless_one : (r : List ℕ) → r ∈ K.gone → version_of r ≡ v → sound_of l v ≡ sound_of L v
      headless_one r m e =
          let z : total (λ (z : List ℕ). one (index_of v z)) l ≡ 0 = rw e at (K.headless r m) in
          let d : sound_of L v ≡ false = rw e at (K.doomed r m).1 in
          rw z (sym d)

      no_part : ((r : List ℕ) → r ∈ K.gone → eqb (version_of r) v ≡ false) → sound_of l v ≡ sound_of L v
      no_part h = sound_by_same (λ (f : List ℕ → ℕ). total f l) (λ (f : List ℕ → ℕ). total f L) v (λ g. same_sum (λ (r : List ℕ). cond (part_of v r) (g r) 0) (λ r m. off r (g r) (is_part r) (h r m)))
        where
          off : (r : List ℕ) (n : ℕ) (b : Bool) → eqb (version_of r) v ≡ false → cond (b && eqb (version_of r) v) n 0 ≡ 0
          off r n true e = rw e
          off r n false e = refl

      go : (b : Bool) → some_of (λ (r : List ℕ). eqb (version_of r) v) K.gone ≡ b → sound_of l v ≡ sound_of L v
      go true q = let r = some_in (λ (r : List ℕ). eqb (version_of r) v) K.gone q in headless_one r.0 r.1 (eqb-true _ v r.2)
      go false q = no_part (λ r m. other r m (eqb (version_of r) v) refl)
        where
          other : (r : List ℕ) → r ∈ K.gone → (b : Bool) → eqb (version_of r) v ≡ b → b ≡ false
          other r m false e = refl
          other r m true e = absurd (true≢false (some_is (λ (r : List ℕ). eqb (version_of r) v) K.gone r m e) q)

  -- without further parts of unsound versions, no index of which is then there
  module _ (xs : List Found) (m : List ℕ) (W : Without l xs m) (parts : (x : Found) → x ∈ xs → (is_part x.raw ≡ true) × (sound_of L (version_of x.raw) ≡ false))
      (first : (x : Found) → x ∈ xs → total (λ (z : List ℕ). one (index_of (version_of x.raw) z)) m ≡ 0) where
    n_same : sectors_of m ≡ sectors_of l
    n_same = ap (λ (k : ℕ). k / 4096) W.len

    now-gone : (r : List ℕ) → r ∈ (map (λ (x : Found). x.raw) xs ++ K.gone) → ((x : Found) × (x ∈ xs) × (r ≡ x.raw)) ⊎ (r ∈ K.gone)
    now-gone r k = ⊎_elim (λ a. inl (map_in (λ (x : Found). x.raw) xs r a)) (λ a. inr a) (in_append r (map (λ (x : Found). x.raw) xs) K.gone k)

    pub left_without : Left L m
    unfolding Lone
    left_without =
        record {
          len = W.len ∙ K.len;
          rest =
              record {
                no-freeing = λ u h. rw (W.states u) (K.rest.no-freeing u (rw n_same at h));
                lone = λ u v hu hv eu ev. K.rest.lone u v (rw n_same at hu) (rw n_same at hv) (rw (W.states u) at eu) (rw (W.states v) at ev);
              };
          free = (let a = frees_same l m W.len (λ u. rw (W.states u)) in let b = K.free in omega arith);
          gone = map (λ (x : Found). x.raw) xs ++ K.gone;
          sums = λ f. (let a = sum-append f (map (λ (x : Found). x.raw) xs) K.gone in let b = sum-map f (λ (x : Found). x.raw) xs in let c = W.sums f in let d = K.sums f in omega arith);
          doomed = λ r k. ⊎_elim (λ a. rw a.2 (parts a.0 a.1)) (λ a. K.doomed r a) (now-gone r k);
          headless = λ r k. ⊎_elim (λ a. rw a.2 (first a.0 a.1))
              (λ a. let e = W.sums (λ (z : List ℕ). one (index_of (version_of r) z)) in let b = K.headless r a in omega arith) (now-gone r k);
        }
