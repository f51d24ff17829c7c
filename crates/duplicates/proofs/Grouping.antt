-- What goes of a group, item by item: an old index finds its chunks erased where one before it has the same start. Assumes nothing.
use mathlib.Core.Path.{◌≡◌, refl, sym, ap, ap₂, ◌∙◌}
use mathlib.Core.Logic.{◌⊎◌, inl, inr, ⊎_elim}
use mathlib.Core.Bool.{Bool, true, false, cond, not, ◌&&◌}
use mathlib.Core.Option.{Option, none, some}
use mathlib.Core.List.{List, [], ◌∷◌, ◌++◌, append_assoc, append-nil, get_last?, drop_last, flat_map}
use Prim.Native.Nat.{ℕ, ◌^◌, ◌<◌}
use native.Mathlib.Omega.{arith}
use lib.Dec.{eqb, leb}
use borrow.Author.Tests.{not-true, eqb-true, eq-eqb}
use Rattle.entry.specs.Fields.{namespace_of, key_of, key_number}
use Rattle.page.proofs.Tests.{both_first, both-second}
use Rattle.lists.specs.Lists.{keep, some_of, sort_by}
use Rattle.lists.proofs.Member.{◌∈◌, refuted, true≢false, none≢some, in_left, in_right}
use Rattle.lists.proofs.Search.{keep_in, keep_all, keep_none, keep_append, some_is, some_in, some_none}
use Rattle.lists.proofs.Sums.{sum-keep-le}
use Rattle.lists.proofs.Maps.{in_flat_map, flat_map_in, flat_map-append}
use Rattle.lists.proofs.Out.{sum_drop_last, drop_last_in}
use Rattle.lists.proofs.Sorting.{sort_in, sum-sort}
use Rattle.found.specs.Found.{Found, is_chunk, is_index, start_in, version_of, group_of, chunk_of, chunks}
use Rattle.duplicates.specs.Duplicates.{ranked, groups, members, older_than, with_chunks, outdated, same_place, once_each}
use Rattle.duplicates.specs.Turns.{index_from, takes_chunks, old_one, old_once, old_with, old_of}
use Rattle.duplicates.proofs.Once.{once_in, fresh, fresh_none, fresh_end, fresh_item, once-alone, fresh-append, once-append, Once, once-fewer, same_self, once-other, once-only, once_same}
use Rattle.found.proofs.Versions.{version_tells, version_of_lem}

-- the items stand at different places, and their keys are of bytes
pub record Apart (fs : List Found) : Type 0 where
  pub once : Once fs
  pub keys : (x : Found) → x ∈ fs → key_number (key_of x.raw) < 2 ^ 128

-- an item of group g
pub record Member (fs : List Found) (g : ℕ) (x : Found) : Type 0 where
  pub here : x ∈ fs
  pub whole : is_chunk x.raw ≡ false
  pub group : group_of x.raw ≡ g

-- a chunk of version v
pub record Part (fs : List Found) (v : ℕ) (c : Found) : Type 0 where
  pub here : c ∈ fs
  pub chunk : is_chunk c.raw ≡ true
  pub version : version_of c.raw ≡ v

part_of : (fs : List Found) (v : ℕ) (c : Found) → c ∈ chunks v fs → Part fs v c
part_of fs v c m =
    let k = keep_in (λ (x : Found). chunk_of v x.raw) fs c m in
    record { here = k.0; chunk = both_first (is_chunk c.raw) _ k.1; version = eqb-true (version_of c.raw) v (both-second (is_chunk c.raw) _ k.1) }

member_of : (fs : List Found) (g : ℕ) (x : Found) → x ∈ members g fs → Member fs g x
member_of fs g x m =
    let k = keep_in (λ (y : Found). ranked y.raw && eqb (group_of y.raw) g) fs x m in
    record {
      here = k.0;
      whole = not-true (is_chunk x.raw) (both_first (not (is_chunk x.raw)) (leb 1 (namespace_of x.raw)) (both_first (ranked x.raw) (eqb (group_of x.raw) g) k.1));
      group = eqb-true (group_of x.raw) g (both-second (ranked x.raw) (eqb (group_of x.raw) g) k.1);
    }

-- what goes with an item: itself, and chunks of its version where it is an index
pub with_cases : (fs : List Found) (o : Option Found) (b z : Found) → z ∈ with_chunks fs o b → (z ≡ b) ⊎ ((is_index b.raw ≡ true) × Part fs (version_of b.raw) z)
unfolding with_chunks
with_cases fs none b z (inl e) = inl e
with_cases fs none b z (inr m) = absurd m
with_cases fs (some k) b z (inl e) = inl e
with_cases fs (some k) b z (inr m) = inr (go (is_index b.raw) (not (is_index k.raw && eqb (start_in k.raw) (start_in b.raw))) m)
  where
    go : (a t : Bool) → z ∈ cond (a && t) (chunks (version_of b.raw) fs) [] → (a ≡ true) × Part fs (version_of b.raw) z
    go true true n = (refl, part_of fs (version_of b.raw) z n)
    go true false n = absurd n
    go false t n = absurd n

-- whatever goes was found
outdated_in : (fs : List Found) (g : ℕ) (z : Found) → z ∈ outdated fs g → z ∈ fs
unfolding outdated
outdated_in fs g z m =
    let s = sort_by older_than (members g fs) in
    let r = flat_map_in (with_chunks fs (get_last? s)) (drop_last s) z m in
    let k = (member_of fs g r.0 (sort_in older_than (members g fs) r.0 (drop_last_in s r.0 r.1))).here in
    ⊎_elim (λ e. rw e k) (λ p. p.1.here) (with_cases fs (get_last? s) r.0 z r.2)

pub erased_in : (fs : List Found) (z : Found) → z ∈ once_each (flat_map (outdated fs) (groups fs)) → z ∈ fs
erased_in fs z m = let r = flat_map_in (outdated fs) (groups fs) z (once_in (flat_map (outdated fs) (groups fs)) z m) in outdated_in fs r.0 z r.2

module _ (fs : List Found) (apart : Apart fs) where
  -- a chunk stands where no other item stands
  kinds-apart : (y z : Found) → y ∈ fs → z ∈ fs → (is_chunk y.raw ≡ is_chunk z.raw → ⊥) → same_place y z ≡ false
  kinds-apart y z m n h = refuted (same_place y z) (λ q. h (ap (λ (x : Found). is_chunk x.raw) (once-only fs y z apart.once m n q)))

  -- ---- one group, of which k is kept
  module _ (g : ℕ) (k : Found) where
    abbrev went : List Found → List Found
    went xs = flat_map (with_chunks fs (some k)) xs

    abbrev takes : Found → Bool
    takes x = is_index x.raw && not (index_from (start_in x.raw) k.raw)

    module _ (before : List Found) (x : Found) (old : (b : Found) → b ∈ before → Member fs g b) (m : Member fs g x) where
      abbrev own : List Found
      own = chunks (version_of x.raw) fs

      abbrev earlier : Bool
      earlier = some_of (λ (y : Found). index_from (start_in x.raw) y.raw) before

      item_fresh : ((b : Found) → b ∈ before → same_place b x ≡ false) → some_of (λ (z : Found). same_place z x) (went before) ≡ false
      item_fresh h =
          some_none (λ (z : Found). same_place z x) (went before) (λ z n.
          let r = flat_map_in (with_chunks fs (some k)) before z n in
          ⊎_elim (λ e. ap (λ (y : Found). same_place y x) e ∙ h r.0 r.1) (λ p. kinds-apart z x p.1.here m.here (λ q. true≢false p.1.chunk (q ∙ m.whole)))
          (with_cases fs (some k) r.0 z r.2))

      -- the item and its chunks stand at different places
      own-once : once_each (x ∷ own) ≡ x ∷ own
      unfolding once_each
      own-once =
          ap {B = List Found} (λ (ys : List Found). x ∷ ys) (
          ap (keep (λ (y : Found). not (same_place x y))) (once_same own (once-fewer fs own (λ f. sum-keep-le (λ (c : Found). chunk_of (version_of x.raw) c.raw) f fs) apart.once))
          ∙ keep_all (λ (y : Found). not (same_place x y)) own (λ c n. let p = part_of fs (version_of x.raw) c n in ap not (kinds-apart x c m.here p.here (λ q. true≢false p.chunk (sym q ∙ m.whole))))
          )

      -- an index of the same start before it took them
      chunks-gone : takes x ≡ true → earlier ≡ true → fresh (went before) own ≡ []
      unfolding with_chunks
      chunks-gone e s =
          keep_none (λ (y : Found). not (some_of (λ (z : Found). same_place z y) (went before))) own (λ c n.
          ap not (some_is (λ (z : Found). same_place z c) (went before) c (in_flat_map (with_chunks fs (some k)) before b c r.1 (with_it c n)) (same_self c)))
        where
          r : (y : Found) × (y ∈ before) × (index_from (start_in x.raw) y.raw ≡ true)
          r = some_in (λ (y : Found). index_from (start_in x.raw) y.raw) before s

          b : Found
          b = r.0

          start : start_in b.raw ≡ start_in x.raw
          start = eqb-true (start_in b.raw) (start_in x.raw) (both-second (is_index b.raw) _ r.2)

          version : version_of b.raw ≡ version_of x.raw
          version = version_of_lem b.raw x.raw (apart.keys b (old b r.1).here) (apart.keys x m.here) ((old b r.1).group ∙ sym m.group) start

          both : takes b ≡ true
          both =
              ap (λ (a : Bool). a && not (index_from (start_in b.raw) k.raw)) (both_first (is_index b.raw) _ r.2)
              ∙ ap (λ (n : ℕ). not (index_from n k.raw)) start ∙ both-second (is_index x.raw) _ e

          with_it : (c : Found) → c ∈ own → c ∈ with_chunks fs (some k) b
          with_it c n = inr (rw (both, version) n)

      -- no index before it is of its version
      chunks-kept : earlier ≡ false → fresh (went before) own ≡ own
      chunks-kept s =
          keep_all (λ (y : Found). not (some_of (λ (z : Found). same_place z y) (went before))) own (λ c n.
          ap not (some_none (λ (z : Found). same_place z c) (went before) (λ z q. one_of c (part_of fs (version_of x.raw) c n) z (flat_map_in (with_chunks fs (some k)) before z q))))
        where
          clash : (c : Found) → Part fs (version_of x.raw) c → (b z : Found) → b ∈ before → is_index b.raw ≡ true → Part fs (version_of b.raw) z → same_place z c ≡ true → ⊥
          clash c p b z n i q f =
              let same = once-only fs z c apart.once q.here p.here f in
              let version : version_of b.raw ≡ version_of x.raw = sym q.version ∙ ap (λ (y : Found). version_of y.raw) same ∙ p.version in
              let start = (version_tells b.raw x.raw (apart.keys b (old b n).here) (apart.keys x m.here) version).1 in
              true≢false (some_is (λ (y : Found). index_from (start_in x.raw) y.raw) before b n (ap (λ (t : Bool). t && eqb (start_in b.raw) (start_in x.raw)) i ∙ eq-eqb (start_in b.raw) (start_in x.raw) start)) s

          one_of : (c : Found) → Part fs (version_of x.raw) c → (z : Found) → ((b : Found) × (b ∈ before) × (z ∈ with_chunks fs (some k) b)) → same_place z c ≡ false
          one_of c p z r =
              ⊎_elim (λ w. ap (λ (y : Found). same_place y c) w ∙ kinds-apart r.0 c (old r.0 r.1).here p.here (λ q. true≢false p.chunk (sym q ∙ (old r.0 r.1).whole))) (λ w. refuted (same_place z c) (clash c p r.0 z r.1 w.0 w.1))
              (with_cases fs (some k) r.0 z r.2)

      one_turn : ((b : Found) → b ∈ before → same_place b x ≡ false) → fresh (went before) (once_each (with_chunks fs (some k) x)) ≡ old_one fs k before x
      unfolding with_chunks old_one takes_chunks
      one_turn h = go (takes x) refl earlier refl
        where
          go : (t : Bool) → takes x ≡ t → (s : Bool) → earlier ≡ s → fresh (went before) (once_each (x ∷ cond t own [])) ≡ x ∷ cond (t && not s) own []
          go false e s f = ap (fresh (went before)) (once-alone x) ∙ fresh_item (went before) x [] (item_fresh h) ∙ ap {B = List Found} (λ (ys : List Found). x ∷ ys) (fresh_end (went before))
          go true e true f = ap (fresh (went before)) own-once ∙ fresh_item (went before) x own (item_fresh h) ∙ ap {B = List Found} (λ (ys : List Found). x ∷ ys) (chunks-gone e f)
          go true e false f = ap (fresh (went before)) own-once ∙ fresh_item (went before) x own (item_fresh h) ∙ ap {B = List Found} (λ (ys : List Found). x ∷ ys) (chunks-kept f)

    all_turns : (before xs : List Found) → ((y : Found) → y ∈ (before ++ xs) → Member fs g y) → Once (before ++ xs) → fresh (went before) (once_each (went xs)) ≡ old_once fs k before xs
    unfolding old_once once_each flat_map keep
    all_turns before [] old o = refl
    all_turns before (x ∷ xs) old o =
        let w = with_chunks fs (some k) x in
        let rest = once_each (went xs) in
        let e = append_assoc before (x ∷ []) xs in
        ap (fresh (went before)) (once-append w (went xs))
        ∙ keep_append (λ (y : Found). not (some_of (λ (z : Found). same_place z y) (went before))) (once_each w) (fresh w rest)
        ∙ ap₂ (λ (a b : List Found). a ++ b)
        (one_turn before x (λ b n. old b (in_left b before (x ∷ xs) n)) (old x (in_right x before (x ∷ xs) (inl refl))) (λ b n. once-other before (x ∷ xs) b x o n (inl refl)))
        (fresh-append (went before) w rest ∙ ap (λ (d : List Found). fresh d rest) (sym (snoc before)) ∙ all_turns (before ++ (x ∷ [])) xs (rw e old) (rw e o))
      where
        snoc : (before : List Found) → flat_map (with_chunks fs (some k)) (before ++ (x ∷ [])) ≡ went before ++ with_chunks fs (some k) x
        snoc before = flat_map-append (with_chunks fs (some k)) before (x ∷ []) ∙ ap (λ (r : List Found). went before ++ r) (append-nil (with_chunks fs (some k) x))

  -- ---- a group is erased item by item
  of_sorted : (g : ℕ) (s : List Found) → ((y : Found) → y ∈ s → Member fs g y) → Once s → once_each (flat_map (with_chunks fs (get_last? s)) (drop_last s)) ≡ old_with fs s (get_last? s)
  unfolding old_with once_each flat_map
  of_sorted g [] old o = refl
  of_sorted g (x ∷ xs) old o = go (get_last? (x ∷ xs)) refl
    where
      go : (l : Option Found) → get_last? (x ∷ xs) ≡ l → once_each (flat_map (with_chunks fs l) (drop_last (x ∷ xs))) ≡ old_with fs (x ∷ xs) l
      go none q = absurd (none≢some q refl)
      go (some k) q =
          sym (fresh_none (once_each (flat_map (with_chunks fs (some k)) (drop_last (x ∷ xs)))))
          ∙ all_turns g k [] (drop_last (x ∷ xs)) (λ y n. old y (drop_last_in (x ∷ xs) y n)) (once-fewer (x ∷ xs) (drop_last (x ∷ xs)) (λ f. let s = sum_drop_last f (x ∷ xs) k q in omega arith) o)

  sorted_of : (g : ℕ) (y : Found) → y ∈ sort_by older_than (members g fs) → Member fs g y
  sorted_of g y n = member_of fs g y (sort_in older_than (members g fs) y n)

  pub group-turns : (g : ℕ) → once_each (outdated fs g) ≡ old_of fs (sort_by older_than (members g fs))
  unfolding outdated old_of
  group-turns g =
      of_sorted g (sort_by older_than (members g fs)) (sorted_of g) (
      once-fewer fs (sort_by older_than (members g fs)) (λ f.
      let a = sum-sort older_than f (members g fs) in
      let b = sum-keep-le (λ (x : Found). ranked x.raw && eqb (group_of x.raw) g) f fs in
      omega arith) apart.once
      )

  -- all that goes of a group is of the group
  pub outdated_of : (g : ℕ) (z : Found) → z ∈ outdated fs g → (z ∈ fs) × (group_of z.raw ≡ g)
  unfolding outdated
  outdated_of g z m =
      ⊎_elim (λ e. (rw e b.here, ap (λ (y : Found). group_of y.raw) e ∙ b.group)) (λ p. (p.1.here, (version_tells z.raw r.0.raw (apart.keys z p.1.here) (apart.keys r.0 b.here) p.1.version).0 ∙ b.group))
      (with_cases fs (get_last? s) r.0 z r.2)
    where
      s : List Found
      s = sort_by older_than (members g fs)

      r : (y : Found) × (y ∈ drop_last s) × (z ∈ with_chunks fs (get_last? s) y)
      r = flat_map_in (with_chunks fs (get_last? s)) (drop_last s) z m

      b : Member fs g r.0
      b = sorted_of g r.0 (drop_last_in s r.0 r.1)
