-- Items of which each is led to by its name, and of which each part of a blob fits, are calm. Assumes nothing.
use mathlib.Core.Path.{◌≡◌, refl, sym, ap, ◌∙◌}
use mathlib.Core.Bool.{Bool, true, false, cond, not, ◌&&◌, ◌||◌}
use mathlib.Core.List.{List}
use Prim.Native.Nat.{ℕ, ◌+◌, ◌*◌, ◌<◌, ◌≤◌}
use native.Mathlib.Omega.{arith}
use lib.Dec.{eqb, leb, lit<, ltb}
use lib.ListN.{length, get_or, length-take, get_or-eq_default}
use borrow.Author.Tests.{eq-eqb, eqb-true, lt-ltb, ltb-true, ltb-false}
use Rattle.word.specs.Number.{part}
use Rattle.word.proofs.Bytes.{part-byte}
use Rattle.entry.specs.States.{one}
use Rattle.entry.specs.Fields.{chunk_number, chunk_size, index_count, index_size, namespace_of, span_of}
use Rattle.page.proofs.Tests.{both_first, both_is, both-second, either_second, not-true}
use Rattle.lists.specs.Lists.{some_of, sum_of, sum_to}
use Rattle.lists.proofs.Member.{◌∈◌, cond_same, true≢false}
use Rattle.lists.proofs.Search.{some_in}
use Rattle.lists.proofs.Sums.{sum_ext, sum-le, sum-zero}
use Rattle.lists.proofs.Maps.{sum-map}
use Rattle.lists.proofs.Range.{sum_to_ext}
use Rattle.lists.proofs.Numbers.{by_number}
use Rattle.found.specs.Found.{Found, chunk_of, group_of, index_of, is_chunk, is_index, is_part, version_of}
use Rattle.found.specs.Places.{item_at, items_at}
use Rattle.versions.specs.Versions.{chunk_numbered, size_in}
use Rattle.duplicates.specs.Duplicates.{ranked}
use Rattle.quick.specs.Calm.{Calm, in_group, part_of, tot}
use Rattle.slots.specs.Names.{chunk_name, judged, name_of}
use Rattle.slots.specs.Slots.{raw_at, told}
use Rattle.slots.specs.Named.{Led, Named, called, told_raw}
use Rattle.fits.specs.Fits.{all_fit, part_fits}
use Rattle.quick.proofs.Counts.{in_pos, one_le, pos_in, sum-only}
use Rattle.lists.proofs.Each.{of_each}
use Rattle.found.proofs.Keys.{key-lt}
use Rattle.found.proofs.Versions.{group_in, version-group}
use Rattle.quick.proofs.Versions.{index-not-chunk, index-part}
use Rattle.quick.proofs.Fitting.{ChunkFits, HasChunk, IndexFits, all_facts, chunk_facts, index_facts, part-chunk, part-index}
use Rattle.quick.proofs.Idle.{calm_same}
use Rattle.quick.proofs.Lone.{one_index, one_version}
use Rattle.slots.proofs.Looking.{told_name, told_slot}
use Rattle.quick.proofs.Naming.{SmallItem, name-chunk, name-other, number_same}

-- f summed over the bytes of the items at the places
abbrev pub tot_at : List ℕ → List ℕ → (List ℕ → ℕ) → ℕ
tot_at l ps f = sum_of (λ (p : ℕ). f (raw_at l p)) ps

part-judged : (r : List ℕ) → is_part r ≡ true → judged r ≡ true
part-judged r e = either_second (leb 1 (namespace_of r)) _ e

pub chunk_part : (r : List ℕ) → is_chunk r ≡ true → is_part r ≡ true
chunk_part r e = rw e

-- an item that stage 4 judges is judged, and no chunk
ranked-judged : (r : List ℕ) → ranked r ≡ true → (is_chunk r ≡ false) × (judged r ≡ true)
ranked-judged r e = (not-true (is_chunk r) (both_first (not (is_chunk r)) _ e), rw (both-second (not (is_chunk r)) _ e))

-- the items are made of bytes
abbrev pub Small : List ℕ → Type 0
Small l = (p : ℕ) → SmallItem (raw_at l p)

-- a place that is found among the places is one of them
pub among : (p : ℕ) (ps : List ℕ) → some_of (eqb p) ps ≡ true → p ∈ ps
among p ps e = let m = some_in (eqb p) ps e in rw (eqb-true p m.0 m.2) m.1

module _ (t l ps : List ℕ) (small : Small l) (named : Named t l ps) where
  -- ---- no two judged items have one name
  -- an index of version v has the name of its group
  index-called : (v p : ℕ) → index_of v (raw_at l p) ≡ true → called (group_in v) (raw_at l p) ≡ true
  index-called v p e =
      let r = raw_at l p in
      let index = both_first (is_index r) _ e in
      let group = version-group v r (small p).2 (eqb-true (version_of r) v (both-second (is_index r) _ e)) in
      both_is (judged r) _ (part-judged r (index-part r index)) (eq-eqb (name_of r) (group_in v) (name-other r (index-not-chunk r index) ∙ group))

  -- a chunk of version v has the name of its number
  chunk-name : (v p : ℕ) → chunk_of v (raw_at l p) ≡ true → name_of (raw_at l p) ≡ chunk_name v (chunk_number (raw_at l p))
  chunk-name v p e =
      let r = raw_at l p in
      rw (eqb-true (version_of r) v (both-second (is_chunk r) _ e)) at (name-chunk r (both_first (is_chunk r) _ e) (small p).1)

  pub chunk-called : (v j p : ℕ) → chunk_of v (raw_at l p) ≡ true → chunk_number (raw_at l p) ≡ j → called (chunk_name v j) (raw_at l p) ≡ true
  chunk-called v j p e q =
      let r = raw_at l p in
      both_is (judged r) _ (part-judged r (chunk_part r (both_first (is_chunk r) _ e))) (eq-eqb (name_of r) (chunk_name v j) (chunk-name v p e ∙ ap (chunk_name v) q))

  single : (g : ℕ) → tot_at l ps (λ (r : List ℕ). one (in_group g r)) ≤ 1
  single g =
      let a = sum-le (λ (p : ℕ). one (in_group g (raw_at l p))) (λ (p : ℕ). one (called g (raw_at l p))) ps (λ p m. one_le _ _ (each (raw_at l p))) in
      let b = named.once g in
      omega arith
    where
      each : (r : List ℕ) → in_group g r ≡ true → called g r ≡ true
      each r e =
          let k = ranked-judged r (both_first (ranked r) _ e) in
          both_is (judged r) _ k.1 (eq-eqb (name_of r) g (name-other r k.0 ∙ eqb-true (group_of r) g (both-second (ranked r) _ e)))

  -- ---- what a name leads to is one of the items
  led_in : (k : ℕ) → 1 ≤ told t l k → told t l k ∈ ps
  led_in k h = among (told t l k) ps (told_slot t l k (λ (p : ℕ). some_of (eqb p) ps ≡ true) named.only h)

  -- and an item's name leads to it
  pub led_to : (k p : ℕ) → p ∈ ps → called k (raw_at l p) ≡ true → (1 ≤ p) × (told t l k ≡ p)
  led_to k p m e =
      let r = raw_at l p in
      let o = of_each (Led t l) ps named.led p m (both_first (judged r) _ e) in
      (o.0, ap (told t l) (sym (eqb-true (name_of r) k (both-second (judged r) _ e))) ∙ o.1)

  has : ((p : ℕ) → p ∈ ps → is_chunk (raw_at l p) ≡ true → ChunkFits t l (raw_at l p)) → (v : ℕ) → 1 ≤ tot_at l ps (λ (r : List ℕ). one (part_of v r)) → 1 ≤ tot_at l ps (λ (r : List ℕ). one (index_of v r))
  has chunk_fit v h =
      let x = pos_in (λ (p : ℕ). part_of v (raw_at l p)) ps h in
      let r = raw_at l x.0 in
      go x.0 x.1 (is_chunk r) refl (both_first (is_part r) _ x.2) (both-second (is_part r) _ x.2)
    where
      counted : (p : ℕ) → p ∈ ps → index_of v (raw_at l p) ≡ true → 1 ≤ tot_at l ps (λ (r : List ℕ). one (index_of v r))
      counted = in_pos (λ (p : ℕ). index_of v (raw_at l p)) ps

      go : (p : ℕ) → p ∈ ps → (b : Bool) → is_chunk (raw_at l p) ≡ b → (b || is_index (raw_at l p)) ≡ true → eqb (version_of (raw_at l p)) v ≡ true
          → 1 ≤ tot_at l ps (λ (r : List ℕ). one (index_of v r))
      go p m true q f w =
          let c = chunk_fit p m q in
          counted _ (led_in (group_of (raw_at l p)) c.0) (rw (eqb-true (version_of (raw_at l p)) v w) at c.1)
      go p m false q f w = counted p m (both_is (is_index (raw_at l p)) _ f w)

  -- ---- a version with an index at place m
  module _ (v m : ℕ) (here : m ∈ ps) (index : index_of v (raw_at l m) ≡ true) where
    -- the group leads to it
    pub to_index : (1 ≤ m) × (told t l (group_in v) ≡ m)
    to_index = led_to (group_in v) m here (index-called v m index)

    pub of_index : (f : List ℕ → ℕ) → tot_at l ps (λ (r : List ℕ). cond (index_of v r) (f r) 0) ≡ f (raw_at l m)
    of_index f =
        sum-only (λ (p : ℕ). called (group_in v) (raw_at l p)) (λ (p : ℕ). cond (index_of v (raw_at l p)) (f (raw_at l p)) 0) ps m here (index-called v m index) (named.once (group_in v))
        (λ p k e. other p e (index_of v (raw_at l p)) refl)
        ∙ rw index
      where
        other : (p : ℕ) → called (group_in v) (raw_at l p) ≡ false → (b : Bool) → index_of v (raw_at l p) ≡ b → cond b (f (raw_at l p)) 0 ≡ 0
        other p e true q = absurd (true≢false (index-called v p q) e)
        other p e false q = refl

  -- ---- where each chunk fits, and those that the index counts are there
  module _ (v m : ℕ) (here : m ∈ ps) (index : index_of v (raw_at l m) ≡ true) (chunk_fit : (p : ℕ) → p ∈ ps → is_chunk (raw_at l p) ≡ true → ChunkFits t l (raw_at l p))
      (whole : (n : ℕ) → n < index_count (raw_at l m) → HasChunk t l v n) where
    -- a chunk of the version has a number that the index counts
    chunk-counted : (p : ℕ) → p ∈ ps → chunk_of v (raw_at l p) ≡ true → chunk_number (raw_at l p) < index_count (raw_at l m)
    chunk-counted p h e =
        let r = raw_at l p in
        let version = eqb-true (version_of r) v (both-second (is_chunk r) _ e) in
        let q : told t l (group_of r) ≡ m = ap (told t l) (version-group v r (small p).2 version) ∙ (to_index v m here index).1 in
        rw q at (chunk_fit p h (both_first (is_chunk r) _ e)).2

    -- chunk number j, which the table leads to
    module _ (f : List ℕ → ℕ) where
      abbrev counts : ℕ → ℕ
      counts p = cond (chunk_of v (raw_at l p)) (f (raw_at l p)) 0

      abbrev numbered : ℕ → ℕ → ℕ
      numbered j p = cond (eqb (chunk_number (raw_at l p)) j) (counts p) 0

      one_number : (j : ℕ) → j < index_count (raw_at l m) → sum_of (numbered j) ps ≡ f (told_raw t l (chunk_name v j))
      one_number j h =
          let c = whole j h in
          let k = chunk_name v j in
          let p = told t l k in
          let is = led_in k c.0 in
          let same : chunk_number (raw_at l p) ≡ j = number_same v _ j (sym (chunk-name v p c.1) ∙ told_name t l k c.0) in
          sum-only (λ (q : ℕ). called k (raw_at l q)) (numbered j) ps p is (chunk-called v j p c.1 same) (named.once k)
          (λ q g e. other q g e (eqb (chunk_number (raw_at l q)) j) refl (chunk_of v (raw_at l q)) refl)
          ∙ rw (eq-eqb (chunk_number (raw_at l p)) j same, c.1)
        where
          other : (p : ℕ) → p ∈ ps → called (chunk_name v j) (raw_at l p) ≡ false → (a : Bool) → eqb (chunk_number (raw_at l p)) j ≡ a → (b : Bool) → chunk_of v (raw_at l p) ≡ b
              → cond a (cond b (f (raw_at l p)) 0) 0 ≡ 0
          other p g e true x true y = absurd (true≢false (chunk-called v j p y (eqb-true (chunk_number (raw_at l p)) j x)) e)
          other p g e true x false y = refl
          other p g e false x b y = refl

      -- all of its chunks are those that the table leads to
      pub of_chunks : tot_at l ps (λ (r : List ℕ). cond (chunk_of v r) (f r) 0) ≡ sum_to (λ j. f (told_raw t l (chunk_name v j))) (index_count (raw_at l m))
      of_chunks =
          let c = index_count (raw_at l m) in
          sum_ext counts (λ (p : ℕ). cond (ltb (chunk_number (raw_at l p)) c) (counts p) 0) ps (λ p n. all p n (chunk_of v (raw_at l p)) refl)
          ∙ sym (by_number counts (λ (p : ℕ). chunk_number (raw_at l p)) ps c)
          ∙ sum_to_ext (λ j. sum_of (numbered j) ps) (λ j. f (told_raw t l (chunk_name v j))) c one_number
        where
          all : (p : ℕ) → p ∈ ps → (b : Bool) → chunk_of v (raw_at l p) ≡ b
              → cond b (f (raw_at l p)) 0 ≡ cond (ltb (chunk_number (raw_at l p)) (index_count (raw_at l m))) (cond b (f (raw_at l p)) 0) 0
          all p h true e = rw (lt-ltb _ _ (chunk-counted p h e))
          all p h false e = sym (cond_same (ltb (chunk_number (raw_at l p)) (index_count (raw_at l m))))

    -- one chunk of each number below the count, and none from it on
    each-here : (n : ℕ) → tot_at l ps (λ (r : List ℕ). one (chunk_numbered v n r)) ≡ tot_at l ps (λ (r : List ℕ). cond (index_of v r) (one (ltb n (index_count r))) 0)
    each-here n = sum_ext _ (numbered (λ (r : List ℕ). 1) n) ps (λ p k. both (chunk_of v (raw_at l p)) (eqb (chunk_number (raw_at l p)) n)) ∙ go (ltb n (index_count (raw_at l m))) refl ∙ sym (of_index v m here index (λ (r : List ℕ). one (ltb n (index_count r))))
      where
        both : (a b : Bool) → one (a && b) ≡ cond {A = ℕ} b (cond a 1 0) 0
        both true true = refl
        both true false = refl
        both false true = refl
        both false false = refl

        past : (p : ℕ) → p ∈ ps → index_count (raw_at l m) ≤ n → (a : Bool) → eqb (chunk_number (raw_at l p)) n ≡ a → (b : Bool) → chunk_of v (raw_at l p) ≡ b → cond {A = ℕ} a (cond b 1 0) 0 ≡ 0
        past p k h true x true y = let c = chunk-counted p k y in let e = eqb-true (chunk_number (raw_at l p)) n x in absurd (omega arith)
        past p k h true x false y = refl
        past p k h false x b y = refl

        go : (b : Bool) → ltb n (index_count (raw_at l m)) ≡ b → sum_of (numbered (λ (r : List ℕ). 1) n) ps ≡ one b
        go true e = one_number (λ (r : List ℕ). 1) n (ltb-true n _ e)
        go false e = sum-zero _ ps (λ p k. past p k (ltb-false n _ e) (eqb (chunk_number (raw_at l p)) n) refl (chunk_of v (raw_at l p)) refl)

  module _ (chunk_fit : (p : ℕ) → p ∈ ps → is_chunk (raw_at l p) ≡ true → ChunkFits t l (raw_at l p))
      (index_fit : (p : ℕ) → p ∈ ps → is_index (raw_at l p) ≡ true → IndexFits t l (raw_at l p)) where
    module _ (v m : ℕ) (here : m ∈ ps) (index : index_of v (raw_at l m) ≡ true) where
      fit : ((n : ℕ) → n < index_count (raw_at l m) → HasChunk t l v n) × (sum_to (λ n. chunk_size (told_raw t l (chunk_name v n))) (index_count (raw_at l m)) ≡ index_size (raw_at l m))
      fit =
          let r = raw_at l m in
          rw (eqb-true (version_of r) v (both-second (is_index r) _ index)) at (index_fit m here (both_first (is_index r) _ index))

      size-here : tot_at l ps (λ (r : List ℕ). cond (index_of v r) (index_size r) 0) ≡ tot_at l ps (size_in v)
      unfolding size_in
      size-here = of_index v m here index index_size ∙ sym (of_chunks v m here index chunk_fit fit.0 chunk_size ∙ fit.1)

    calm_at : Calm (tot_at l ps)
    calm_at =
        record {
          single = single;
          lone = one_index (raw_at l) ps called named.once (λ v p m. index-called v p);
          not-both = one_version (raw_at l) ps called named.once (λ v p m. index-called v p);
          has = has chunk_fit;
          each = λ v h. let x = pos_in (λ (p : ℕ). index_of v (raw_at l p)) ps h in each-here v x.0 x.1 x.2 chunk_fit (fit v x.0 x.1 x.2).0;
          size = λ v h. let x = pos_in (λ (p : ℕ). index_of v (raw_at l p)) ps h in size-here v x.0 x.1 x.2;
        }

small_part : (l : List ℕ) → ((j : ℕ) → get_or l j 0 < 256) → (a n i : ℕ) → get_or (part l a n) i 0 < 256
small_part l small a n i = go (ltb i n) refl
  where
    go : (b : Bool) → ltb i n ≡ b → get_or (part l a n) i 0 < 256
    go true e = rw (part-byte l a n i (ltb-true i n e)) (small (a + i))
    go false e =
        let h : length (part l a n) ≤ i = simp length-take (omega (arith, ltb-false i n e)) in
        rw (get_or-eq_default (part l a n) 0 h) (lit< tt)

pub small_items : (l : List ℕ) → ((j : ℕ) → get_or l j 0 < 256) → Small l
unfolding item_at
small_items l small p =
    let n = span_of (part l (p * 32) 32) * 32 in
    (small_part l small (p * 32) n 0, small_part l small (p * 32) n 3, key-lt (raw_at l p) (small_part l small (p * 32) n))

-- the sums over the places are those over the items
pub tot_at_lem : (l ps : List ℕ) (f : List ℕ → ℕ) → tot f (items_at l ps) ≡ tot_at l ps f
tot_at_lem l ps f = sum-map (λ (x : Found). f x.raw) (item_at l) ps

module _ (t l ps : List ℕ) (small : (j : ℕ) → get_or l j 0 < 256) (named : Named t l ps) (fits : all_fit t l ≡ true) where
  -- a judged item stands in a slot, and every part of a blob is judged
  part_fit : (p : ℕ) → p ∈ ps → is_part (raw_at l p) ≡ true → part_fits t l (raw_at l p) ≡ true
  part_fit p m e =
      let o = of_each (Led t l) ps named.led p m (part-judged (raw_at l p) e) in
      rw o.1 at (told_slot t l (name_of (raw_at l p)) (λ (q : ℕ). part_fits t l (raw_at l q) ≡ true) (all_facts t l fits) (rw o.1 o.0))

  pub calm-items : Calm (λ (f : List ℕ → ℕ). tot f (items_at l ps))
  calm-items =
      calm_same (λ (f : List ℕ → ℕ). tot f (items_at l ps)) (tot_at l ps) (tot_at_lem l ps)
      (calm_at t l ps (small_items l small) named
      (λ p m e. chunk_facts t l (raw_at l p) (sym (part-chunk t l (raw_at l p) e) ∙ part_fit p m (chunk_part (raw_at l p) e)))
      (λ p m e. index_facts t l (raw_at l p) (sym (part-index t l (raw_at l p) e) ∙ part_fit p m (index-part (raw_at l p) e))))
