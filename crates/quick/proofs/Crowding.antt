-- Calm items pass the test: each part of a blob fits, and no two judged items have one name; so where one is refused, it is crowded out. Assumes nothing.
use mathlib.Core.Path.{◌≡◌, refl, sym, ap, ◌∙◌}
use mathlib.Core.Logic.{inl, ⊎_elim}
use mathlib.Core.Bool.{Bool, true, false, cond}
use mathlib.Core.List.{List, ◌∷◌, ◌++◌}
use Prim.Native.Nat.{ℕ, ◌+◌, ◌<◌, ◌≤◌}
use native.Mathlib.Omega.{arith}
use lib.Dec.{eqb, leb, ltb}
use lib.ListN.{get_or}
use borrow.Author.Tests.{eq-eqb, eqb-false, eqb-true, le-leb, lt-ltb, ltb-false, ltb-true}
use Rattle.entry.specs.States.{one}
use Rattle.entry.specs.Fields.{chunk_number, chunk_size, index_count, index_size, namespace_of}
use Rattle.page.proofs.Tests.{both_first, both_is, both-second}
use Rattle.lists.specs.Lists.{some_of, sum_of}
use Rattle.lists.proofs.Member.{◌∈◌, in_left, in_right}
use Rattle.lists.proofs.Search.{some_is}
use Rattle.lists.proofs.Sums.{sum-append, sum-le, sum_plus}
use Rattle.found.specs.Found.{chunk_of, group_of, index_of, is_chunk, is_index, version_of}
use Rattle.found.proofs.Versions.{version-group}
use Rattle.versions.specs.Versions.{chunk_numbered, size_in, version_in}
use Rattle.blobs.proofs.Ordered.{start_either, version_is}
use Rattle.quick.specs.Calm.{Calm, in_group, part_of}
use Rattle.slots.specs.Names.{chunk_name, judged, name_of}
use Rattle.slots.specs.Slots.{raw_at, told}
use Rattle.slots.specs.Named.{Named, Stopped, called}
use Rattle.fits.specs.Fits.{all_fit, part_fits}
use Rattle.quick.specs.Crowded.{Crowded}
use Rattle.quick.proofs.Counts.{in_pos, one_le, pos_in}
use Rattle.quick.proofs.Naming.{name-other, same_chunk, same_other}
use Rattle.slots.proofs.Looking.{full, told_name, told_slot}
use Rattle.quick.proofs.Fitting.{ChunkFits, HasChunk, IndexFits, all_fit_lem, chunk-fits, index-fits, part-fits}
use Rattle.quick.proofs.Calming.{Small, among, chunk-called, chunk_part, led_to, of_chunks, of_index, to_index, tot_at}

-- ---- each part of a blob fits
module _ (t l ps : List ℕ) (small : Small l) (named : Named t l ps) (C : Calm (tot_at l ps)) where
  -- a version with an index at place m: how many chunks it has of the number n
  numbers : (v m : ℕ) → m ∈ ps → index_of v (raw_at l m) ≡ true → (n : ℕ) → tot_at l ps (λ (r : List ℕ). one (chunk_numbered v n r)) ≡ one (ltb n (index_count (raw_at l m)))
  numbers v m here index n =
      C.each v (in_pos (λ (p : ℕ). index_of v (raw_at l p)) ps m here index) n ∙ of_index t l ps small named v m here index (λ (r : List ℕ). one (ltb n (index_count r)))

  -- the index of its version is there, and counts it
  chunk_fit : (p : ℕ) → p ∈ ps → is_chunk (raw_at l p) ≡ true → ChunkFits t l (raw_at l p)
  chunk_fit p m e =
      let r = raw_at l p in
      let v = version_of r in
      let n = chunk_number r in
      let of_it = eq-eqb v v refl in
      let x = pos_in (λ (q : ℕ). index_of v (raw_at l q)) ps (C.has v (in_pos (λ (q : ℕ). part_of v (raw_at l q)) ps p m (both_is _ _ (chunk_part r e) of_it))) in
      let to = to_index t l ps small named v x.0 x.1 x.2 in
      let q : told t l (group_of r) ≡ x.0 = ap (told t l) (version-group v r (small p).2 refl) ∙ to.1 in
      let some = in_pos (λ (q : ℕ). chunk_numbered v n (raw_at l q)) ps p m (both_is _ _ (both_is _ _ e of_it) (eq-eqb n n refl)) in
      rw q (to.0, x.2, go n (index_count (raw_at l x.0)) (ltb n (index_count (raw_at l x.0))) refl (omega (arith, numbers v x.0 x.1 x.2 n)))
    where
      go : (n c : ℕ) (b : Bool) → ltb n c ≡ b → 1 ≤ one (ltb n c) → n < c
      go n c true q h = ltb-true n c q
      go n c false q h = absurd (let z : one (ltb n c) ≡ 0 = rw q in omega arith)

  -- each chunk that an index counts is there, and the table leads to it
  whole : (v m : ℕ) → m ∈ ps → index_of v (raw_at l m) ≡ true → (n : ℕ) → n < index_count (raw_at l m) → HasChunk t l v n
  whole v m here index n h =
      let z : one (ltb n (index_count (raw_at l m))) ≡ 1 = rw (lt-ltb n _ h) in
      let x = pos_in (λ (p : ℕ). chunk_numbered v n (raw_at l p)) ps (omega (arith, numbers v m here index n)) in
      let r = raw_at l x.0 in
      let chunk = both_first (chunk_of v r) _ x.2 in
      let to = led_to t l ps small named (chunk_name v n) x.0 x.1 (chunk-called t l ps small named v n x.0 chunk (eqb-true (chunk_number r) n (both-second (chunk_of v r) _ x.2))) in
      rw to.1 (to.0, chunk)

  index_fit : (p : ℕ) → p ∈ ps → is_index (raw_at l p) ≡ true → IndexFits t l (raw_at l p)
  unfolding size_in
  index_fit p m e =
      let v = version_of (raw_at l p) in
      let is : index_of v (raw_at l p) ≡ true = both_is _ _ e (eq-eqb v v refl) in
      let all = whole v p m is in
      let sized = C.size v (in_pos (λ (q : ℕ). index_of v (raw_at l q)) ps p m is) in
      (all, sym (of_chunks t l ps small named v p m is chunk_fit all chunk_size) ∙ sym sized ∙ of_index t l ps small named v p m is index_size)

  pub passes : all_fit t l ≡ true
  passes = all_fit_lem t l (λ i h. fit (get_or t i 0) (among (get_or t i 0) ps (named.only i h)))
    where
      fit : (p : ℕ) → p ∈ ps → part_fits t l (raw_at l p) ≡ true
      fit p m = part-fits t l (raw_at l p) (λ e. chunk-fits t l (raw_at l p) (chunk_fit p m e)) (λ e. index-fits t l (raw_at l p) (index_fit p m e))

-- ---- no two judged items have one name
module _ (l ps : List ℕ) (small : Small l) (C : Calm (tot_at l ps)) (k s : ℕ) (name : name_of (raw_at l s) ≡ k) where
  -- an item of the name, beside that at place s
  alike : (p : ℕ) → called k (raw_at l p) ≡ true → name_of (raw_at l p) ≡ name_of (raw_at l s)
  alike p e = eqb-true (name_of (raw_at l p)) k (both-second (judged (raw_at l p)) _ e) ∙ sym name

  -- what all of the name are is what at most one is
  most : (f : List ℕ → Bool) → tot_at l ps (λ (r : List ℕ). one (f r)) ≤ 1 → ((p : ℕ) → called k (raw_at l p) ≡ true → f (raw_at l p) ≡ true)
      → tot_at l ps (λ (r : List ℕ). one (called k r)) ≤ 1
  most f h each = let a = sum-le (λ (p : ℕ). one (called k (raw_at l p))) (λ (p : ℕ). one (f (raw_at l p))) ps (λ p m. one_le _ _ (each p)) in omega arith

  -- chunks: no number is twice in a version
  module _ (here : s ∈ ps) (chunk : is_chunk (raw_at l s) ≡ true) where
    once-chunk : tot_at l ps (λ (r : List ℕ). one (called k r)) ≤ 1
    once-chunk =
        let r = raw_at l s in
        let v = version_of r in
        let n = chunk_number r in
        let has = C.has v (in_pos (λ (q : ℕ). part_of v (raw_at l q)) ps s here (both_is _ _ (chunk_part r chunk) (eq-eqb v v refl))) in
        let a = C.each v has n in
        let b = sum-le (λ (p : ℕ). cond (index_of v (raw_at l p)) (one (ltb n (index_count (raw_at l p)))) 0) (λ (p : ℕ). one (index_of v (raw_at l p))) ps
        (λ p m. less (index_of v (raw_at l p)) (ltb n (index_count (raw_at l p)))) in
        most (chunk_numbered v n) (omega (arith, C.lone v)) (λ p e. same p (alike p e))
      where
        less : (a b : Bool) → cond a (one b) 0 ≤ one a
        less true true = omega arith
        less true false = omega arith
        less false b = omega arith

        same : (p : ℕ) → name_of (raw_at l p) ≡ name_of (raw_at l s) → chunk_numbered (version_of (raw_at l s)) (chunk_number (raw_at l s)) (raw_at l p) ≡ true
        same p e = let o = same_chunk (raw_at l p) (raw_at l s) (small p) (small s) e chunk in both_is _ _ (both_is _ _ o.0 (eq-eqb _ _ o.1)) (eq-eqb _ _ o.2)

  -- any other items: no two are of one group
  module _ (other : is_chunk (raw_at l s) ≡ false) where
    of_group : (p : ℕ) → called k (raw_at l p) ≡ true → (is_chunk (raw_at l p) ≡ false) × (namespace_of (raw_at l p) ≡ namespace_of (raw_at l s)) × (group_of (raw_at l p) ≡ k)
    of_group p e =
        let o = same_other (raw_at l p) (raw_at l s) (small p) (small s) (alike p e) other in
        (o.0, o.1, sym (name-other (raw_at l p) o.0) ∙ alike p e ∙ name)

    once-ranked : 1 ≤ namespace_of (raw_at l s) → tot_at l ps (λ (r : List ℕ). one (called k r)) ≤ 1
    once-ranked h =
        most (in_group k) (C.single k)
        (λ p e. let o = of_group p e in rw (o.0, o.1, le-leb 1 _ h) (eq-eqb (group_of (raw_at l p)) k o.2))

    -- of namespace 0 the indices alone are judged
    once-index : namespace_of (raw_at l s) ≡ 0 → tot_at l ps (λ (r : List ℕ). one (called k r)) ≤ 1
    once-index z =
        let a = sum_plus (λ (p : ℕ). one (index_of (version_in k 0) (raw_at l p))) (λ (p : ℕ). one (index_of (version_in k 0x80) (raw_at l p))) ps in
        let b = sum-le (λ (p : ℕ). one (called k (raw_at l p))) (λ (p : ℕ). one (index_of (version_in k 0) (raw_at l p)) + one (index_of (version_in k 0x80) (raw_at l p))) ps
        (λ p m. either p (called k (raw_at l p)) refl) in
        omega (arith, C.not-both k)
      where
        start : (p : ℕ) → is_index (raw_at l p) ≡ true → group_of (raw_at l p) ≡ k → 1 ≤ one (index_of (version_in k 0) (raw_at l p)) + one (index_of (version_in k 0x80) (raw_at l p))
        start p i g =
            let r = raw_at l p in
            let v = rw g at (version_is r (small p).2) in
            ⊎_elim
            (λ q. let e : one (index_of (version_in k 0) r) ≡ 1 = rw (i, eq-eqb (version_of r) (version_in k 0) (rw q at v)) in omega arith)
            (λ q. let e : one (index_of (version_in k 0x80) r) ≡ 1 = rw (i, eq-eqb (version_of r) (version_in k 0x80) (rw q at v)) in omega arith)
            (start_either r)

        either : (p : ℕ) (b : Bool) → called k (raw_at l p) ≡ b → one b ≤ one (index_of (version_in k 0) (raw_at l p)) + one (index_of (version_in k 0x80) (raw_at l p))
        either p false e = omega arith
        either p true e =
            let o = of_group p e in
            let space : leb 1 (namespace_of (raw_at l p)) ≡ false = rw (o.1 ∙ z) in
            let i = rw (space, o.0) at (both_first (judged (raw_at l p)) _ e) in
            start p i o.2

-- a name is called once at most
pub once : (l ps : List ℕ) → Small l → Calm (tot_at l ps) → (k : ℕ) → tot_at l ps (λ (r : List ℕ). one (called k r)) ≤ 1
once l ps small C k = go (ltb 0 (tot_at l ps (λ (r : List ℕ). one (called k r)))) refl
  where
    there : (s : ℕ) → s ∈ ps → name_of (raw_at l s) ≡ k → (b : Bool) → is_chunk (raw_at l s) ≡ b → (c : Bool) → ltb 0 (namespace_of (raw_at l s)) ≡ c → tot_at l ps (λ (r : List ℕ). one (called k r)) ≤ 1
    there s m name true p c q = once-chunk l ps small C k s name m p
    there s m name false p true q = once-ranked l ps small C k s name p (ltb-true 0 _ q)
    there s m name false p false q = once-index l ps small C k s name p (omega (arith, ltb-false 0 (namespace_of (raw_at l s)) q))

    go : (b : Bool) → ltb 0 (tot_at l ps (λ (r : List ℕ). one (called k r))) ≡ b → tot_at l ps (λ (r : List ℕ). one (called k r)) ≤ 1
    go false q = omega (arith, ltb-false 0 (tot_at l ps (λ (r : List ℕ). one (called k r))) q)
    go true q =
        let x = pos_in (λ (p : ℕ). called k (raw_at l p)) ps (ltb-true 0 _ q) in
        let r = raw_at l x.0 in
        there x.0 x.1 (eqb-true (name_of r) k (both-second (judged r) _ x.2)) (is_chunk r) refl (ltb 0 (namespace_of r)) refl

-- ---- so an item is refused only for want of a slot
module _ (t l ps : List ℕ) (small : Small l) (C : Calm (tot_at l ps)) (s : Stopped t l ps) where
  abbrev k : ℕ
  k = name_of (raw_at l s.place)

  -- its name is not there: it would be called twice
  absent : 1 ≤ told t l k → ⊥
  unfolding sum_of
  absent h =
      let q = told t l k in
      let m = among q s.before (told_slot t l k (λ (p : ℕ). some_of (eqb p) s.before ≡ true) s.named.only h) in
      let is = told_slot t l k (λ (p : ℕ). judged (raw_at l p) ≡ true) s.named.judges h in
      let a = in_pos (λ (p : ℕ). called k (raw_at l p)) s.before q m (both_is _ _ is (eq-eqb _ k (told_name t l k h))) in
      let b : one (called k (raw_at l s.place)) ≡ 1 = rw (s.judges, eq-eqb k k refl) in
      let c = rw s.all at (sum-append (λ (p : ℕ). one (called k (raw_at l p))) s.before (s.place ∷ s.after)) in
      omega (arith, once l ps small C k)

  -- the places before it are among all
  all_places : (p : ℕ) → p ∈ (s.before ++ (s.place ∷ s.after)) → some_of (eqb p) ps ≡ true
  all_places p m = rw s.all at (some_is (eqb p) (s.before ++ (s.place ∷ s.after)) p m (eq-eqb p p refl))

  pub crowded : Crowded t l ps
  crowded =
      record {
        place = s.place;
        here = all_places s.place (in_right s.place s.before (s.place ∷ s.after) (inl refl));
        only = λ i h. all_places _ (in_left _ s.before (s.place ∷ s.after) (among _ s.before (s.named.only i h)));
        stands = s.named.stands;
        full = λ n h. let f = full t l k (s.none none) n h in (f.0, eqb-false _ k f.1);
      }
    where
      none : told t l k ≡ 0
      none = go (eqb (told t l k) 0) refl
        where
          go : (b : Bool) → eqb (told t l k) 0 ≡ b → told t l k ≡ 0
          go true e = eqb-true _ 0 e
          go false e = let z = eqb-false (told t l k) 0 e in absurd (absent (omega arith))
