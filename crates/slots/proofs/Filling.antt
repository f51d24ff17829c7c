-- One place more: its item is passed over, or put at the free slot at which the search for its name ends. Assumes nothing.
use Rattle.std.specs.Prelude.{Some, None}
use mathlib.Core.Path.{◌≡◌, refl, sym, ap, ◌∙◌}
use mathlib.Core.Logic.{inl}
use mathlib.Core.Bool.{Bool, true, false}
use mathlib.Core.List.{List, [], ◌∷◌, ◌++◌, append_assoc, append-nil}
use Prim.Native.Nat.{ℕ, ◌+◌, ◌<◌, ◌≤◌}
use native.Mathlib.Numerals.{add-one}
use native.Mathlib.Omega.{arith}
use lib.Dec.{eqb}
use lib.ListN.{drop, get_or, length, length-set, set, take, take-append-drop}
use lib.Seq.{drop-cons, take-suc}
use borrow.Author.Tests.{eq-eqb, eqb-true}
use Rattle.entry.specs.States.{one}
use Rattle.page.proofs.Tests.{both_first, both-second}
use Rattle.lists.specs.Lists.{some_of, sum_of}
use Rattle.lists.proofs.Member.{◌∈◌, in_left, in_right, true≢false}
use Rattle.lists.proofs.Search.{some_in, some_is}
use Rattle.lists.proofs.Sums.{sum-append, sum-zero}
use Rattle.found.specs.Places.{Placed}
use Rattle.lists.specs.Each.{Each}
use Rattle.lists.proofs.Each.{each_append, each_of, of_each}
use Rattle.slots.specs.Names.{judged, name_of}
use Rattle.slots.specs.Slots.{EachSlot, Leads, raw_at, stop_of, told}
use Rattle.slots.specs.Named.{Filled, Led, Named, Stands, Stopped, called}
use Rattle.slots.proofs.Looking.{each_set, kept, new, stop_below}

-- a table of free slots has no items
module _ (t l : List ℕ) (free : (i : ℕ) → get_or t i 0 ≡ 0) where
  each_none : (P : ℕ → Type 0) → EachSlot P t
  each_none P i h = let e = free i in absurd (omega arith)

  pub none_leads : 4096 ≤ length t → Leads t l
  none_leads room = record { room = room; each = each_none (Placed l) }

  pub none_named : Named t l []
  unfolding Each sum_of
  none_named =
      record {
        led = tt;
        once = λ k. omega arith;
        only = each_none (λ (q : ℕ). some_of (eqb q) [] ≡ true);
        judges = each_none (λ (q : ℕ). judged (raw_at l q) ≡ true);
        stands = λ i h. let e = free i in absurd (omega arith);
      }

module _ (l ps : List ℕ) (p : ℕ) where
  -- how often a name is called, with one place more
  calls : (k : ℕ) → sum_of (λ (q : ℕ). one (called k (raw_at l q))) (ps ++ (p ∷ [])) ≡ sum_of (λ (q : ℕ). one (called k (raw_at l q))) ps + one (called k (raw_at l p))
  unfolding sum_of
  calls k = let e = sum-append (λ (q : ℕ). one (called k (raw_at l q))) ps (p ∷ []) in omega arith

  -- the places of the table, with one more
  still : (q : ℕ) → some_of (eqb q) ps ≡ true → some_of (eqb q) (ps ++ (p ∷ [])) ≡ true
  still q e = let m = some_in (eqb q) ps e in some_is (eqb q) (ps ++ (p ∷ [])) m.0 (in_left m.0 ps (p ∷ []) m.1) m.2

  last : some_of (eqb p) (ps ++ (p ∷ [])) ≡ true
  last = some_is (eqb p) (ps ++ (p ∷ [])) p (in_right p ps (p ∷ []) (inl refl)) (eq-eqb p p refl)

module _ (t l ps : List ℕ) (p : ℕ) (named : Named t l ps) where
  named-passed : judged (raw_at l p) ≡ false → Named t l (ps ++ (p ∷ []))
  unfolding Each
  named-passed e =
      record {
        led = each_append (Led t l) ps (p ∷ []) named.led (λ q. absurd (true≢false q e), tt);
        once = λ k. let n : one (called k (raw_at l p)) ≡ 0 = rw e in omega (arith, calls l ps p k, named.once k);
        only = λ i h. still l ps p _ (named.only i h);
        judges = named.judges;
        stands = named.stands;
      }

  module _ (s : ℕ) (room : 4096 ≤ length t) (is : judged (raw_at l p) ≡ true) (some : 1 ≤ p) (ends : stop_of t l (name_of (raw_at l p)) ≡ Some s) (free : get_or t s 0 ≡ 0) where
    abbrev k : ℕ
    k = name_of (raw_at l p)

    inside : s < length t
    inside = let h = stop_below t l k s ends in omega arith

    put-there : (stop_of (set t s p) l k ≡ Some s) × (told (set t s p) l k ≡ p)
    put-there = new t l k s p free (eq-eqb k k refl) inside ends

    -- the searches that ended at an item end there still
    stays : (j : ℕ) → 1 ≤ told t l j → (stop_of (set t s p) l j ≡ stop_of t l j) × (told (set t s p) l j ≡ told t l j)
    stays j = kept t l j s p free

    -- its name was not there
    unheard : (q : ℕ) → q ∈ ps → (b : Bool) → called k (raw_at l q) ≡ b → one b ≡ 0
    unfolding told
    unheard q m true c =
        let r = raw_at l q in
        let o = of_each (Led t l) ps named.led q m (both_first (judged r) _ c) in
        let z : told t l k ≡ 0 = rw ends free in
        let w : told t l k ≡ q = ap (told t l) (sym (eqb-true (name_of r) k (both-second (judged r) _ c))) ∙ o.1 in
        absurd (omega (arith, o.0))
    unheard q m false c = refl

    once : (j : ℕ) → sum_of (λ (q : ℕ). one (called j (raw_at l q))) (ps ++ (p ∷ [])) ≤ 1
    once j = go (called j (raw_at l p)) refl
      where
        go : (b : Bool) → called j (raw_at l p) ≡ b → sum_of (λ (q : ℕ). one (called j (raw_at l q))) (ps ++ (p ∷ [])) ≤ 1
        go true c =
            let same : k ≡ j = eqb-true k j (both-second (judged (raw_at l p)) _ c) in
            let z = rw same at (sum-zero (λ (q : ℕ). one (called k (raw_at l q))) ps (λ q m. unheard q m (called k (raw_at l q)) refl)) in
            let n : one (called j (raw_at l p)) ≡ 1 = rw c in
            omega (arith, calls l ps p j)
        go false c = let n : one (called j (raw_at l p)) ≡ 0 = rw c in omega (arith, calls l ps p j, named.once j)

    led-still : (q : ℕ) → Led t l q → Led (set t s p) l q
    led-still q led j = let o = led j in (o.0, (stays (name_of (raw_at l q)) (omega (arith, o))).1 ∙ o.1)

    stands : Stands (set t s p) l
    unfolding told
    stands =
        each_set (λ (i q : ℕ). stop_of (set t s p) l (name_of (raw_at l q)) ≡ Some i) t s p inside
        (λ i h. let o = named.stands i h in (stays (name_of (raw_at l (get_or t i 0))) (rw o h)).0 ∙ o)
        put-there.0

    named_put : Named (set t s p) l (ps ++ (p ∷ []))
    unfolding Each
    named_put =
        record {
          led = each_append (Led (set t s p) l) ps (p ∷ []) (each_of (Led (set t s p) l) ps (λ q m. led-still q (of_each (Led t l) ps named.led q m))) (λ j. (some, put-there.1), tt);
          once = once;
          only = each_set (λ (i q : ℕ). some_of (eqb q) (ps ++ (p ∷ [])) ≡ true) t s p inside (λ i h. still l ps p _ (named.only i h)) (last l ps p);
          judges = each_set (λ (i q : ℕ). judged (raw_at l q) ≡ true) t s p inside named.judges is;
          stands = stands;
        }

-- ---- as the code goes through the list of places
pub filled_none : (t l ps : List ℕ) → Leads t l → Filled t t l (take 0 ps)
filled_none t l ps h = record { leads = h; named = λ xs n. rw (append-nil xs) n }

module _ (t u l ps : List ℕ) (i : ℕ) (here : i < length ps) (before : Filled t u l (take i ps)) where
  front : (xs : List ℕ) → (xs ++ take i ps) ++ (get_or ps i 0 ∷ []) ≡ xs ++ take (i + 1) ps
  front xs = append_assoc xs (take i ps) (get_or ps i 0 ∷ []) ∙ ap (λ (ys : List ℕ). xs ++ ys) (rw add-one (sym (take-suc ps i 0 here)))

  -- at this place it stops
  pub stopped : judged (raw_at l (get_or ps i 0)) ≡ true → (told u l (name_of (raw_at l (get_or ps i 0))) ≡ 0 → stop_of u l (name_of (raw_at l (get_or ps i 0))) ≡ None)
      → (xs : List ℕ) → Named t l xs → Stopped u l (xs ++ ps)
  stopped is none xs n =
      record {
        before = xs ++ take i ps;
        place = get_or ps i 0;
        after = drop (i + 1) ps;
        all = append_assoc xs (take i ps) (get_or ps i 0 ∷ drop (i + 1) ps) ∙ ap (λ (ys : List ℕ). xs ++ ys) parted;
        named = before.named xs n;
        judges = is;
        none = none;
      }
    where
      parted : take i ps ++ (get_or ps i 0 ∷ drop (i + 1) ps) ≡ ps
      parted = rw (add-one, ← drop-cons ps i 0 here) (take-append-drop i ps)

  pub passed : judged (raw_at l (get_or ps i 0)) ≡ false → Filled t u l (take (i + 1) ps)
  passed e = record { leads = before.leads; named = λ xs n. rw (front xs) at (named-passed u l (xs ++ take i ps) (get_or ps i 0) (before.named xs n) e) }

  module _ (placed : Placed l (get_or ps i 0)) (is : judged (raw_at l (get_or ps i 0)) ≡ true) (s : ℕ) (ends : stop_of u l (name_of (raw_at l (get_or ps i 0))) ≡ Some s) (free : get_or u s 0 ≡ 0) where
    pub put : Filled t (set u s (get_or ps i 0)) l (take (i + 1) ps)
    put =
        let p = get_or ps i 0 in
        let room = before.leads.room in
        let below = stop_below u l (name_of (raw_at l p)) s ends in
        let inside : s < length u = omega arith in
        record {
          leads = record { room = simp length-set room; each = each_set (λ (i q : ℕ). Placed l q) u s p inside before.leads.each placed };
          named = λ xs n. rw (front xs) at (named_put u l (xs ++ take i ps) p (before.named xs n) s room is (omega (arith, placed.entries)) ends free);
        }
