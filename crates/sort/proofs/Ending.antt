-- Where a run ends. Assumes nothing.
use mathlib.Core.Path.{◌≡◌, refl, sym, ap, ap₂, ◌∙◌}
use mathlib.Core.Logic.{inl, inr}
use mathlib.Core.Bool.{Bool, true, false}
use mathlib.Core.List.{List, [], ◌∷◌, ◌++◌, map-append}
use Prim.Native.Nat.{ℕ, zero, suc, ◌+◌, ◌-◌, ◌≤◌, ◌<◌}
use native.Mathlib.Omega.{arith}
use native.Mathlib.Numerals.{add-one}
use lib.Dec.{eqb, ltb}
use lib.ListN.{length, take, drop, get_or, length-drop, length-map}
use lib.Seq.{slice_empty, drop-drop, take-suc, drop-append-le, length-take-le}
use borrow.Author.Tests.{eqb-true, eqb-false, ltb-true, ltb-false}
use Rattle.lists.proofs.Member.{◌∈◌, nil≢}
use Rattle.found.specs.Found.{Found}
use Rattle.found.specs.Places.{item_at, items_at}
use Rattle.lists.specs.Each.{Each}
use Rattle.lists.proofs.Each.{each_nil, each_append, each_of}
use Rattle.found.proofs.Reading.{items_more, items_end}
use Rattle.sort.specs.Runs.{FirstFails, RunEnds}
use Rattle.lists.specs.Runs.{runs}
use Rattle.lists.proofs.Parts.{drop-take, take-map, drop-map}
use Rattle.lists.proofs.Running.{runs-split}

module _ (f : Found → ℕ) (l places : List ℕ) (a : ℕ) where
  abbrev G : ℕ
  G = f (item_at l (get_or places a 0))

  abbrev pub Same : ℕ → Type 0
  Same e = Each (λ (x : Found). f x ≡ f (item_at l (get_or places a 0))) (items_at l (drop a (take e places)))

  one_more : (e : ℕ) → a ≤ e → e < length places → drop a (take (e + 1) places) ≡ drop a (take e places) ++ (get_or places e 0 ∷ [])
  one_more e h k = rw (add-one e) (ap (drop a) (take-suc places e 0 k) ∙ drop-append-le a (take e places) (get_or places e 0 ∷ []) (rw (length-take-le e places (omega arith)) h))

  pub same_more : (e : ℕ) → a ≤ e → e < length places → f (item_at l (get_or places e 0)) ≡ f (item_at l (get_or places a 0)) → Same e → Same (e + 1)
  same_more e h k q s =
      rw (one_more e h k, map-append (item_at l) (drop a (take e places)) (get_or places e 0 ∷ []))
      (each_append (λ (x : Found). f x ≡ G) (items_at l (drop a (take e places))) (item_at l (get_or places e 0) ∷ []) s (each_one (item_at l (get_or places e 0)) q))
    where
      each_one : (x : Found) → f x ≡ G → Each (λ (x : Found). f x ≡ G) (x ∷ [])
      each_one x q = each_of (λ (x : Found). f x ≡ G) (x ∷ []) (λ y m. only y m)
        where
          only : (y : Found) → y ∈ (x ∷ []) → f y ≡ G
          only y (inl e) = ap f e ∙ q
          only y (inr m) = elim m [ ]

  pub same_one : a < length places → Same (a + 1)
  same_one h = same_more a (omega arith) h refl (rw (slice_empty a places) (each_nil (λ (x : Found). f x ≡ G)))

  pub ends_here : (e : ℕ) → a < e → e ≤ length places → Same e → ((x : Found) (t : List Found) → items_at l (drop e places) ≡ x ∷ t → f x ≡ f (item_at l (get_or places a 0)) → ⊥) → RunEnds f l places a e
  ends_here e h k s stop =
      let n : suc (e - a - 1) ≡ e - a = omega arith in
      let xs = items_at l (drop a places) in
      let front : take (suc (e - a - 1)) xs ≡ items_at l (drop a (take e places)) =
      take-map (item_at l) (suc (e - a - 1)) (drop a places) ∙ ap (λ (m : ℕ). items_at l (take m (drop a places))) n ∙ ap (items_at l) (sym (drop-take a e places)) in
      let back : drop (suc (e - a - 1)) xs ≡ items_at l (drop e places) =
      drop-map (item_at l) (suc (e - a - 1)) (drop a places) ∙ ap (items_at l) (drop-drop (suc (e - a - 1)) a places ∙ (let q : a + suc (e - a - 1) ≡ e = omega arith in ap (λ (m : ℕ). drop m places) q)) in
      record {
        more = h;
        upto = k;
        same = s;
        split = runs-split f (e - a - 1) xs G (rw (length-map (drop a places) (item_at l), length-drop a places) (omega arith)) (rw front s) (λ x t q. stop x t (sym back ∙ q))
            ∙ ap₂ (λ (r : List Found) (u : List Found). r ∷ runs f u) front back;
      }

  -- a run ends where a test of its number first fails
  pub run_of_test : (T : ℕ → Bool → Type 0) (e : ℕ) → a < length places → ((p : ℕ) (b : Bool) → T p b → b ≡ eqb (f (item_at l p)) G) → FirstFails T places a e → RunEnds f l places a e
  run_of_test T e start tells first = ends_here e first.more first.upto (let m = first.more in same_to (e - a - 1) e (omega arith) (omega arith)) stop
    where
      same_to : (n k : ℕ) → a + suc n ≡ k → k ≤ e → Same k
      same_to zero k q h = let z : a + 1 ≡ k = omega arith in rw z at (same_one start)
      same_to (suc n) k q h =
          let j = a + suc n in
          let z : j + 1 ≡ k = omega arith in
          let t = first.passed j (omega arith) (omega arith) in
          let u = first.upto in
          rw z at (same_more j (omega arith) (omega arith) (eqb-true _ _ (sym (tells (get_or places j 0) true t))) (same_to n j refl (omega arith)))

      stop : (x : Found) (t : List Found) → items_at l (drop e places) ≡ x ∷ t → f x ≡ G → ⊥
      stop x t q r = go (ltb e (length places)) refl
        where
          go : (b : Bool) → ltb e (length places) ≡ b → ⊥
          go true h =
              let m = ltb-true e (length places) h in
              let n = items_more l places e m in
              let head : x ≡ item_at l (get_or places e 0) = cc in
              eqb-false _ _ (sym (tells (get_or places e 0) false (first.failed m))) (sym (ap f head) ∙ r)
          go false h = nil≢ (sym q ∙ items_end l places e (ltb-false e (length places) h))
