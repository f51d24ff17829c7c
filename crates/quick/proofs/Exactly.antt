-- The answer of the quick test is exact: yes where stages 3 and 4 make no step, and no where they make one. In two cases a no still needs the stages, which
-- then may make none: an item is crowded out, since 64 slots of the table from that of its name on hold items of other names; or a version in namespace 0 has
-- two indices or more of which the newest is sound, which the test takes for one name twice: stage 3 looks at the newest alone, and stage 4 does not judge this
-- namespace, so that they stay. Assumes nothing.
use mathlib.Core.Path.{◌≡◌, refl}
use mathlib.Core.Logic.{◌⊎◌, inl, inr, ⊎_elim}
use mathlib.Core.Bool.{Bool, true, false}
use mathlib.Core.List.{List, [], ◌∷◌, ◌++◌, map}
use Prim.Native.Nat.{ℕ, ◌<◌, ◌^◌, ◌≤◌}
use native.Mathlib.Omega.{arith}
use lib.Dec.{ltb}
use lib.ListN.{get_or, length}
use borrow.Author.Tests.{eqb-true, ltb-false, ltb-true}
use Rattle.entry.specs.States.{one}
use Rattle.entry.specs.Fields.{key_number, key_of}
use Rattle.page.proofs.Tests.{both_first, both-second}
use Rattle.flash.specs.Step.{Step}
use Rattle.lists.specs.Lists.{some_of}
use Rattle.lists.specs.Each.{Each}
use Rattle.lists.proofs.Member.{◌∈◌, nil_left, nil_right}
use Rattle.lists.proofs.Maps.{map_in}
use Rattle.lists.proofs.Search.{none_of, some_in}
use Rattle.table.specs.declared.Page.{Page}
use Rattle.found.specs.Found.{Found, found, index_of, is_index, version_of}
use Rattle.found.specs.Places.{Lies, item_at, place_of}
use Rattle.found.proofs.Finding.{items_found}
use Rattle.found.proofs.Spanned.{found_spanned}
use Rattle.blobs.specs.Blobs.{blob_steps}
use Rattle.duplicates.specs.Duplicates.{duplicate_steps}
use Rattle.quick.specs.Calm.{Calm, ZeroLone, ZeroTwice, tot, zero_index}
use Rattle.quick.specs.Crowded.{Crowded}
use Rattle.quick.proofs.Idle.{blob_idle, duplicate_idle}
use Rattle.quick.proofs.Counts.{pos_in}
use Rattle.quick.proofs.Calming.{small_items}
use Rattle.quick.proofs.Still.{idle-calm}

-- the steps of both stages, judged by the items fs: stage 4 finds the same items as stage 3 where this makes no step
abbrev pub repairs : List Found → List Step
repairs fs = blob_steps fs ++ duplicate_steps fs

-- no version has two indices in namespace 0, or one has
zero-either : (fs : List Found) → ZeroLone (λ (f : List ℕ → ℕ). tot f fs) ⊎ ZeroTwice (λ (f : List ℕ → ℕ). tot f fs)
zero-either fs = go (some_of twice fs) refl
  where
    count : ℕ → ℕ
    count v = tot (λ (r : List ℕ). one (zero_index v r)) fs

    twice : Found → Bool
    twice x = ltb 1 (count (version_of x.raw))

    most : some_of twice fs ≡ false → (v : ℕ) (b : Bool) → ltb 0 (count v) ≡ b → count v ≤ 1
    most e v false q = omega (arith, ltb-false 0 (count v) q)
    most e v true q =
        let x = pos_in (λ (y : Found). zero_index v y.raw) fs (ltb-true 0 _ q) in
        let r = x.0.raw in
        rw (eqb-true (version_of r) v (both-second (is_index r) _ (both_first (index_of v r) _ x.2))) at (ltb-false 1 (count (version_of r)) (none_of twice fs e x.0 x.1))

    go : (b : Bool) → some_of twice fs ≡ b → ZeroLone (λ (f : List ℕ → ℕ). tot f fs) ⊎ ZeroTwice (λ (f : List ℕ → ℕ). tot f fs)
    go true e = let x = some_in twice fs e in inr (version_of x.0.raw, ltb-true 1 _ x.2)
    go false e = inl (λ v. most e v (ltb 0 (count v)) refl)

module _ (l : List ℕ) (bytes : (j : ℕ) → get_or l j 0 < 256) (pages : List Page) (lies : Each (Lies l) pages) where
  -- f summed over the items found
  abbrev sums : (List ℕ → ℕ) → ℕ
  sums f = tot f (found pages l)

  keys : (x : Found) → x ∈ found pages l → key_number (key_of x.raw) < 2 ^ 128
  keys x m =
      let p = map_in (item_at l) (map place_of (found pages l)) x (rw (items_found l pages lies) m) in
      rw p.2 (small_items l bytes p.0).2

  -- items are calm exactly where there is nothing to repair
  pub calm-still : Calm sums → repairs (found pages l) ≡ []
  calm-still C = rw (blob_idle (found pages l) C, duplicate_idle (found pages l) C)

  pub still-calm : ZeroLone sums → repairs (found pages l) ≡ [] → Calm sums
  still-calm zero-lone e = idle-calm (found pages l) keys (found_spanned pages l) zero-lone (nil_left _ _ e) (nil_right (blob_steps (found pages l)) _ e)

  -- what `is_calm` promises of its answer r, and of the table t that it leaves
  module _ (t : List ℕ) (r : Bool) (yes : r ≡ true → Calm sums) (no : r ≡ false → Calm sums → Crowded t l (map place_of (found pages l))) where
    pub exactly : (r ≡ true → repairs (found pages l) ≡ [])
        × (r ≡ false → (1 ≤ length (repairs (found pages l))) ⊎ (Crowded t l (map place_of (found pages l)) ⊎ ZeroTwice sums))
    exactly = (λ e. calm-still (yes e), λ e. go e (repairs (found pages l)) refl)
      where
        go : r ≡ false → (ss : List Step) → repairs (found pages l) ≡ ss → (1 ≤ length ss) ⊎ (Crowded t l (map place_of (found pages l)) ⊎ ZeroTwice sums)
        go e [] q = inr (⊎_elim (λ lone. inl (no e (still-calm lone q))) inr (zero-either (found pages l)))
        go e (s ∷ ss) q = inl (omega arith)
