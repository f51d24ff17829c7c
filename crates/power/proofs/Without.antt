-- Items erased one after the other, each at a place of its own: what is left is the image without those that were erased whole. Assumes nothing.
use mathlib.Core.Path.{◌∙◌, ◌≡◌, ap, refl, sym}
use mathlib.Core.Logic.{◌⊎◌, inl, inr, ⊎_elim}
use mathlib.Core.Bool.{Bool, cond, false, true}
use mathlib.Core.List.{List, [], ◌++◌, ◌∷◌, flat_map}
use Prim.Native.Nat.{◌+◌, ◌/◌, suc, ℕ}
use native.Mathlib.Omega.{arith}
use lib.Dec.{eqb}
use lib.ListN.{length, take}
use lib.Seq.{take-length, take-nil}
use borrow.Author.Tests.{eq-eqb, eqb-false, eqb-true}
use Rattle.page.specs.State.{state_of}
use Rattle.page.specs.Walk.{items_of}
use Rattle.page.proofs.Tests.{both_is}
use Rattle.flash.specs.Step.{Step, run, sector}
use Rattle.flash.proofs.Laws.{cut-append, run-append}
use Rattle.lists.specs.Lists.{sum_of, sum_to}
use Rattle.lists.proofs.Member.{◌∈◌, true≢false}
use Rattle.lists.proofs.Sums.{sum-append}
use Rattle.lists.proofs.Range.{off, sum_to_ext, sum_to-off}
use Rattle.table.specs.Table.{sectors_of}
use Rattle.found.specs.Found.{Found, erase_all}
use Rattle.duplicates.proofs.Once.{Once, once_first, once-rest}
use Rattle.quick.specs.Calm.{tot}
use Rattle.power.specs.Demand3.{total}
use Rattle.power.proofs.Erasing.{Erases, Stands, after, before, erases, erasure, stands_after}
use Rattle.power.proofs.Once.{but, sum-but}
use Rattle.power.proofs.Totals.{on_sector, total-sectors}

-- m is the image l without the items xs
pub record Without (l : List ℕ) (xs : List Found) (m : List ℕ) : Type 0 where
  pub len : length m ≡ length l
  pub states : (u : ℕ) → state_of (sector u m) ≡ state_of (sector u l)
  pub sums : (f : List ℕ → ℕ) → total f m + tot f xs ≡ total f l

none : (l : List ℕ) → Without l [] l
unfolding sum_of
none l = record { len = refl; states = λ u. refl; sums = λ f. omega arith }

then : (l m k : List ℕ) (xs ys : List Found) → Without l xs m → Without m ys k → Without l (xs ++ ys) k
then l m k xs ys a b =
    record {
      len = b.len ∙ a.len;
      states = λ u. b.states u ∙ a.states u;
      sums = λ f. (let p = a.sums f in let q = b.sums f in let r = sum-append (λ (x : Found). f x.raw) xs ys in omega arith);
    }

-- ---- one item
module _ (l : List ℕ) (x : Found) (S : Stands l x) where
  module _ (m : List ℕ) (E : Erases l x m) where
    state_same : (u : ℕ) → state_of (sector u m) ≡ state_of (sector u l)
    state_same u = go (eqb u x.sector) refl
      where
        go : (b : Bool) → eqb u x.sector ≡ b → state_of (sector u m) ≡ state_of (sector u l)
        go true e = rw (eqb-true u x.sector e) E.state
        go false e = rw (E.others u (eqb-false u x.sector e))

    -- the other sectors hold what they held
    total_one : (f : List ℕ → ℕ) (d : ℕ) → on_sector f m x.sector + d ≡ on_sector f l x.sector → total f m + d ≡ total f l
    total_one f d e =
        let a = total-sectors f m ∙ ap (λ (k : ℕ). sum_to (on_sector f m) (k / 4096)) E.len in
        let b = total-sectors f l in
        let p = sum_to-off x.sector (on_sector f m) (sectors_of l) S.0 in
        let q = sum_to-off x.sector (on_sector f l) (sectors_of l) S.0 in
        let r = sum_to_ext (off x.sector (on_sector f m)) (off x.sector (on_sector f l)) (sectors_of l) (λ u h. go u (eqb u x.sector) refl) in
        omega arith
      where
        go : (u : ℕ) (b : Bool) → eqb u x.sector ≡ b → cond b 0 (on_sector f m u) ≡ cond b 0 (on_sector f l u)
        go u true k = refl
        go u false k = rw (E.others u (eqb-false u x.sector k))

    -- it is not erased yet, or it is
    not_yet : items_of (sector x.sector m) ≡ items_of (sector x.sector l) → Without l [] m
    unfolding sum_of
    not_yet e = record { len = E.len; states = state_same; sums = λ f. total_one f 0 (rw e (omega arith)) }

    now : items_of (sector x.sector m) ≡ but x.entry (items_of (sector x.sector l)) → Without l (x ∷ []) m
    unfolding sum_of
    now e =
        record {
          len = E.len;
          states = state_same;
          sums = λ f. total_one f (f x.raw + 0) (rw e (let z = sum-but (sector x.sector l) f (record { entry = x.entry; raw = x.raw }) S.1 in omega arith));
        }

  one_whole : Without l (x ∷ []) (run (erasure x) l)
  one_whole = now (run (erasure x) l) (rw (take-length (erasure x)) at (erases l x S (length (erasure x)))) (after l x S)

  one_cut : (k : ℕ) → Without l [] (run (take k (erasure x)) l) ⊎ Without l (x ∷ []) (run (take k (erasure x)) l)
  one_cut k = ⊎_elim (λ e. inl (not_yet (run (take k (erasure x)) l) (erases l x S k) e)) (λ e. inr (rw e one_whole)) (before l x S k)

-- ---- one after the other
-- the rest stands still
rest-stands : (l : List ℕ) (x : Found) (xs : List Found) → ((y : Found) → y ∈ (x ∷ xs) → Stands l y) → Once (x ∷ xs) → (y : Found) → y ∈ xs → Stands (run (erasure x) l) y
rest-stands l x xs s o y k =
    stands_after l x (s x (inl refl)) y (s y (inr k))
    (λ a b. true≢false (both_is _ _ (eq-eqb x.sector y.sector (sym a)) (eq-eqb x.entry y.entry (sym b))) (once_first x xs o y k))

-- all of them
pub erased_all : (xs : List Found) (l : List ℕ) → ((y : Found) → y ∈ xs → Stands l y) → Once xs → Without l xs (run (erase_all xs) l)
unfolding erase_all flat_map run
erased_all [] l s o = none l
erased_all (x ∷ xs) l s o =
    rw (run-append (erasure x) (erase_all xs) l)
    (then l (run (erasure x) l) _ (x ∷ []) xs (one_whole l x (s x (inl refl))) (erased_all xs (run (erasure x) l) (rest-stands l x xs s o) (once-rest x xs o)))

-- and cut anywhere, the first so many
pub erased-cut : (xs : List Found) (l : List ℕ) → ((y : Found) → y ∈ xs → Stands l y) → Once xs → (k : ℕ) → (j : ℕ) × Without l (take j xs) (run (take k (erase_all xs)) l)
unfolding erase_all flat_map run
erased-cut [] l s o k = (0, rw (take-nil {A = Step} k) (none l))
erased-cut (x ∷ xs) l s o k =
    let ih = erased-cut xs (run (erasure x) l) (rest-stands l x xs s o) (once-rest x xs o) in
    ⊎_elim
    (λ e. rw e (⊎_elim (λ c. (0, c)) (λ c. (1, c)) (one_cut l x (s x (inl refl)) k)))
    (λ e. (suc (ih (suc e.0)).0, rw (e.1, run-append (erasure x) (take (suc e.0) (erase_all xs)) l) (then l _ _ (x ∷ []) _ (one_whole l x (s x (inl refl))) (ih (suc e.0)).1)))
    (cut-append k (erasure x) (erase_all xs))
