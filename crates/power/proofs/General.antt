-- The general form of demand 3: every cut of reclaim, and of a recovery after it, leaves one of reclaim's images or what is left of the store; and recovery
-- run to its end keeps the same items of each. Assumes nothing.
use mathlib.Core.Path.{◌∙◌, ◌≡◌, ap, refl, sym}
use mathlib.Core.Logic.{◌⊎◌, inl, inr, ⊎_elim}
use mathlib.Core.Bool.{Bool, cond, false, true}
use mathlib.Core.List.{List, [], ◌++◌, ◌∷◌}
use Prim.Native.Nat.{◌≤◌, suc, ℕ}
use native.Mathlib.Omega.{arith}
use lib.ListN.{length, take}
use lib.Seq.{take-length}
use Rattle.entry.specs.States.{one}
use Rattle.page.specs.Walk.{Laid}
use Rattle.flash.specs.Step.{Step, run}
use Rattle.flash.proofs.Laws.{cut-append, run-append}
use Rattle.lists.specs.Lists.{sum_of}
use Rattle.lists.proofs.Sums.{sum-le}
use Rattle.answer.specs.Staged.{untag}
use Rattle.finish.specs.Finish.{name_of, same_bytes}
use Rattle.stages.specs.Stages.{accepted, recovery}
use Rattle.power.specs.Demand3.{Premises, failing, recovered, recoveries, stored, total}
use Rattle.power.specs.General.{Leaves, Unsettled}
use Rattle.power.proofs.Accepted.{accept, accept-rest}
use Rattle.power.proofs.Judged.{Fit, Keeps, unsound}
use Rattle.power.proofs.Last.{left_cut, left_keeps}
use Rattle.power.proofs.Left.{Left, final_left}
use Rattle.power.proofs.Plain.{plain, plain_same}
use Rattle.power.proofs.Quiet.{plain-rest}
use Rattle.power.proofs.Reclaiming.{reach}
use Rattle.power.proofs.Recovery.{runs}
use Rattle.power.proofs.Runs.{Runs}
use Rattle.power.proofs.Same.{same_eq, same_refl}
use Rattle.power.proofs.State.{Good, State}
use Rattle.power.proofs.Unsettled.{fit, store_left}

module _ (L : List ℕ) (U : Unsettled L) where
  abbrev S : Premises L
  S = U.premises

  F : Fit L
  F = fit L U

  -- what reclaim and recovery can be cut at
  abbrev Image : List ℕ → Type 0
  Image m = Left L m ⊎ ((s : ℕ) × Good L s × State L s m)

  -- the steps of recovery on it
  accepts : (m : List ℕ) → Image m → accepted m ≡ true
  accepts m (inl K) = accept-rest L S.accepts m K.len K.rest
  accepts m (inr (s, G, T)) = accept L s G S.bytes S.accepts m T

  steps-are : (m : List ℕ) → Image m → untag (recovery m) ≡ plain m
  unfolding recovery
  steps-are m I = rw (accepts m I) (plain_same m)

  -- from one of reclaim's images on: first to the end of the finish stage
  module _ (s : ℕ) (G : Good L s) (m : List ℕ) (T : State L s m) where
    on : Runs L s m
    on = runs L s G S.bytes m T

    abbrev finished : List ℕ
    finished = run on.steps m

    then_left : Left L finished
    then_left = final_left L finished on.end

    two-parts : plain m ≡ on.steps ++ plain finished
    two-parts = on.is ∙ rw (plain-rest finished then_left.rest)

    state-cut : (k : ℕ) → Image (run (take k (plain m)) m)
    state-cut k =
        rw two-parts
        (⊎_elim (λ e. rw e (inr (s, G, on.cut k))) (λ e. rw (e.1, run-append on.steps (take (suc e.0) (plain finished)) m) (inl (left_cut L F finished then_left (suc e.0))))
        (cut-append k on.steps (plain finished)))

  -- what it leaves at its end
  abbrev Ended : List ℕ → Type 0
  Ended m = Left L m × Keeps L m

  left_end : (m : List ℕ) → Left L m → Ended (run (plain m) m)
  left_end m K = (rw (take-length (plain m)) at (left_cut L F m K (length (plain m))), left_keeps L F m K)

  image-cut : (m : List ℕ) → Image m → (k : ℕ) → Image (run (take k (untag (recovery m))) m)
  image-cut m I k = rw (steps-are m I) (go I)
    where
      go : Image m → Image (run (take k (plain m)) m)
      go (inl K) = inl (left_cut L F m K k)
      go (inr (s, G, T)) = state-cut s G m T k

  recovered_is : (m : List ℕ) → Image m → recovered m ≡ run (plain m) m
  unfolding recovered
  recovered_is m I = ap (λ (ss : List Step). run ss m) (steps-are m I)

  image_end : (m : List ℕ) → Image m → Ended (recovered m)
  image_end m I = rw (recovered_is m I) (go I)
    where
      go : Image m → Ended (run (plain m) m)
      go (inl K) = left_end m K
      go (inr (s, G, T)) = rw (two-parts s G m T, run-append (on s G m T).steps (plain (finished s G m T)) m) (left_end (finished s G m T) (then_left s G m T))

  -- a recovery cut, and begun again
  image-cuts : (ks m : List ℕ) → Image m → Image (recoveries ks m)
  unfolding recoveries
  image-cuts [] m I = I
  image-cuts (k ∷ ks) m I = image-cuts ks (run (take k (untag (recovery m))) m) (image-cut m I k)

  -- ---- an item's bytes determine its name, which no other item has
  held-once : (x : List ℕ) → total (λ (r : List ℕ). cond (unsound L r) 0 (one (same_bytes r x))) L ≤ 1
  unfolding total
  held-once x =
      let names : sum_of (λ (i : Laid). one (same_bytes (name_of i.raw) (name_of x))) (stored L) ≤ 1 = S.unshared (name_of x) in
      let le = sum-le (λ (i : Laid). cond (unsound L i.raw) 0 (one (same_bytes i.raw x))) (λ (i : Laid). one (same_bytes (name_of i.raw) (name_of x))) (stored L)
      (λ i m. named i.raw (unsound L i.raw) (same_bytes i.raw x) refl) in
      omega arith
    where
      named : (r : List ℕ) (u b : Bool) → same_bytes r x ≡ b → cond u 0 (one b) ≤ one (same_bytes (name_of r) (name_of x))
      named r true b e = omega arith
      named r false true e = rw (same_eq r x e, same_refl (name_of x)) (omega arith)
      named r false false e = omega arith

  leaves : (m : List ℕ) → Image m → Leaves L m
  leaves m I =
      let a = image_end m I in
      let b = image_end L (inl (store_left L S)) in
      record {
        accepts = accepts m I;
        items = λ x. a.1 (λ (r : List ℕ). one (same_bytes r x)) ∙ sym (b.1 (λ (r : List ℕ). one (same_bytes r x)));
        once = λ x. (let e = a.1 (λ (r : List ℕ). one (same_bytes r x)) in let h = held-once x in omega arith);
        free = a.0.free;
      }

  -- reclaim cut, recoveries cut, and the last to its end
  pub general-cuts : (c : ℕ) (ks : List ℕ) → Leaves L (failing c ks L)
  unfolding failing
  general-cuts c ks = leaves _ (image-cuts ks _ (⊎_elim (λ e. inl (rw e (store_left L S))) (λ r. inr r) (reach L S c)))
