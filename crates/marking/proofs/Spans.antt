-- The state steps of a span: one for each entry. A cut of a marking is a marking of fewer entries, from the header on; a cut of an unmarking is one of the
-- last entries. So wherever they are cut they leave the entries that are not of the span, and of the span's the header is the first that a marking sets
-- and the last that an unmarking does. Assumes nothing.
use mathlib.Core.Path.{◌≡◌, refl, ap, ◌∙◌}
use mathlib.Core.Logic.{◌⊎◌, inl, inr, ⊎_elim}
use mathlib.Core.List.{List, [], ◌∷◌, ◌++◌, reverse-cons, reverse-append, append_assoc}
use Prim.Native.Nat.{ℕ, zero, suc, ◌+◌, ◌-◌, ◌≤◌, ◌<◌}
use native.Mathlib.Nat.{add-zero}
use native.Mathlib.Omega.{arith}
use lib.ListN.{length, take, drop, length-reverse}
use lib.Seq.{take_all, take_at}
use Rattle.entry.specs.States.{state_at}
use Rattle.flash.specs.Step.{Step, run, apply, and8}
use Rattle.flash.proofs.And.{and8_none}
use Rattle.flash.proofs.Every.{Every, every_take, every_reverse}
use Rattle.flash.proofs.Frame.{In, AllIn, length-apply, length_run}
use Rattle.flash.proofs.Laws.{run-append}
use Rattle.flash.proofs.Order.{le-or-gt}
use Rattle.marking.specs.Marking.{state_step, state_steps, marking, unmarking}
use Rattle.marking.proofs.States.{step_sets, step_keeps}

-- ---- the steps as a list

module _ (base d : ℕ) where
  -- the steps of a span are those of its first k entries, then those of the others
  pub states-append : (j k m : ℕ) → state_steps base d j (k + m) ≡ state_steps base d j k ++ state_steps base d (j + k) m
  unfolding state_steps
  states-append j zero m =
      let e : zero + m ≡ m = omega arith in
      rw (e, add-zero j)
  states-append j (suc k) m =
      let e : suc k + m ≡ suc (k + m) = omega arith in
      let f : j + suc k ≡ j + 1 + k = omega arith in
      rw (e, f, states-append (j + 1) k m)

  pub length-states : (j n : ℕ) → length (state_steps base d j n) ≡ n
  unfolding state_steps
  length-states j zero = refl
  length-states j (suc n) = ap suc (length-states (j + 1) n)

  states-every : (P : Step → Type 0) (j n : ℕ) → ((e : ℕ) → j ≤ e → e < j + n → P (state_step base d e)) → Every P (state_steps base d j n)
  unfolding state_steps Every
  states-every P j zero f = tt
  states-every P j (suc n) f = (f j (omega arith) (omega arith), states-every P (j + 1) n (λ e a b. f e (omega arith) (omega arith)))

module _ (base j n : ℕ) where
  -- the number of steps is the span
  pub length-marking : length (marking base j n) ≡ n
  unfolding marking
  length-marking = length-states base 1 j n

  pub length-unmarking : length (unmarking base j n) ≡ n
  unfolding unmarking
  length-unmarking = length-reverse (state_steps base 3 j n) ∙ length-states base 3 j n

  -- what holds of each entry's step holds of each
  pub marking-every : (P : Step → Type 0) → ((e : ℕ) → j ≤ e → e < j + n → P (state_step base 1 e)) → Every P (marking base j n)
  unfolding marking
  marking-every P f = states-every base 1 P j n f

  pub unmarking-every : (P : Step → Type 0) → ((e : ℕ) → j ≤ e → e < j + n → P (state_step base 3 e)) → Every P (unmarking base j n)
  unfolding unmarking
  unmarking-every P f = every_reverse P (state_steps base 3 j n) (states-every base 3 P j n f)

  module _ (fits : j + n ≤ 126) where
    -- they stand in the entry states
    pub marking_in : AllIn (base + 32) (base + 64) (marking base j n)
    marking_in = marking-every (In (base + 32) (base + 64)) (λ e a b. (omega arith, omega arith))

    pub unmarking_in : AllIn (base + 32) (base + 64) (unmarking base j n)
    unmarking_in = unmarking-every (In (base + 32) (base + 64)) (λ e a b. (omega arith, omega arith))

-- a cut: of a marking, a marking of the first entries; of an unmarking, one of the last
module _ (base j k m : ℕ) where
  pub marking-take : take k (marking base j (k + m)) ≡ marking base j k
  unfolding marking
  marking-take = rw (states-append base 1 j k m) (take_at (state_steps base 1 j k) (state_steps base 1 (j + k) m) k (length-states base 1 j k))

  pub unmarking-append : unmarking base j (k + m) ≡ unmarking base (j + k) m ++ unmarking base j k
  unfolding unmarking
  unmarking-append = rw (states-append base 3 j k m) (reverse-append (state_steps base 3 j k) (state_steps base 3 (j + k) m))

  pub unmarking-take : take m (unmarking base j (k + m)) ≡ unmarking base (j + k) m
  unmarking-take = rw unmarking-append (take_at (unmarking base (j + k) m) (unmarking base j k) m (length-unmarking base (j + k) m))

-- a cut at the end is none
pub marking_whole : (base j n : ℕ) → take (suc (length (marking base j n))) (marking base j n) ≡ marking base j n
marking_whole base j n = take_all (suc (length (marking base j n))) (marking base j n) (omega arith)

-- ---- what steps do to the state of entry e of the page at base

abbrev pub Leaves : ℕ → ℕ → Step → Type 0
Leaves base e s = (l : List ℕ) → base + 4096 ≤ length l → state_at (drop base (apply s l)) e ≡ state_at (drop base l) e

abbrev pub Sets : ℕ → ℕ → ℕ → Step → Type 0
Sets base e v s = (l : List ℕ) → base + 4096 ≤ length l → state_at (drop base (apply s l)) e ≡ and8 (state_at (drop base l) e) v

pub run-leaves : (base e : ℕ) (ss : List Step) (l : List ℕ) → base + 4096 ≤ length l → Every (Leaves base e) ss → state_at (drop base (run ss l)) e ≡ state_at (drop base l) e
unfolding run Every
run-leaves base e [] l h f = refl
run-leaves base e (s ∷ ss) l h f = run-leaves base e ss (apply s l) (rw (length-apply s l) h) f.1 ∙ f.0 l h

-- a step that sets it among steps that leave it
pub run_sets : (base e v : ℕ) (a : List Step) (s : Step) (b : List Step) (l : List ℕ) → base + 4096 ≤ length l
    → Every (Leaves base e) a → Sets base e v s → Every (Leaves base e) b → state_at (drop base (run (a ++ (s ∷ b)) l)) e ≡ and8 (state_at (drop base l) e) v
unfolding run
run_sets base e v a s b l h f t g =
    let m = run a l in
    let n : base + 4096 ≤ length m = rw (length_run a l) h in
    rw (run-append a (s ∷ b) l) (
    run-leaves base e b (apply s m) (rw (length-apply s m) n) g ∙ t m n ∙ ap (λ (x : ℕ). and8 x v) (run-leaves base e a l h f)
    )

module _ (base j n : ℕ) (fits : j + n ≤ 126) (e : ℕ) (o : (e < j) ⊎ (j + n ≤ e)) where
  other : (x : ℕ) → j ≤ x → x < j + n → e ≡ x → ⊥
  other x a b q = ⊎_elim (λ h. omega arith) (λ h. omega arith) o

  marking-leaves : Every (Leaves base e) (marking base j n)
  marking-leaves = marking-every base j n (Leaves base e) (λ x a b l h. step_keeps base 1 x l h (omega arith) (omega arith) e (other x a b))

  unmarking-leaves : Every (Leaves base e) (unmarking base j n)
  unmarking-leaves = unmarking-every base j n (Leaves base e) (λ x a b l h. step_keeps base 3 x l h (omega arith) (omega arith) e (other x a b))

  -- any cut leaves the other entries
  pub marking-keeps : (l : List ℕ) → base + 4096 ≤ length l → (c : ℕ) → state_at (drop base (run (take c (marking base j n)) l)) e ≡ state_at (drop base l) e
  marking-keeps l long c = run-leaves base e _ l long (every_take (Leaves base e) c _ marking-leaves)

  pub unmarking-keeps : (l : List ℕ) → base + 4096 ≤ length l → (c : ℕ) → state_at (drop base (run (take c (unmarking base j n)) l)) e ≡ state_at (drop base l) e
  unmarking-keeps l long c = run-leaves base e _ l long (every_take (Leaves base e) c _ unmarking-leaves)

-- ---- the entries of the span

module _ (base j n : ℕ) (fits : j + n ≤ 126) (l : List ℕ) (long : base + 4096 ≤ length l) (e : ℕ) (from : j ≤ e) (to : e < j + n) where
  abbrev k : ℕ
  k = e - j

  abbrev m : ℕ
  m = j + n - (e + 1)

  split : n ≡ k + suc m
  split = omega arith

  at_e : j + k ≡ e
  at_e = omega arith

  -- the entries before e, its step and those behind it
  marking-split : marking base j n ≡ marking base j k ++ (state_step base 1 e ∷ marking base (e + 1) m)
  unfolding marking state_steps
  marking-split = ap (state_steps base 1 j) split ∙ states-append base 1 j k (suc m) ∙ ap (λ (x : ℕ). state_steps base 1 j k ++ state_steps base 1 x (suc m)) at_e

  unmarking-split : unmarking base j n ≡ unmarking base (e + 1) m ++ (state_step base 3 e ∷ unmarking base j k)
  unfolding unmarking state_steps
  unmarking-split =
      ap (unmarking base j) split ∙ unmarking-append base j k (suc m) ∙ ap (λ (x : ℕ). unmarking base x (suc m) ++ unmarking base j k) at_e
      ∙ ap (λ (x : List Step). x ++ unmarking base j k) (reverse-cons (state_step base 3 e) (state_steps base 3 (e + 1) m))
      ∙ append_assoc (unmarking base (e + 1) m) (state_step base 3 e ∷ []) (unmarking base j k)

  -- each is set once all is done
  pub marking_ends : state_at (drop base (run (marking base j n) l)) e ≡ and8 (state_at (drop base l) e) 2
  marking_ends =
      rw marking-split (run_sets base e 2 (marking base j k) (state_step base 1 e) (marking base (e + 1) m) l long (marking-leaves base j k (omega arith) e (inr (omega arith)))
      (λ x h. step_sets base 1 e x h (omega arith) (omega arith)) (marking-leaves base (e + 1) m (omega arith) e (inl (omega arith))))

  pub unmarking_ends : state_at (drop base (run (unmarking base j n) l)) e ≡ 0
  unmarking_ends =
      rw unmarking-split (run_sets base e 0 (unmarking base (e + 1) m) (state_step base 3 e) (unmarking base j k) l long (unmarking-leaves base (e + 1) m (omega arith) e (inl (omega arith)))
      (λ x h. step_sets base 3 e x h (omega arith) (omega arith)) (unmarking-leaves base j k (omega arith) e (inr (omega arith))) ∙ and8_none (state_at (drop base l) e))

module _ (base j n : ℕ) (fits : j + n ≤ 126) (l : List ℕ) (long : base + 4096 ≤ length l) where
  -- a marking that was begun has set the header
  pub marking_first : 1 ≤ n → (c : ℕ) → state_at (drop base (run (take (suc c) (marking base j n)) l)) j ≡ and8 (state_at (drop base l) j) 2
  marking_first some c = ⊎_elim whole begun (le-or-gt n (suc c))
    where
      whole : n ≤ suc c → state_at (drop base (run (take (suc c) (marking base j n)) l)) j ≡ and8 (state_at (drop base l) j) 2
      whole h = rw (take_all (suc c) (marking base j n) (rw (length-marking base j n) h)) (marking_ends base j n fits l long j (omega arith) (omega arith))

      begun : suc c < n → state_at (drop base (run (take (suc c) (marking base j n)) l)) j ≡ and8 (state_at (drop base l) j) 2
      begun h =
          let e : n ≡ suc c + (n - suc c) = omega arith in
          let cut : take (suc c) (marking base j n) ≡ marking base j (suc c) = ap (λ (x : ℕ). take (suc c) (marking base j x)) e ∙ marking-take base j (suc c) (n - suc c) in
          rw cut (marking_ends base j (suc c) (omega arith) l long j (omega arith) (omega arith))

  -- an unmarking that has not ended has left it
  pub unmarking-before : (c : ℕ) → c < length (unmarking base j n) → state_at (drop base (run (take c (unmarking base j n)) l)) j ≡ state_at (drop base l) j
  unmarking-before c h =
      let g : c < n = rw (length-unmarking base j n) at h in
      let e : n ≡ n - c + c = omega arith in
      let cut : take c (unmarking base j n) ≡ unmarking base (j + (n - c)) c = ap (λ (x : ℕ). take c (unmarking base j x)) e ∙ unmarking-take base j (n - c) c in
      let behind : Every (Leaves base j) (unmarking base (j + (n - c)) c) = unmarking-leaves base (j + (n - c)) c (omega arith) j (inl (omega arith)) in
      rw cut (run-leaves base j (unmarking base (j + (n - c)) c) l long behind)
