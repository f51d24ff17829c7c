-- Demand 3 of the calls: a call makes the first so many of the steps that demand 3 speaks of. Assumes nothing.
use mathlib.Core.Path.{◌≡◌, sym, ap, ◌∙◌}
use mathlib.Core.Bool.{true, false, not}
use mathlib.Core.List.{List, [], ◌∷◌}
use Prim.Native.Nat.{ℕ, zero, suc}
use lib.ListN.{length, take}
use lib.Seq.{take_all}
use borrow.Author.Tests.{le-leb, not-true}
use Rattle.page.proofs.Tests.{both_first, both-second}
use Rattle.flash.specs.Step.{run}
use Rattle.answer.specs.declared.Answer.{Answer}
use Rattle.answer.specs.Answer.{number_of, refusal}
use Rattle.answer.specs.Staged.{untag, answer_of}
use Rattle.answer.proofs.Tagged.{made_no-refusal}
use Rattle.answer.proofs.Made.{length-untag, done-fits}
use Rattle.table.specs.Table.{sectors_of, whole_sectors, pages}
use Rattle.stages.specs.Stages.{too_high, recovering, accepted, recovery}
use Rattle.recover.specs.Promise.{called, calling, whole_answer, recover_answer}
use Rattle.recover.proofs.Fixed.{recover-answer}
use Rattle.recover.proofs.Ends.{recover-ended}
use Rattle.reclaim.specs.Promise.{ReclaimPromise}
use Rattle.power.specs.Demand3.{Store, Safe, failing, recoveries, recovered, held}
use Rattle.power.specs.Calls.{Called, Restarts, Stands, CallsSafe, CallsEnd}
use Rattle.power.proofs.Demand3.{demand3}

module _ (l m : List ℕ) (a : Answer) (h : Called l m a) where
  -- with records enough the steps are recovery's
  steps : m ≡ run (take h.allowance (untag (recovery l))) l
  unfolding calling called
  steps = rw (le-leb (sectors_of l) (length h.lent) h.enough) at h.promised.image

  answered : accepted l ≡ true → a ≡ answer_of h.allowance (recovering l)
  unfolding recover_answer whole_answer accepted
  answered e =
      let w = both_first (whole_sectors l) (not (too_high (pages l))) e in
      let t = not-true (too_high (pages l)) (both-second (whole_sectors l) (not (too_high (pages l))) e) in
      rw (w, le-leb (sectors_of l) (length h.lent) h.enough, t) at (recover-answer h.promised)

  accepts_call : accepted l ≡ true → refusal a ≡ false
  accepts_call e = ap refusal (answered e) ∙ made_no-refusal h.allowance (recovering l)

  -- a call that ended made all the steps
  ended : accepted l ≡ true → number_of a ≡ 0 → m ≡ recovered l
  unfolding recovered recovery
  ended e z =
      let fits = done-fits h.allowance (recovering l) (ap number_of (sym (answered e)) ∙ z) in
      let all = take_all h.allowance (untag (recovering l)) (rw (length-untag (recovering l)) fits) in
      let made : m ≡ run (untag (recovering l)) l = rw (e, all) at steps in
      rw e made

-- calls of recovery are recoveries cut somewhere
restarted : (k : ℕ) (l m : List ℕ) → Restarts k l m → (ks : List ℕ) × (m ≡ recoveries ks l)
unfolding Restarts recoveries
restarted zero l m e = ([], e)
restarted (suc k) l m (x, a, c, r) = let s = restarted k x m r in (c.allowance ∷ s.0, rw (← steps l x a c) s.1)

module _ (l : List ℕ) (S : Store l) (c : ℕ) (x : List ℕ) (r : Answer) (P : ReclaimPromise l c x r) (m : List ℕ) (n : ℕ) (R : Restarts n x m) (w : List ℕ) (a : Answer) (C : Called m w a) where
  safe : Safe l m
  unfolding failing
  safe =
      let k = restarted n x m R in
      let at : m ≡ failing c k.0 l = k.1 ∙ ap (recoveries k.0) P.image in
      rw at (demand3 l S c k.0)

  stands : number_of a ≡ 0 → Stands l w
  stands z =
      let end : w ≡ recovered m = ended m w a C safe.accepts z in
      record { items = λ y. ap (held y) end ∙ safe.items y; once = λ y. rw end (safe.once y); free = rw end safe.free }

  not-refused : refusal a ≡ false
  not-refused = accepts_call m w a C safe.accepts

pub calls-safe : CallsSafe
calls-safe l S c x r P m n R w a C = record { accepts = not-refused l S c x r P m n R w a C; stands = stands l S c x r P m n R w a C }

pub calls_end : CallsEnd
calls_end l S c x r P m n R w a C allowed =
    let z = recover-ended C.promised allowed (not-refused l S c x r P m n R w a C) in
    (z, stands l S c x r P m n R w a C z)
