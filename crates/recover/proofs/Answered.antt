-- The answer of a call, by its refusals: what it tells is what the promise says. Assumes nothing.
use mathlib.Core.Path.{◌≡◌, refl}
use mathlib.Core.Bool.{Bool, true, false, cond, not, ◌&&◌}
use mathlib.Core.List.{List, []}
use Prim.Native.Nat.{ℕ, ◌≤◌, ◌<◌}
use lib.Dec.{leb, ltb}
use lib.ListN.{length}
use borrow.Author.Tests.{leb-true, leb-false, le-leb, lt-leb, lt-ltb, le-ltb}
use Rattle.answer.specs.declared.Answer.{Answer}
use Rattle.answer.specs.declared.Answer.TheVariants.{NotSectors, FewRecords, SequencesSpent}
use Rattle.answer.specs.Answer.{number_of, refusal}
use Rattle.answer.specs.Staged.{answer_of}
use Rattle.answer.specs.Told.{number_in, Told}
use Rattle.answer.proofs.Values.{refusal_told, answer_told}
use Rattle.table.specs.Table.{sectors_of, whole_sectors, pages}
use Rattle.stages.specs.Stages.{too_high, recovering, accepted, recovery}
use Rattle.recover.specs.Promise.{called, recover_table, whole_answer, recover_answer}

-- ---- the list of steps

module _ (l : List ℕ) (lent : ℕ) where
  pub none_whole : whole_sectors l ≡ false → called l lent ≡ []
  unfolding called recovery accepted
  none_whole e = go (leb (sectors_of l) lent)
    where
      go : (b : Bool) → cond b (cond (whole_sectors l && not (too_high (pages l))) (recovering l) []) [] ≡ []
      go true = rw e
      go false = refl

  pub none_lent : lent < sectors_of l → called l lent ≡ []
  unfolding called
  none_lent h = rw (lt-leb (sectors_of l) lent h)

  pub none_high : too_high (pages l) ≡ true → called l lent ≡ []
  unfolding called recovery accepted
  none_high e = go (leb (sectors_of l) lent) (whole_sectors l)
    where
      go : (b w : Bool) → cond b (cond (w && not (too_high (pages l))) (recovering l) []) [] ≡ []
      go true true = rw e
      go true false = refl
      go false w = refl

  pub steps-called : whole_sectors l ≡ true → sectors_of l ≤ lent → too_high (pages l) ≡ false → called l lent ≡ recovering l
  unfolding called recovery accepted
  steps-called whole enough low = rw (le-leb (sectors_of l) lent enough, whole, low)

-- ---- refused by the first condition that holds, or steps

module _ (l : List ℕ) (lent n : ℕ) where
  pub data Way : Type 0 where
    refused : (a : Answer) → recover_answer l lent n ≡ a → number_of a ≡ number_in (recover_table l lent n) → refusal a ≡ true → called l lent ≡ [] → Way
    made : recover_answer l lent n ≡ answer_of n (recovering l) → number_in (recover_table l lent n) ≡ cond (ltb n (length (called l lent))) 7 0 → called l lent ≡ recovering l → Way

  pub way : Way
  unfolding recover_answer whole_answer recover_table number_in
  way = go (whole_sectors l) refl (leb (sectors_of l) lent) refl (too_high (pages l)) refl
    where
      go : (b : Bool) → whole_sectors l ≡ b → (c : Bool) → leb (sectors_of l) lent ≡ c → (d : Bool) → too_high (pages l) ≡ d → Way
      go false w c e d h = refused NotSectors (rw w) (rw w) refl (none_whole l lent w)
      go true w false e d h = let few = leb-false (sectors_of l) lent e in refused FewRecords (rw (w, e)) (rw (w, lt-ltb lent (sectors_of l) few)) refl (none_lent l lent few)
      go true w true e true h = refused SequencesSpent (rw (w, e, h)) (rw (w, le-ltb lent (sectors_of l) (leb-true (sectors_of l) lent e), h)) refl (none_high l lent h)
      go true w true e false h = let enough = leb-true (sectors_of l) lent e in made (rw (w, e, h)) (rw (w, le-ltb lent (sectors_of l) enough, h)) (steps-called l lent w enough h)

  pub recover_told : Told (recover_table l lent n) n (called l lent) (recover_answer l lent n)
  recover_told = go way
    where
      go : Way → Told (recover_table l lent n) n (called l lent) (recover_answer l lent n)
      go (refused a e k f none) = rw e (refusal_told n a f k none)
      go (made e k steps) = rw (e, steps) (answer_told n (recovering l) (rw steps at k))
