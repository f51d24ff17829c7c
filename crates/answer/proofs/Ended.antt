-- A call that is neither refused nor stopped has ended. Assumes nothing.
use mathlib.Core.Path.{◌≡◌, refl}
use mathlib.Core.Bool.{false}
use Rattle.lists.proofs.Member.{true≢false}
use Rattle.answer.specs.declared.Answer.{Answer}
use Rattle.answer.specs.declared.Answer.TheVariants.{Done, NotSectors, FewRecords, ActiveStands, AllWritten, NoFreeSector, SequencesSpent, Stopped}
use Rattle.answer.specs.Answer.{number_of, refusal}

pub neither-ended : (a : Answer) → refusal a ≡ false → (number_of a ≡ 7 → ⊥) → number_of a ≡ 0
neither-ended (Done k) f h = refl
neither-ended NotSectors f h = absurd (true≢false refl f)
neither-ended FewRecords f h = absurd (true≢false refl f)
neither-ended ActiveStands f h = absurd (true≢false refl f)
neither-ended AllWritten f h = absurd (true≢false refl f)
neither-ended NoFreeSector f h = absurd (true≢false refl f)
neither-ended SequencesSpent f h = absurd (true≢false refl f)
neither-ended (Stopped s k) f h = absurd (h refl)
