-- `judging::older_of` meets its contract: what is found of the two versions decides which goes. Assumes nothing.
use mathlib.Core.Path.{◌≡◌, sym, ap, ◌∙◌}
use mathlib.Core.Bool.{Bool, true, false, cond}
use Prim.Native.Nat.{ℕ}
use native.Mathlib.Omega.{arith}
use lib.Dec.{eqb}
use Rattle.found.specs.Ranks.{rank_number}
use Rattle.found.specs.Places.{item_at, items_at}
use Rattle.found.proofs.Ranking.{rank-eqb}
use Rattle.versions.specs.Versions.{drop_version, older}
use Rattle.versions.proofs.Older.{none_first, none_second, none_newest, unsound_first, unsound_second, older_is}
use Rattle.judging.proofs.older_of.Goals as goal
use Rattle.judging.proofs.older_of.Goals.{After-eq, then-not-is_sound-via-then-not-is_sound, then-not-is_sound-via-else-not-is_sound+then-not-is_sound-2}

pub returns-in_err-first : goal.returns-in_err-first
returns-in_err-first c =
    rw c.from_residual.ensures (none_first _ _ _ c.version_in-v.ensures c.version_in-w.ensures _ c.in_err-first.ensures.0)

pub returns-in_err-second : goal.returns-in_err-second
returns-in_err-second c =
    rw c.from_residual-in_err-second.ensures (none_second _ _ _ c.version_in-v.ensures c.version_in-w.ensures _ c.in_err-second.ensures.0)

pub returns-then-not-is_sound : goal.returns-then-not-is_sound
returns-then-not-is_sound c =
    let v = c.version_in-v.ensures in
    let w = c.version_in-w.ensures in
    let first = c.in_ok-first.ensures.0 in
    let second = c.in_ok-second.ensures.0 in
    elim c.then-not-is_sound.branch [
      | then-not-is_sound-via-then-not-is_sound u ↦ unsound_first _ _ _ v w _ _ _ first second (sym c.is_sound.ensures ∙ u.if-not-is_sound.true)
      | then-not-is_sound-via-else-not-is_sound+then-not-is_sound-2 u ↦ unsound_second _ _ _ v w _ _ _ first second (sym u.is_sound-else-not-is_sound.ensures ∙ u.if-not-is_sound-2.true)
    ]

pub returns-in_err-newest : goal.returns-in_err-newest
returns-in_err-newest c =
    rw c.from_residual-in_err-newest.ensures (none_newest _ _ _ c.version_in-v.ensures c.version_in-w.ensures _ c.in_err-newest.ensures.0)

-- the newest is of the one version or of the other, and the older goes
goes : (c : After-eq) (t : Bool) → c.eq.result ≡ t →
    let fs = items_at c.args.image.now c.args.places.now in
    older fs (rank_number c.args.g) ≡ cond t (drop_version (rank_number c.version_in-w.result) (item_at c.args.image.now c.in_ok-second.second) fs) (drop_version (rank_number c.version_in-v.result) (item_at c.args.image.now c.in_ok-first.first) fs)
goes c t e =
    let v = c.version_in-v.result in
    let same = rank-eqb c.version_at.result v (omega arith) (omega arith) (omega arith) (omega arith) in
    let test = ap (λ (k : ℕ). eqb k (rank_number v)) (sym c.version_at.ensures.0) ∙ sym (c.eq.ensures ∙ same) ∙ e in
    older_is _ _ _ c.version_in-v.ensures c.version_in-w.ensures _ _ _ c.in_ok-first.ensures.0 c.in_ok-second.ensures.0 _ t
    (sym c.is_sound.ensures ∙ c.if-not-is_sound.false) (sym c.is_sound-else-not-is_sound.ensures ∙ c.if-not-is_sound-2.false) c.in_ok-newest.ensures.0 test

pub returns-then-eq : goal.returns-then-eq
returns-then-eq c = (c.in_ok-second.ensures.1, goes (goal.at.returns-then-eq c).After-eq true c.if-eq.true)

pub returns-else-eq : goal.returns-else-eq
returns-else-eq c = (c.in_ok-first.ensures.1, goes (goal.at.returns-else-eq c).After-eq false c.if-eq.false)
