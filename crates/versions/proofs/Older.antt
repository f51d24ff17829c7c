-- What the code finds of two versions decides which of them goes. Assumes nothing.
use mathlib.Core.Path.{◌≡◌, refl, sym, ◌∙◌}
use mathlib.Core.Bool.{Bool, true, false, cond, ◌&&◌}
use mathlib.Core.Option.{none, some}
use mathlib.Core.List.{List, []}
use Prim.Native.Nat.{ℕ}
use lib.Dec.{eqb}
use Rattle.lists.proofs.Member.{cond_same}
use Rattle.found.specs.Found.{Found, version_of}
use Rattle.versions.specs.Versions.{counting, sound, drop_version, version_in, sound_one, both_sound, drop_counting, older_with, older}
use Rattle.versions.specs.Search.{newest_index}
use Rattle.versions.proofs.Newer.{newest-counts}

-- a version without an index, and with one
module _ (v : ℕ) (fs : List Found) where
  no_index : none ≡ newest_index v v fs → sound_one v fs (counting v fs) ≡ false
  unfolding sound_one
  no_index e = rw (sym (newest-counts v fs) ∙ sym e)

  by_index : (i : Found) (b : Bool) → some i ≡ newest_index v v fs → sound v fs i ≡ b → sound_one v fs (counting v fs) ≡ b
  unfolding sound_one
  by_index i b e s = rw (sym (newest-counts v fs) ∙ sym e) s

-- the versions v and w of group g
module _ (g v w : ℕ) (first : v ≡ version_in g 0) (second : w ≡ version_in g 0x80) (fs : List Found) where
  not_first : sound_one v fs (counting v fs) ≡ false → older fs g ≡ []
  unfolding older both_sound
  not_first e = rw (← first, ← second, e)

  not_second : sound_one w fs (counting w fs) ≡ false → older fs g ≡ []
  unfolding older both_sound newest_index
  not_second e = rw (← first, ← second) (go (sound_one v fs (counting v fs)) (sound_one w fs (counting w fs)) e)
    where
      go : (a b : Bool) → b ≡ false → cond (a && b) (older_with v w fs (newest_index v w fs)) [] ≡ []
      go true b q = rw q
      go false b q = refl

  pub none_first : none ≡ newest_index v v fs → older fs g ≡ []
  none_first e = not_first (no_index v fs e)

  pub none_second : none ≡ newest_index w w fs → older fs g ≡ []
  none_second e = not_second (no_index w fs e)

  pub none_newest : none ≡ newest_index v w fs → older fs g ≡ []
  unfolding older newest_index older_with
  none_newest e = rw (← first, ← second, sym e) (cond_same (both_sound fs v w))

  module _ (i j : Found) (a : some i ≡ newest_index v v fs) (b : some j ≡ newest_index w w fs) where
    pub unsound_first : sound v fs i ≡ false → older fs g ≡ []
    unsound_first x = not_first (by_index v fs i false a x)

    pub unsound_second : sound w fs j ≡ false → older fs g ≡ []
    unsound_second y = not_second (by_index w fs j false b y)

    pub older_is : (k : Found) (t : Bool) → sound v fs i ≡ true → sound w fs j ≡ true → some k ≡ newest_index v w fs → eqb (version_of k.raw) v ≡ t
        → older fs g ≡ cond t (drop_version w j fs) (drop_version v i fs)
    unfolding older both_sound newest_index older_with drop_counting
    older_is k t x y e q =
        rw (← first, ← second, by_index v fs i true a x, by_index w fs j true b y, sym e, q, sym (newest-counts v fs) ∙ sym a, sym (newest-counts w fs) ∙ sym b)
