-- A version is judged by its parts alone: others may be left out. Assumes nothing.
use mathlib.Core.Path.{◌≡◌, refl, sym, ap, ap₂, ◌∙◌}
use mathlib.Core.Bool.{Bool, true, false, cond, ◌&&◌, ◌||◌}
use mathlib.Core.Option.{Option, none, some}
use mathlib.Core.List.{List, [], ◌++◌, flat_map}
use Prim.Native.Nat.{ℕ, ◌+◌, ◌*◌, ◌/◌, ◌%◌, ◌^◌, ◌<◌, ◌≤◌}
use native.Mathlib.Omega.{arith}
use native.Mathlib.Nat.{mod-lt, div-add-mod'}
use lib.Dec.{eqb, lit<}
use borrow.Author.Tests.{eqb-true}
use Rattle.entry.specs.States.{one}
use Rattle.entry.specs.Fields.{namespace_of, key_of, key_number, index_count, index_size, chunk_size}
use Rattle.entry.proofs.Keys.{two-high, two-low}
use Rattle.page.proofs.Tests.{both_first, both-second}
use Rattle.flash.specs.Step.{Step}
use Rattle.item.specs.Erase.{erasing}
use Rattle.lists.specs.Lists.{keep, best}
use Rattle.lists.proofs.Member.{◌∈◌, true≢false, refuted}
use Rattle.lists.proofs.Search.{keep_none, best_none}
use Rattle.found.specs.Found.{Found, newer, is_chunk, is_index, is_part, start_in, version_of, group_of, index_of, chunk_of, chunks, erase_all}
use Rattle.page.proofs.Tests.{either_second}
use Rattle.found.proofs.Ranking.{start_le}
use Rattle.lists.proofs.Keeping.{keep-within, sum-within}
use Rattle.lists.proofs.Passing.{all_to_ext}
use Rattle.versions.specs.Versions.{indices, counting, chunk_numbered, exact, size_in, sound, drop_version, judge_with, judge, version_in, sound_one, both_sound, drop_counting, older_with, older}

or_left : (a b : Bool) → a ≡ true → (a || b) ≡ true
or_left a b e = rw e

-- ---- a group's versions
pub split-version : (b g st n s k : ℕ) → 0 < b → k < b → st ≤ 128 → s ≤ 128 → (n * 256 + s) * b + k ≡ (g / b * 256 + st) * b + g % b → (n * 256 + s ≡ g / b * 256 + st) × (k ≡ g % b) → n * b + k ≡ g
split-version b g st n s k z h hst hs e both =
    let q : n ≡ g / b = omega (arith, both.0) in
    ap₂ (λ (x y : ℕ). x * b + y) q both.1 ∙ div-add-mod' g b

pub version_near : (g st : ℕ) (r : List ℕ) → key_number (key_of r) < 2 ^ 128 → st ≤ 128 → version_of r ≡ version_in g st → group_of r ≡ g
unfolding version_of group_of
version_near g st r kr h e =
    let low = mod-lt g {m = 2 ^ 128} (lit< tt) in
    split-version (2 ^ 128) g st (namespace_of r) (start_in r) (key_number (key_of r)) (lit< tt) kr h (start_le r) e
    (two-high 128 {h = namespace_of r * 256 + start_in r} {h' = g / 2 ^ 128 * 256 + st} kr low e, two-low 128 (namespace_of r * 256 + start_in r) (g / 2 ^ 128 * 256 + st) kr low e)

-- ---- some of the items, with all parts of version v
module _ (fs : List Found) (q : Found → Bool) where
  abbrev ys : List Found
  ys = keep q fs

  abbrev pub Near : ℕ → Type 0
  Near v = (x : Found) → x ∈ fs → is_part x.raw ≡ true → version_of x.raw ≡ v → q x ≡ true

  module _ (v : ℕ) (near : Near v) where
    index_near : (x : Found) → x ∈ fs → index_of v x.raw ≡ true → q x ≡ true
    index_near x m e = near x m (either_second (is_chunk x.raw) (is_index x.raw) (both_first (is_index x.raw) _ e)) (eqb-true (version_of x.raw) v (both-second (is_index x.raw) _ e))

    chunk_near : (x : Found) → x ∈ fs → chunk_of v x.raw ≡ true → q x ≡ true
    chunk_near x m e = near x m (or_left (is_chunk x.raw) (is_index x.raw) (both_first (is_chunk x.raw) _ e)) (eqb-true (version_of x.raw) v (both-second (is_chunk x.raw) _ e))

    counting_near : counting v ys ≡ counting v fs
    unfolding counting
    counting_near = ap (best newer) (keep-within (λ (x : Found). index_of v x.raw) q fs index_near)

    chunks_near : chunks v ys ≡ chunks v fs
    chunks_near = keep-within (λ (x : Found). chunk_of v x.raw) q fs chunk_near

    not_near : (x : Found) → x ∈ fs → q x ≡ false → chunk_of v x.raw ≡ false
    not_near x m e = go (chunk_of v x.raw) refl
      where
        go : (b : Bool) → chunk_of v x.raw ≡ b → chunk_of v x.raw ≡ false
        go true f = absurd (true≢false (chunk_near x m f) e)
        go false f = f

    exact_near : (c : ℕ) → exact v ys c ≡ exact v fs c
    unfolding exact
    exact_near c =
        ap₂ (λ (a b : Bool). a && b)
        (ap (eqb c) (sum-within (λ (x : Found). one (chunk_of v x.raw)) q fs (λ y m e. rw (not_near y m e))))
        (all_to_ext _ _ c (λ n h. ap (λ (k : ℕ). eqb k 1) (sum-within (λ (x : Found). one (chunk_numbered v n x.raw)) q fs (λ y m e. rw (not_near y m e)))))

    sound_near : (i : Found) → sound v ys i ≡ sound v fs i
    unfolding sound size_in
    sound_near i =
        ap₂ (λ (a : Bool) (b : ℕ). a && eqb (index_size i.raw) b)
        (exact_near (index_count i.raw))
        (sum-within (λ (x : Found). cond (chunk_of v x.raw) (chunk_size x.raw) 0) q fs (λ y m e. rw (not_near y m e)))

    drop_near : (i : Found) → drop_version v i ys ≡ drop_version v i fs
    unfolding drop_version
    drop_near i = ap (λ (cs : List Found). erasing i.sector i.entry 1 ++ erase_all cs) chunks_near

    judge-with : (o : Option Found) → judge_with v ys o ≡ judge_with v fs o
    unfolding judge_with
    judge-with none = ap erase_all chunks_near
    judge-with (some i) = ap₂ (λ (b : Bool) (ss : List Step). cond b [] ss) (sound_near i) (drop_near i)

    pub judge_near : judge ys v ≡ judge fs v
    unfolding judge
    judge_near = judge-with (counting v ys) ∙ ap (judge_with v fs) counting_near

    sound_one_lem : (o : Option Found) → sound_one v ys o ≡ sound_one v fs o
    unfolding sound_one
    sound_one_lem none = refl
    sound_one_lem (some i) = sound_near i

    sound-counting : sound_one v ys (counting v ys) ≡ sound_one v fs (counting v fs)
    sound-counting = sound_one_lem (counting v ys) ∙ ap (sound_one v fs) counting_near

    drop-with : (o : Option Found) → drop_counting v ys o ≡ drop_counting v fs o
    unfolding drop_counting
    drop-with none = refl
    drop-with (some i) = drop_near i

    drop-counting : drop_counting v ys (counting v ys) ≡ drop_counting v fs (counting v fs)
    drop-counting = drop-with (counting v ys) ∙ ap (drop_counting v fs) counting_near

  module _ (g : ℕ) (near : Near (version_in g 0)) (far : Near (version_in g 0x80)) where
    abbrev v : ℕ
    v = version_in g 0

    abbrev w : ℕ
    w = version_in g 0x80

    either_near : (x : Found) → x ∈ fs → (index_of v x.raw || index_of w x.raw) ≡ true → q x ≡ true
    either_near x m e = go (index_of v x.raw) refl e
      where
        go : (b : Bool) → index_of v x.raw ≡ b → (b || index_of w x.raw) ≡ true → q x ≡ true
        go true f k = index_near v near x m f
        go false f k = index_near w far x m k

    older-with : (o : Option Found) → older_with v w ys o ≡ older_with v w fs o
    unfolding older_with
    older-with none = refl
    older-with (some k) = ap₂ (λ (a b : List Step). cond (eqb (version_of k.raw) v) a b) (drop-counting w far) (drop-counting v near)

    pub older_near : older ys g ≡ older fs g
    unfolding older both_sound
    older_near =
        ap₂ (λ (b : Bool) (ss : List Step). cond b ss [])
        (ap₂ (λ (a b : Bool). a && b) (sound-counting v near) (sound-counting w far))
        (older-with (best newer (keep (λ (x : Found). index_of v x.raw || index_of w x.raw) ys))
        ∙ ap (λ (xs : List Found). older_with v w fs (best newer xs)) (keep-within (λ (x : Found). index_of v x.raw || index_of w x.raw) q fs either_near))

-- ---- nothing is made of a version without parts, nor of a group without an index
counting_none : (fs : List Found) (v : ℕ) → ((x : Found) → x ∈ fs → is_index x.raw ≡ true → version_of x.raw ≡ v → ⊥) → counting v fs ≡ none
unfolding counting
counting_none fs v out =
    best_none newer (indices v fs) (keep_none (λ (x : Found). index_of v x.raw) fs (λ y m. refuted (index_of v y.raw) (λ e. out y m (both_first (is_index y.raw) _ e) (eqb-true (version_of y.raw) v (both-second (is_index y.raw) _ e)))))

judge-nil : (v : ℕ) → judge [] v ≡ []
unfolding judge counting judge_with best keep erase_all flat_map
judge-nil v = refl

module _ (fs : List Found) where
  pub judge_none : (v : ℕ) → ((x : Found) → x ∈ fs → is_part x.raw ≡ true → version_of x.raw ≡ v → ⊥) → judge fs v ≡ []
  judge_none v out =
      sym (judge_near fs (λ (x : Found). false) v (λ x m p e. absurd (out x m p e)))
      ∙ ap (λ (ys : List Found). judge ys v) (keep_none (λ (x : Found). false) fs (λ y m. refl)) ∙ judge-nil v

  pub older_none : (g : ℕ) → ((x : Found) → x ∈ fs → is_index x.raw ≡ true → version_of x.raw ≡ version_in g 0 → ⊥) → older fs g ≡ []
  unfolding older both_sound sound_one
  older_none g out = rw (counting_none fs (version_in g 0) out)
