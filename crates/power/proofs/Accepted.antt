-- Recovery is refused on none of the images: one page at most is Freeing, and the greatest sequence is at most 0xFFFFFFF0. Assumes nothing.
use mathlib.Core.Path.{◌∙◌, ◌≡◌, ap, refl}
use mathlib.Core.Logic.{◌⊎◌, inl, inr, ⊎_elim}
use mathlib.Core.Bool.{Bool, false, true}
use mathlib.Core.List.{List}
use Prim.Native.Nat.{◌-◌, ◌<◌, ℕ}
use native.Mathlib.Omega.{arith}
use lib.ListN.{get_or, length}
use borrow.Author.Tests.{le-ltb}
use Rattle.page.specs.declared.state.PageState.{PageState}
use Rattle.page.specs.declared.state.PageState.TheVariants.{Active, Full}
use Rattle.page.specs.Record.{seen_of}
use Rattle.page.specs.State.{is_free, sequence_of, state_of}
use Rattle.page.proofs.Tests.{both_first}
use Rattle.flash.specs.Step.{sector}
use Rattle.lists.specs.Lists.{greatest}
use Rattle.lists.proofs.Sums.{greatest-lt}
use Rattle.lists.proofs.Member.{◌∈◌, true≢false}
use Rattle.table.specs.declared.Page.{Page}
use Rattle.table.specs.Table.{freeing, freeing_page, page_at, pages, sequence, whole_sectors}
use Rattle.table.proofs.Pages.{page-state, pages_in}
use Rattle.finishing.specs.Finishing.{freeings}
use Rattle.stages.specs.Stages.{accepted, too_high}
use Rattle.stages.proofs.Listed.{none_freeing}
use Rattle.power.proofs.State.{AllFree, Good, Old, Side, Source, State, Target, TargetRecord, done, freeings_one, full, gone, junk, junk-page, old-full, old-sequence, partly, same, source_record, target_page, target_record}
use Rattle.power.proofs.Quiet.{Rest, freeings_none}
use Rattle.power.proofs.Steps.{done_final, gone_final}

low_one : (ps : List Page) → freeings ps ≡ 1 → ((p : Page) → p ∈ ps → sequence p < 0xFFFFFFF1) → too_high ps ≡ false
unfolding too_high
low_one ps e h = let g = greatest-lt sequence ps 0xFFFFFFF1 (omega arith) h in rw (e, le-ltb (0xFFFFFFFE - 1) (greatest sequence ps) (omega arith))

module _ (L : List ℕ) (ok : accepted L ≡ true) where
  whole_same : (l : List ℕ) → length l ≡ length L → whole_sectors l ≡ true
  unfolding whole_sectors
  whole_same l e = rw e (first ok)
    where
      first : accepted L ≡ true → whole_sectors L ≡ true
      first k = unfold accepted in both_first (whole_sectors L) _ k

  accept_by : (l : List ℕ) → length l ≡ length L → too_high (pages l) ≡ false → accepted l ≡ true
  unfolding accepted
  accept_by l e h = rw (whole_same l e, h)

  -- no Freeing page
  pub accept-rest : (l : List ℕ) → length l ≡ length L → Rest l → accepted l ≡ true
  accept-rest l e R =
      accept_by l e (none_freeing (pages l) (freeings_none (pages l) (λ p m. rw (page-state l p m) (R.no-freeing p.sector (pages_in l p m).1))))

module _ (L : List ℕ) (s : ℕ) (G : Good L s) (small : (i : ℕ) → get_or L i 0 < 256) (ok : accepted L ≡ true) where
  old-low : (p : Page) → Old L s p → sequence p < 0xFFFFFFF1
  old-low p k = let a = old-sequence L s p k in let b = G.below p.sector k.1 k.3 in omega arith

  module _ (l : List ℕ) (D : Side L l s) (R : Source L l s) where
    source-low : (p : Page) → p ≡ page_at s l → sequence p < 0xFFFFFFF1
    source-low p k =
        let a : sequence p ≡ sequence_of (sector s L) = ap {B = ℕ} (λ (z : Page). sequence z) k ∙ (source_record L s G l D R).same_sequence in
        let b = G.below s G.here G.page in
        omega arith

    accept-junk : AllFree L l → accepted l ≡ true
    accept-junk F =
        accept_by L ok l D.len (low_one (pages l)
        (freeings_one L s G l D R (λ p m e. ⊎_elim (λ k. k) (λ k. absurd (true≢false e (rw (old-full L s G p k)))) (junk-page L s G l D F p m)))
        (λ p m. ⊎_elim (λ k. source-low p k) (λ k. old-low p k) (junk-page L s G l D F p m)))

    accept_target : (t q : ℕ) → Target L l t q → (M : PageState) → is_free M ≡ false → freeing M ≡ false → state_of (sector t l) ≡ M → accepted l ≡ true
    accept_target t q T M f nf mk =
        accept_by L ok l D.len (low_one (pages l)
        (freeings_one L s G l D R (λ p m e. only p e (target_page L s G l D t q T p m)))
        (λ p m. low p (target_page L s G l D t q T p m)))
      where
        W : TargetRecord M q (seen_of (sector t l))
        W = target_record L s G l D t q T M mk f

        only : (p : Page) → freeing_page p ≡ true → (p ≡ page_at s l) ⊎ ((p ≡ page_at t l) ⊎ Old L s p) → p ≡ page_at s l
        only p e (inl k) = k
        only p e (inr (inl k)) = absurd (true≢false e (ap {B = Bool} (λ (z : Page). freeing_page z) k ∙ ap freeing W.in_state_lem ∙ nf))
        only p e (inr (inr k)) = absurd (true≢false e (rw (old-full L s G p k)))

        low : (p : Page) → (p ≡ page_at s l) ⊎ ((p ≡ page_at t l) ⊎ Old L s p) → sequence p < 0xFFFFFFF1
        low p (inl k) = source-low p k
        low p (inr (inl k)) = let a : sequence p ≡ q = ap {B = ℕ} (λ (z : Page). sequence z) k ∙ W.has-sequence in let b = T.bound in omega arith
        low p (inr (inr k)) = old-low p k

  -- so it is never refused
  pub accept : (l : List ℕ) → State L s l → accepted l ≡ true
  accept l (same k) = rw k ok
  accept l (junk D R t h w F) = accept-junk l D R F
  accept l (partly t q D R T m P) = accept_target l D R t q T Active refl refl m
  accept l (full t q D R T m E) = accept_target l D R t q T Full refl refl m
  accept l (done t q D f T W E) = accept-rest L ok l D.len (done_final L s G small l t q D f T W E).rest
  accept l (gone D f F x) = accept-rest L ok l D.len (gone_final L s G small l D f F x).rest
