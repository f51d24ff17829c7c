-- Where recovery, with no Active and no Freeing page, leaves the image as it is, it makes no step. Assumes nothing.
use mathlib.Core.Path.{◌∙◌, ◌≡◌, ap, sym}
use mathlib.Core.Logic.{⊎_elim}
use mathlib.Core.Bool.{◌&&◌, false}
use mathlib.Core.Option.{none}
use mathlib.Core.List.{List, []}
use Prim.Native.Nat.{◌%◌, ◌*◌, ◌+◌, ◌/◌, ◌<◌, ◌^◌, ℕ}
use native.Mathlib.Omega.{arith}
use lib.ListN.{drop}
use lib.Seq.{get_or-take}
use Rattle.entry.specs.States.{state_at}
use Rattle.page.specs.Walk.{Laid}
use Rattle.flash.specs.Step.{Step, run, sector}
use Rattle.lists.proofs.Search.{keep_none}
use Rattle.lists.proofs.Maps.{flat_map_in, map_in}
use Rattle.lists.proofs.Member.{◌∈◌}
use Rattle.table.specs.declared.Page.{Page}
use Rattle.table.specs.Table.{active_page, freeing_page, items_in, pages, sectors_of}
use Rattle.table.proofs.Pages.{pages_in}
use Rattle.order.specs.Order.{kept}
use Rattle.found.specs.Found.{Found, found, found_on}
use Rattle.blobs.specs.Blobs.{blob_steps}
use Rattle.duplicates.specs.Duplicates.{duplicate_stage, duplicate_steps, last_marks}
use Rattle.finishing.specs.Finishing.{freeings}
use Rattle.page.proofs.Items.{IsItem, Real, walk_in}
use Rattle.power.proofs.Quiet.{freeings_none, no-kept, order_none}
use Rattle.power.proofs.Hits.{Hit, blobs-hit, dup_hit, hit_left}
use Rattle.found.proofs.Spanned.{found_spanned}
use Rattle.page.proofs.Read.{no_room}
use Rattle.power.proofs.Plain.{onward, plain, stages}
use Rattle.power.proofs.Zeros.{Prog, hit-zero}
use Rattle.power.proofs.Programs.{stage_prog}

dup_into : (L : List ℕ) → blob_steps (found (pages L) L) ≡ [] → Hit (found (pages L) L) (duplicate_steps (found (pages L) L)) → Hit (found (pages L) L) (stages (pages L) L)
unfolding stages duplicate_stage run
dup_into L b k = rw b (hit_left (found (pages L) L) (duplicate_steps (found (pages L) L)) _ k)

none_into : (L : List ℕ) → ((p : Page) → p ∈ pages L → active_page p ≡ false) → blob_steps (found (pages L) L) ≡ [] → duplicate_steps (found (pages L) L) ≡ []
    → stages (pages L) L ≡ []
unfolding stages duplicate_stage run last_marks
none_into L na b d = rw (b, d, keep_none (λ (p : Page). active_page p && no_room (sector p.sector L)) (pages L) (λ p m. rw (na p m)))

module _ (L : List ℕ) (na : (p : Page) → p ∈ pages L → active_page p ≡ false) where
  abbrev fs : List Found
  fs = found (pages L) L

  -- a found item: its page, its entry Written
  abbrev At : Found → Type 0
  At x = (x.sector < sectors_of L) × IsItem (sector x.sector L) x.entry

  found_at : (x : Found) → x ∈ fs → At x
  unfolding found found_on items_in
  found_at x m =
      let g = flat_map_in (found_on L) (pages L) x m in
      let k = map_in _ (items_in g.0.sector L) x g.2 in
      at x g.0 k.0 (pages_in L g.0 g.1).1 (walk_in (sector g.0.sector L) 126 0 k.0 k.1) k.2
    where
      at : (x : Found) (p : Page) (i : Laid) → p.sector < sectors_of L → Real (sector p.sector L) i
          → x ≡ record { sector = p.sector; sequence = p.seen.sequence; entry = i.entry; raw = i.raw } → At x
      at x p i h r e = rw e (h, r.is)

  state_in : (s e : ℕ) → e < 126 → state_at (drop (s * 4096) L) e ≡ state_at (sector s L) e
  unfolding state_at sector
  state_in s e h = ap (λ (v : ℕ). v / 2 ^ (2 * (e % 4)) % 4) (sym (get_or-take 4096 (drop (s * 4096) L) (32 + e / 4) 0 (omega arith)))

  -- a step that erases is seen in the image
  no_hit : (ss : List Step) → ((st : Step) → st ∈ ss → Prog st) → run ss L ≡ L → Hit fs ss → ⊥
  no_hit ss f e h =
      let r = found_at h.0 h.1 in
      let a = r.1.some in
      let b = r.1.ends in
      let z = hit-zero (h.0.sector * 4096) h.0.entry ss L (omega (arith, r.0)) (omega arith) f h.2 in
      let y : state_at (drop (h.0.sector * 4096) L) h.0.entry ≡ 0 = rw e at z in
      let x = state_in h.0.sector h.0.entry (omega arith) in
      let w = r.1.is_written in
      omega arith

  stage_none : run (stages (pages L) L) L ≡ L → stages (pages L) L ≡ []
  stage_none e =
      let b : blob_steps fs ≡ [] = ⊎_elim (λ k. k) (λ k. absurd (no_hit (stages (pages L) L) (stage_prog (pages L) L) e (in_stage_lem k))) (blobs-hit fs (found_spanned (pages L) L)) in
      let d : duplicate_steps fs ≡ [] = ⊎_elim (λ k. k) (λ k. absurd (no_hit (stages (pages L) L) (stage_prog (pages L) L) e (dup_into L b k))) (dup_hit fs (found_spanned (pages L) L)) in
      none_into L na b d
    where
      in_stage_lem : Hit fs (blob_steps fs) → Hit fs (stages (pages L) L)
      in_stage_lem k = unfold stages in hit_left fs (blob_steps fs) _ k

rec_is : (l : List ℕ) → kept (pages l) ≡ none → freeings (pages l) ≡ 0 → plain l ≡ stages (pages l) l
unfolding plain run onward
rec_is l e z = let o = order_none l e in rw (o.0, o.1, z)

-- so the list of steps is empty
pub no_steps : (L : List ℕ) → ((p : Page) → p ∈ pages L → active_page p ≡ false) → ((p : Page) → p ∈ pages L → freeing_page p ≡ false) → run (plain L) L ≡ L → plain L ≡ []
no_steps L na nf e =
    let r = rec_is L (no-kept L na) (freeings_none (pages L) nf) in
    r ∙ stage_none L na (rw r at e)
