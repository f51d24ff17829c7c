-- Recovery's steps without their stages: the same list, by the same rules. Assumes nothing.
use mathlib.Core.Path.{◌∙◌, ◌≡◌, ap, refl}
use mathlib.Core.Option.{Option, none, some}
use mathlib.Core.List.{List, [], ◌++◌}
use Prim.Native.Nat.{suc, zero, ℕ}
use Rattle.flash.specs.Step.{Step, run}
use Rattle.lists.specs.Lists.{first_of}
use Rattle.table.specs.declared.Page.{Page}
use Rattle.table.specs.Table.{freeing_page, frees, pages}
use Rattle.answer.specs.declared.Stage.{Stage}
use Rattle.answer.specs.declared.Stage.TheVariants.{Blobs, Duplicates, Finish, Order}
use Rattle.answer.specs.Staged.{Staged, tag, untag}
use Rattle.answer.proofs.Made.{untag-append, untag-only}
use Rattle.order.specs.Order.{ordered, ordering}
use Rattle.finish.specs.Finish.{round}
use Rattle.found.specs.Found.{found}
use Rattle.blobs.specs.Blobs.{blob_steps}
use Rattle.duplicates.specs.Duplicates.{duplicate_stage}
use Rattle.finishing.specs.Finishing.{finish_from, finishing, freeings}
use Rattle.stages.specs.Stages.{after_order, from_finish, from_order, last_stages, recovering}

-- 2, as `finishing`
unfoldable pub finish_with : (Page → List Step) → Option Page → List Step
finish_with f none = []
finish_with f (some x) = f x

unfoldable pub finish : ℕ → List Page → List ℕ → List ℕ → List Step
finish zero ps fs l = []
finish (suc n) ps fs l =
    finish_with (λ (x : Page). let w = round x ps fs l in w.steps ++ finish n w.list w.free (run w.steps l)) (first_of freeing_page ps)

-- 3 and 4, as `last_stages`
unfoldable pub stages : List Page → List ℕ → List Step
stages ps l = let b = blob_steps (found ps l) in b ++ duplicate_stage ps (run b l)

-- 1, 3 and 4, as `from_order`
unfoldable pub order_on : List Page → List ℕ → List Step
order_on ps l = ordering ps ++ stages (ordered ps) (run (ordering ps) l)

-- what comes after the steps f of the finish stage: the scan, and 1 again
abbrev pub rescan : List Step → List ℕ → List Step
rescan f l = order_on (pages (run f l)) (run f l)

-- 2, and then that, as `from_finish`
unfoldable pub finish_on : List Page → List ℕ → List ℕ → List Step
finish_on ps fs l = let f = finish (freeings ps) ps fs l in f ++ rescan f l

unfoldable pub onward : ℕ → List Page → List ℕ → List ℕ → List Step
onward zero ps fs l = stages ps l
onward (suc k) ps fs l = finish_on ps fs l

-- the whole list
unfoldable pub plain : List ℕ → List Step
plain l = ordering (pages l) ++ onward (freeings (ordered (pages l))) (ordered (pages l)) (frees l) (run (ordering (pages l)) l)

-- ---- the same list

untag-tag : (x : Stage) (ss : List Step) (ts : List Staged) → untag (tag x ss ++ ts) ≡ ss ++ untag ts
untag-tag x ss ts = untag-append (tag x ss) ts ∙ rw (untag-only x ss)

finish_same : (n : ℕ) (ps : List Page) (fs l : List ℕ) → untag (finishing n ps fs l) ≡ finish n ps fs l
unfolding finish finishing untag
finish_same zero ps fs l = refl
finish_same (suc n) ps fs l = go (first_of freeing_page ps) (λ qs gs m. finish_same n qs gs m)
  where
    go : (o : Option Page) → ((qs : List Page) (gs m : List ℕ) → untag (finishing n qs gs m) ≡ finish n qs gs m)
        → untag
        (finish_from (λ (x : Page). tag (Finish x.sector) (round x ps fs l).steps ++ finishing n (round x ps fs l).list (round x ps fs l).free (run (round x ps fs l).steps l)) o)
        ≡ finish_with (λ (x : Page). (round x ps fs l).steps ++ finish n (round x ps fs l).list (round x ps fs l).free (run (round x ps fs l).steps l)) o
    go none ih = unfold finish_from finish_with in refl
    go (some x) ih =
        unfold finish_from finish_with in (untag-tag (Finish x.sector) (round x ps fs l).steps _ ∙ ap {B = List Step} (λ (r : List Step). (round x ps fs l).steps ++ r) (ih _ _ _))

stages_same : (ps : List Page) (l : List ℕ) → untag (last_stages ps l) ≡ stages ps l
unfolding last_stages stages
stages_same ps l = untag-tag Blobs (blob_steps (found ps l)) _ ∙ ap {B = List Step} (λ (r : List Step). blob_steps (found ps l) ++ r) (untag-only Duplicates _)

order_same : (ps : List Page) (l : List ℕ) → untag (from_order ps l) ≡ order_on ps l
unfolding from_order order_on
order_same ps l = untag-tag Order (ordering ps) _ ∙ ap {B = List Step} (λ (r : List Step). ordering ps ++ r) (stages_same (ordered ps) _)

finished_same : (ps : List Page) (fs l : List ℕ) → untag (from_finish ps fs l) ≡ finish_on ps fs l
unfolding from_finish finish_on
finished_same ps fs l =
    let e = finish_same (freeings ps) ps fs l in
    untag-append (finishing (freeings ps) ps fs l) _ ∙ rw (e, order_same (pages (run (finish (freeings ps) ps fs l) l)) (run (finish (freeings ps) ps fs l) l))

onward_same : (k : ℕ) (ps : List Page) (fs l : List ℕ) → untag (after_order k ps fs l) ≡ onward k ps fs l
unfolding after_order onward
onward_same zero ps fs l = stages_same ps l
onward_same (suc k) ps fs l = finished_same ps fs l

-- it is recovery's list without the stages
pub plain_same : (l : List ℕ) → untag (recovering l) ≡ plain l
unfolding recovering plain
plain_same l =
    untag-tag Order (ordering (pages l)) _
    ∙ ap {B = List Step} (λ (r : List Step). ordering (pages l) ++ r) (onward_same (freeings (ordered (pages l))) (ordered (pages l)) (frees l) _)
