-- A page is chosen where one is below 126 Written, and a free sector is taken where there is one. Assumes nothing.
use mathlib.Core.Path.{◌≡◌, refl}
use mathlib.Core.Bool.{true, false}
use mathlib.Core.Option.{none, some}
use mathlib.Core.List.{List, [], ◌∷◌, get_last?}
use Prim.Native.Nat.{ℕ}
use Rattle.lists.specs.Lists.{some_of}
use Rattle.lists.proofs.Member.{true≢false, none≢some, refuted}
use Rattle.lists.proofs.Search.{some_is}
use Rattle.table.specs.declared.Page.{Page}
use Rattle.plan.specs.Plan.{candidate, chosen}
use Rattle.plan.proofs.Chosen.{chosen_in, some_chosen}
use Rattle.reclaim.specs.Promise.{no_sector_free}

module _ (ps : List Page) where
  pub chosen_none : chosen ps ≡ none → some_of candidate ps ≡ false
  chosen_none e = refuted (some_of candidate ps) (λ h. none≢some e (some_chosen ps h).1)

  pub chosen_some : {x : Page} → chosen ps ≡ some x → some_of candidate ps ≡ true
  chosen_some {x} e = let c = chosen_in ps e in some_is candidate ps x c.0 c.1

pub last_none : (fs : List ℕ) → get_last? fs ≡ none → no_sector_free fs ≡ true
last_none [] e = refl
last_none (f ∷ fs) e = absurd (none≢some e refl)

pub last_some : (fs : List ℕ) {t : ℕ} → get_last? fs ≡ some t → no_sector_free fs ≡ false
last_some [] e = absurd (none≢some refl e)
last_some (f ∷ fs) e = refl

pub none_free : (fs : List ℕ) → no_sector_free fs ≡ true → fs ≡ []
none_free [] e = refl
none_free (f ∷ fs) e = absurd (true≢false {b = false} e refl)
