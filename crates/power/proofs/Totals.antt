-- Sums over the items of a store: by the found items of the page list, and by sectors. Assumes nothing.
use mathlib.Core.Path.{◌∙◌, ◌≡◌, refl, sym}
use mathlib.Core.Bool.{Bool, cond, false, true}
use mathlib.Core.List.{List}
use Prim.Native.Nat.{ℕ}
use Rattle.page.specs.State.{is_free, state_of}
use Rattle.page.specs.Walk.{Laid, items_of}
use Rattle.flash.specs.Step.{sector}
use Rattle.lists.specs.Lists.{sum_of, sum_to}
use Rattle.lists.proofs.Sums.{sum_ext}
use Rattle.lists.proofs.Maps.{sum-flat_map, sum-map}
use Rattle.lists.proofs.Range.{sum_to_ext}
use Rattle.table.specs.declared.Page.{Page}
use Rattle.table.specs.Table.{items_in, pages, sectors_of}
use Rattle.table.proofs.Pages.{sum-pages, listed-items}
use Rattle.found.specs.Found.{Found, found, found_on}
use Rattle.power.specs.Demand3.{stored, total}
use Rattle.quick.specs.Calm.{tot}
use Rattle.page.proofs.Items.{free_none}

-- f summed over the items of sector u
abbrev pub on_sector : (List ℕ → ℕ) → List ℕ → ℕ → ℕ
on_sector f l u = sum_of (λ (i : Laid). f i.raw) (items_of (sector u l))

-- the same by the walk alone
abbrev pub walked : (List ℕ → ℕ) → List ℕ → ℕ → ℕ
walked f l u = sum_of (λ (i : Laid). f i.raw) (items_in u l)

-- over the items found on a list of pages
pub found_total : (f : List ℕ → ℕ) (ps : List Page) (l : List ℕ) → tot f (found ps l) ≡ sum_of (λ (p : Page). walked f l p.sector) ps
unfolding found found_on
found_total f ps l =
    sum-flat_map (λ (x : Found). f x.raw) (found_on l) ps
    ∙ sum_ext _ _ ps (λ p m. sum-map (λ (x : Found). f x.raw) (λ (i : Laid). record { sector = p.sector; sequence = p.seen.sequence; entry = i.entry; raw = i.raw }) (items_in p.sector l))

-- over the items of the store, page by page
pub total-walked : (f : List ℕ → ℕ) (l : List ℕ) → total f l ≡ sum_of (λ (p : Page). walked f l p.sector) (pages l)
unfolding total stored
total-walked f l = sum-flat_map (λ (i : Laid). f i.raw) (λ (p : Page). items_in p.sector l) (pages l)

-- the items of the store are those found on its page list
pub total_found : (f : List ℕ → ℕ) (l : List ℕ) → tot f (found (pages l) l) ≡ total f l
total_found f l = found_total f (pages l) l ∙ sym (total-walked f l)

-- sector by sector: a free sector has none
pub total-sectors : (f : List ℕ → ℕ) (l : List ℕ) → total f l ≡ sum_to (on_sector f l) (sectors_of l)
unfolding sum_of
total-sectors f l = total-walked f l ∙ sum-pages l (λ (p : Page). walked f l p.sector) ∙ sum_to_ext _ _ (sectors_of l) (λ u h. go u (is_free (state_of (sector u l))) refl)
  where
    go : (u : ℕ) (b : Bool) → is_free (state_of (sector u l)) ≡ b → cond b 0 (walked f l u) ≡ on_sector f l u
    go u true e = rw (free_none (sector u l) e)
    go u false e = rw (listed-items u l e)
