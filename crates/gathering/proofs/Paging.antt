-- A page of the list: it lies in the image, the walk of its sector stores the places on it, and they and those on the pages behind it are the list's. Assumes
-- nothing.
use mathlib.Core.Path.{◌≡◌, sym, ap, ◌∙◌}
use mathlib.Core.List.{List, ◌++◌, append_assoc, map, map-map, map-append, flat_map, ◌∷◌}
use Prim.Native.Nat.{ℕ, ◌+◌, ◌*◌, ◌<◌}
use lib.ListN.{length, get_or}
use Rattle.flash.specs.Step.{sector}
use Rattle.page.specs.Walk.{Laid, walk}
use Rattle.table.specs.declared.Page.{Page}
use Rattle.table.specs.Table.{items_in}
use Rattle.table.proofs.Places.{in_list}
use Rattle.lists.specs.Each.{Each}
use Rattle.lists.proofs.Each.{of_each}
use Rattle.found.specs.Places.{place_of, Lies}
use Rattle.found.specs.Found.{found, found_on}
use Rattle.found.proofs.Finding.{found_as}

-- a page of the list, of which a call lends ys, lies in the image
pub page_lies : (l : List ℕ) (ps ys : List Page) → Each (Lies l) ps → ys ≡ ps → (i : ℕ) (d : Page) → i < length ys → Lies l (get_or ys i d)
page_lies l ps ys h same i d k = of_each (Lies l) ps h _ (in_list ps ys same i d k)

module _ (l : List ℕ) (p : Page) where
  pub walked_page : (u : ℕ) → u ≡ p.sector → map (λ (x : Laid). u * 128 + 2 + x.entry) (walk (sector u l) 126 0) ≡ map place_of (found_on l p)
  unfolding found_on items_in
  walked_page u e = rw e (sym (map-map place_of (found_as p) (walk (sector p.sector l) 126 0)))

  pub page_more : (ps : List Page) (front : List ℕ) → (front ++ map place_of (found_on l p)) ++ map place_of (found ps l) ≡ front ++ map place_of (found (p ∷ ps) l)
  unfolding found flat_map
  page_more ps front =
      append_assoc front _ _ ∙ ap (λ (xs : List ℕ). front ++ xs) (sym (map-append place_of (found_on l p) (found ps l)))
