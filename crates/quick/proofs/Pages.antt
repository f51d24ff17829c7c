-- One page more: the places on it, and the table filled with their items, or stopped at one of them. Assumes nothing.
use mathlib.Core.Path.{◌≡◌, sym, ap, ◌∙◌}
use mathlib.Core.List.{List, [], ◌∷◌, ◌++◌, append_assoc, append-nil, flat_map, map}
use Prim.Native.Nat.{ℕ}
use Rattle.table.specs.declared.Page.{Page}
use Rattle.found.specs.Found.{found, found_on}
use Rattle.found.specs.Places.{place_of, Lies, Placed}
use Rattle.lists.specs.Each.{Each}
use Rattle.found.proofs.Finding.{found_placed}
use Rattle.gathering.proofs.Paging.{page_more}
use Rattle.slots.specs.Named.{Filled, Named, Stopped}

-- the table has the items of the pages before, where `pages` are those from here on, and `all` the places on all of them
abbrev pub SoFar : List ℕ → List ℕ → List Page → List ℕ → Type 0
SoFar t l pages all = (xs : List ℕ) × Named t l xs × (xs ++ map place_of (found pages l) ≡ all)

module _ (l : List ℕ) (p : Page) where
  abbrev pub places_on : List ℕ
  places_on = map place_of (found_on l p)

  pub page_placed : Lies l p → Each (Placed l) places_on
  unfolding found flat_map Each
  page_placed lies = rw (sym (append-nil places_on) ∙ page_more l p [] []) (found_placed l (p ∷ []) (lies, tt))

  pub page-filled : (t u : List ℕ) (pages : List Page) (all : List ℕ) → Filled t u l places_on → SoFar t l (p ∷ pages) all → SoFar u l pages all
  page-filled t u pages all f s = (s.0 ++ places_on, f.named s.0 s.1, page_more l p pages s.0 ∙ s.2)

  -- where it stops on this page, it stops among the places on all of them
  pub page-stopped : (t u : List ℕ) (pages : List Page) (all : List ℕ) → ((xs : List ℕ) → Named t l xs → Stopped u l (xs ++ places_on)) → SoFar t l (p ∷ pages) all → Stopped u l all
  page-stopped t u pages all f s = rw (page_more l p pages s.0 ∙ s.2) at (more u (s.0 ++ places_on) (map place_of (found pages l)) (f s.0 s.1))
    where
      more : (u ps qs : List ℕ) → Stopped u l ps → Stopped u l (ps ++ qs)
      more u ps qs h =
          record {
            before = h.before;
            place = h.place;
            after = h.after ++ qs;
            all = sym (append_assoc h.before (h.place ∷ h.after) qs) ∙ ap (λ (ys : List ℕ). ys ++ qs) h.all;
            named = h.named;
            judges = h.judges;
            none = h.none;
          }
