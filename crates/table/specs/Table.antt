-- Rule. Document 01, Recovery: "Page list: sectors ascending. Free list the same; the last is taken first, and an erased sector joins at the end." Assumes
-- nothing.
use Rattle.std.specs.Prelude.{Bool, true, false, cond, ◌&&◌, List, [], ◌∷◌, ◌++◌, ℕ, zero, suc, ◌/◌, ◌%◌, eqb, leb, ◌≡◌, length, take}
use Rattle.flash.specs.Step.{sector}
use Rattle.page.specs.declared.state.PageState.{PageState}
use Rattle.page.specs.declared.state.PageState.TheVariants.{Blank, Corrupt, Active, Full, Freeing}
use Rattle.page.specs.State.{state_of, is_free}
use Rattle.page.specs.Record.{seen_of}
use Rattle.page.specs.Walk.{Laid, walk}
use Rattle.table.specs.declared.Page.{Page}
use Rattle.table.specs.declared.Table.{Table}

-- "image not 2 to 16 whole sectors" is result 1
abbrev pub sectors_of : List ℕ → ℕ
sectors_of l = length l / 4096

unfoldable pub whole_sectors : List ℕ → Bool
whole_sectors l = eqb (length l % 4096) 0 && (leb 2 (sectors_of l) && leb (sectors_of l) 16)

-- the page in sector u
abbrev pub page_at : ℕ → List ℕ → Page
page_at u l = record { sector = u; seen = seen_of (sector u l) }

-- "Page list: sectors ascending": of the first n sectors
unfoldable pub pages_to : List ℕ → ℕ → List Page
pages_to l zero = []
pages_to l (suc n) = pages_to l n ++ cond (is_free (state_of (sector n l))) [] (page_at n l ∷ [])

-- "Free list the same"
unfoldable pub frees_to : List ℕ → ℕ → List ℕ
frees_to l zero = []
frees_to l (suc n) = frees_to l n ++ cond (is_free (state_of (sector n l))) (n ∷ []) []

unfoldable pub pages : List ℕ → List Page
pages l = pages_to l (sectors_of l)

unfoldable pub frees : List ℕ → List ℕ
frees l = frees_to l (sectors_of l)

-- the items of a listed page, on the image as it stands
unfoldable pub items_in : ℕ → List ℕ → List Laid
items_in u l = walk (sector u l) 126 0

abbrev pub sequence : Page → ℕ
sequence p = p.seen.sequence

abbrev pub active : PageState → Bool
active Blank = false
active Corrupt = false
active Active = true
active Full = false
active Freeing = false

abbrev pub freeing : PageState → Bool
freeing Blank = false
freeing Corrupt = false
freeing Active = false
freeing Full = false
freeing Freeing = true

abbrev pub active_page : Page → Bool
active_page p = active p.seen.state

abbrev pub freeing_page : Page → Bool
freeing_page p = freeing p.seen.state

abbrev pub in_sector : ℕ → Page → Bool
in_sector s p = eqb p.sector s

-- the same page, counting as Full
abbrev pub as_full : Page → Page
as_full p =
    record {
      sector = p.sector;
      seen = record { state = Full; sequence = p.seen.sequence; written = p.seen.written; erased = p.seen.erased; empty = p.seen.empty; illegal = p.seen.illegal };
    }

-- the lists that a table holds
abbrev pub listed : Table → List Page
listed t = take t.count t.pages

abbrev pub freed : Table → List ℕ
freed t = take t.free_count t.free

-- it holds the page list ps and the free list fs
pub record Holds (t : Table) (ps : List Page) (fs : List ℕ) : Type 0 where
  pub list : listed t ≡ ps
  pub free : freed t ≡ fs
