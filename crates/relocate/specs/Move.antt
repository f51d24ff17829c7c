-- Rule. Document 01, Recovery 2 and Reclaim: "initialise a free sector .., copy the source's items in walk order, .. erase the source". Assumes nothing.
use Rattle.std.specs.Prelude.{List, [], ◌∷◌, ◌++◌, ℕ, ◌+◌, ◌*◌}
use Rattle.entry.specs.Fields.{span_of}
use Rattle.page.specs.Walk.{Laid}
use Rattle.flash.specs.Step.{Step, erase}
use Rattle.item.specs.Initialise.{header, initialising}
use Rattle.item.specs.Copy.{copying}

-- the items one after the other, from entry j on of the page at the address base
unfoldable pub copies : ℕ → ℕ → List Laid → List Step
copies base j [] = []
copies base j (x ∷ xs) = copying base j x.raw ++ copies base (j + span_of x.raw) xs

-- the items xs of sector s to sector t, which becomes a page with sequence q, on the image l
unfoldable pub moving : ℕ → ℕ → ℕ → List Laid → List ℕ → List Step
moving s t q xs l = initialising t (header q) l ++ (copies (t * 4096) 0 xs ++ (erase s ∷ []))
