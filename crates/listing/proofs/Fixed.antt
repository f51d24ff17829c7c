-- What the listing's contract fixes: two outcomes that it allows are the same, and with room enough the whole text stands there. Assumes nothing.
use mathlib.Core.Path.{◌≡◌, sym, ap, ap₂, ◌∙◌}
use mathlib.Core.List.{List, ◌++◌}
use Prim.Native.Nat.{ℕ, ◌^◌, ◌≤◌, ◌<◌}
use native.Mathlib.Omega.{arith}
use lib.ListN.{length, take, drop, take-append-drop}
use lib.Seq.{take_all}
use Rattle.flash.proofs.Small.{Small}
use Rattle.io.specs.Counts.{IsPrefixLen}
use Rattle.listing.specs.Listing.{listing, room, Listed}
use Rattle.listing.proofs.Room.{listing-fits}

module _ (l : List ℕ) (bytes : ℕ) (xs : List ℕ) where
  -- as many bytes as the text has, or as there is room for
  count : (m ys : List ℕ) (r : ℕ) → IsPrefixLen r ys → Listed l bytes m xs ys r → r ≡ length (take (length xs) (listing l bytes))
  count m ys r c p = c.1 ∙ ap length p.text

  pub listed_same : (m m' ys ys' : List ℕ) (r r' : ℕ) → IsPrefixLen r ys → IsPrefixLen r' ys' → Listed l bytes m xs ys r → Listed l bytes m' xs ys' r' → (m ≡ m') × (ys ≡ ys') × (r ≡ r')
  listed_same m m' ys ys' r r' c c' p q =
      let e : r ≡ r' = count m ys r c p ∙ sym (count m' ys' r' c' q) in
      let front : take r ys ≡ take r' ys' = p.text ∙ sym q.text in
      let back : drop r ys ≡ drop r' ys' = p.rest ∙ ap (λ (k : ℕ). drop k xs) e ∙ sym q.rest in
      (p.image ∙ sym q.image, sym (take-append-drop r ys) ∙ ap₂ (λ (a b : List ℕ). a ++ b) front back ∙ take-append-drop r' ys', e)

  pub listed_whole : (m ys : List ℕ) (r : ℕ) → Small l → bytes < 2 ^ 64 → room ≤ length xs → Listed l bytes m xs ys r → take r ys ≡ listing l bytes
  listed_whole m ys r small k enough p = p.text ∙ take_all (length xs) (listing l bytes) (omega (arith, listing-fits l bytes small k, enough))
