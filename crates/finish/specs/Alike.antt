-- Bridge: the two comparisons of stage 2 as one: each item of one page is like some item of the other, by its whole header or by its name. Assumes nothing.
use Rattle.std.specs.Prelude.{Bool, List, ℕ, take}
use Rattle.page.specs.Walk.{Laid}
use Rattle.lists.specs.Lists.{every, some_of}
use Rattle.finish.specs.declared.judge.Alike.{Alike}
use Rattle.finish.specs.declared.judge.Alike.TheVariants.{Header, Name}
use Rattle.finish.specs.Finish.{same_bytes, name_of}

-- of two headers of 32 bytes
unfoldable pub alike_by : Alike → List ℕ → List ℕ → Bool
alike_by Header h g = same_bytes h g
alike_by Name h g = same_bytes (name_of h) (name_of g)

-- an item's header passes the test
unfoldable pub some_item : (List ℕ → Bool) → List Laid → Bool
some_item p ys = some_of (λ (y : Laid). p (take 32 y.raw)) ys

unfoldable pub some_like : Alike → List ℕ → List Laid → Bool
some_like k h ys = some_of (λ (y : Laid). alike_by k h (take 32 y.raw)) ys

unfoldable pub all_like : Alike → List Laid → List Laid → Bool
all_like k xs ys = every (λ (x : Laid). some_like k (take 32 x.raw) ys) xs
