-- Bridge: document 01's own example as a store of demand 3: "an image with sector 0 Blank and sector 1 Full, sequence 7, three readable one-entry items of namespace 1,
-- type 0x01 and different keys, and two Erased entries". The premises can be met, and reclaim then has steps to cut. Assumes nothing.
use Rattle.std.specs.Prelude.{◌≡◌, List, [], ◌∷◌, ◌++◌, ℕ, Ok, replicate}
use Rattle.table.specs.declared.Page.{Page}
use Rattle.table.specs.Table.{pages}
use Rattle.plan.specs.declared.Plan.TheVariants.{Move}
use Rattle.plan.specs.Occurs.{Met}
use Rattle.reclaim.specs.Reclaim.{plan_steps, reclaiming}
use Rattle.power.specs.Demand3.{Store}
use Rattle.power.specs.General.{Unsettled}

-- "sector 1 Full, sequence 7": the state word, the sequence, the version, the CRC
abbrev pub heading : List ℕ
heading = 0xFC ∷ 0xFF ∷ 0xFF ∷ 0xFF ∷ 7 ∷ 0 ∷ 0 ∷ 0 ∷ 0xFE ∷ (replicate 19 0xFF ++ (0xF3 ∷ 0x1A ∷ 0xA2 ∷ 0x88 ∷ []))

-- three entries Written, two Erased, the others Empty
abbrev pub states : List ℕ
states = 0b0010_1010 ∷ 0b1111_1100 ∷ replicate 30 0xFF

-- namespace 1, type 0x01, span 1; its CRC; a key of one letter, and a value
abbrev pub entry : ℕ → ℕ → ℕ → ℕ → ℕ → ℕ → List ℕ
entry c0 c1 c2 c3 letter value = 1 ∷ 1 ∷ 1 ∷ 0xFF ∷ c0 ∷ c1 ∷ c2 ∷ c3 ∷ letter ∷ (replicate 15 0 ++ (value ∷ replicate 7 0xFF))

abbrev pub first : List ℕ
first = entry 0xA8 0x74 0xBC 0x50 0x61 0

abbrev pub second : List ℕ
second = entry 0x1E 0xDD 0x08 0xC4 0x62 1

abbrev pub third : List ℕ
third = entry 0xDA 0xBF 0xA2 0xCB 0x63 2

abbrev pub page : List ℕ
page = heading ++ (states ++ (first ++ (second ++ (third ++ (first ++ (second ++ replicate 3872 0xFF))))))

-- "sector 0 Blank"
abbrev pub image : List ℕ
image = replicate 4096 0xFF ++ page

-- it meets the premises of demand 3 and of its general form, and reclaim moves its page to sector 0, with the next sequence
pub record Example : Type 0 where
  pub store : Store image
  pub unsettled : Unsettled image
  pub moves : reclaiming image ≡ plan_steps image (Ok (Move 1 0 8))
  -- it meets the premises of document 02, No. 12, too: no page is Active, and one is chosen
  pub chooses : (x : Page) × Met (pages image) x
