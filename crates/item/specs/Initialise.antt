-- Rule. Document 01, The flash model and the allowance: "Initialise a sector: erase it if not Blank; program words 1 to 7 ascending, then word 0 as Active.
-- Version 0xFE." Assumes nothing.
use Rattle.std.specs.Prelude.{cond, List, [], ◌∷◌, ◌++◌, ℕ, ◌*◌, ◌/◌, ◌%◌, replicate}
use Rattle.crc.specs.Crc.{crc_of}
use Rattle.page.specs.State.{all_ones}
use Rattle.flash.specs.Step.{Step, erase, sector}
use Rattle.flash.specs.Words.{words}

-- "erase it if not Blank", judged on the bytes as they stand
unfoldable pub clearing : ℕ → List ℕ → List Step
clearing s l = cond (all_ones (sector s l)) [] (erase s ∷ [])

-- the four bytes of a number: "numbers little-endian"
unfoldable pub bytes4 : ℕ → List ℕ
bytes4 n = n % 256 ∷ n / 256 % 256 ∷ n / 65536 % 256 ∷ n / 16777216 % 256 ∷ []

-- "4-7 sequence, 8 version, 9-27 0xFF": what the header's CRC is taken of
unfoldable pub body : ℕ → List ℕ
body q = bytes4 q ++ (0xFE ∷ replicate 19 0xFF)

-- the header of an Active page with sequence q: "Bytes 0-3 state", "28-31 CRC of bytes 4-27", "Active 0xFFFFFFFE"
unfoldable pub header : ℕ → List ℕ
header q = 0xFE ∷ 0xFF ∷ 0xFF ∷ 0xFF ∷ (body q ++ bytes4 (crc_of (body q)))

-- initialise sector s with the header h: "words 1 to 7 ascending, then word 0"
unfoldable pub initialising : ℕ → List ℕ → List ℕ → List Step
initialising s h l = clearing s l ++ (words (s * 4096) h 1 7 ++ words (s * 4096) h 0 1)
