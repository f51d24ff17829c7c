-- Rule. Document 01, Sector layout: "A type byte is judged by its value: 0x01, 0x02, 0x04, 0x08, 0x11, 0x12, 0x14, 0x18, 0x21, 0x41, 0x42 (chunk), 0x48 (blob
-- index); others are not known." A whole number's kind tells its width in bytes and whether it has a sign (ESP-IDF NVS document). Assumes nothing.
use Rattle.std.specs.Prelude.{Bool, true, false, cond, ℕ, eqb}
use Rattle.entry.specs.declared.kinds.Kind.{Kind}
use Rattle.entry.specs.declared.kinds.Kind.TheVariants.{Unsigned, Signed, Text, Blob, Chunk, Index, Unknown}

unfoldable pub kind_of : ℕ → Kind
kind_of c =
    cond (eqb c 0x01) (Unsigned 1)
    (cond (eqb c 0x02) (Unsigned 2)
    (cond (eqb c 0x04) (Unsigned 4)
    (cond (eqb c 0x08) (Unsigned 8)
    (cond (eqb c 0x11) (Signed 1)
    (cond (eqb c 0x12) (Signed 2)
    (cond (eqb c 0x14) (Signed 4)
    (cond (eqb c 0x18) (Signed 8)
    (cond (eqb c 0x21) Text
    (cond (eqb c 0x41) Blob
    (cond (eqb c 0x42) Chunk
    (cond (eqb c 0x48) Index
    Unknown)))))))))))

abbrev pub known : Kind → Bool
known (Unsigned n) = true
known (Signed n) = true
known Text = true
known Blob = true
known Chunk = true
known Index = true
known Unknown = false
