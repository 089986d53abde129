-- The text of bytes.
use Rattle.std.specs.Prelude.{ℕ, ◌/◌, ◌%◌, false, List, [], ◌∷◌, codes}
use Rattle.std.specs.List.{flat_map}
use Rattle.std.specs.Fmt.{digit_glyph}

-- a byte as two digits, of base 16 and with small letters
abbrev pub hex_byte : ℕ → List ℕ
hex_byte byte = digit_glyph false (byte / 16) ∷ digit_glyph false (byte % 16) ∷ []

-- the digits of bytes, one byte after the other
abbrev pub hex_digits : List ℕ → List ℕ
hex_digits bytes = flat_map hex_byte bytes

-- the text of bytes: their digits, and a dash where there are none
abbrev pub hex_text : List ℕ → List ℕ
hex_text [] = codes "-"
hex_text (byte ∷ bytes) = hex_digits (byte ∷ bytes)
