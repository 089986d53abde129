-- Which bytes a word says.
use Rattle.std.specs.Prelude.{◌≡◌, ◌≢◌, ℕ, ◌==◌, ◌&&◌, not, Bool, List, [], length, codes, bytes_eq}
use Rattle.std.specs.Prelude.{Option, Some, None, if◌then◌else◌}
use Rattle.std.specs.Char.{is_ascii_uppercase}
use Rattle.std.specs.List.{list_all}
use Rattle.std.specs.Result.{result_ok}
use Rattle.hex.specs.Hex.{IsBytes, decode_of}
use Rattle.blocking_world_laws.specs.Hex.{hex_text}

-- whether a word may be digits of bytes: it isn't empty, and no letter is a capital
abbrev pub may_be_digits : List ℕ → Bool
may_be_digits word = not (length word == 0) && list_all (λ byte. not (is_ascii_uppercase byte)) word

-- the bytes that a word says, if it says any: two digits a byte, of base 16 and with small letters,
-- and a dash for none
abbrev pub bytes_of : List ℕ → Option (List ℕ)
bytes_of word =
    if bytes_eq word (codes "-") then Some []
    else (if may_be_digits word then result_ok (decode_of word) else None)

-- what a word says: bytes exactly where it is the text by which they are shown
abbrev pub SaysBytes : List ℕ → Option (List ℕ) → Type 0
SaysBytes word (Some bytes) = IsBytes bytes × (hex_text bytes ≡ word)
SaysBytes word None = (bytes : List ℕ) → IsBytes bytes → hex_text bytes ≢ word
