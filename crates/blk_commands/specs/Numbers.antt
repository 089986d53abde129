-- Which number a word says.
use Rattle.std.specs.Prelude.{ℕ, ◌^◌, ◌+◌, ◌==◌, ◌&&◌, not, nat_lt, ℤ, pos, neg_ℤ, Bool, List}
use Rattle.std.specs.Prelude.{length, drop, slice_index, Option, Some, None, option_map}
use Rattle.std.specs.Prelude.{if◌then◌else◌}
use Rattle.std.specs.Char.{is_ascii_digit}
use Rattle.std.specs.List.{list_all}
use Rattle.std.specs.Str.Parse.{digits_value}

-- whether a word is a number below this bound: digits alone, and at least one
abbrev pub is_number_below : ℕ → List ℕ → Bool
is_number_below bound word =
    not (length word == 0) && list_all is_ascii_digit word && nat_lt (digits_value 10 word) bound

-- the number below this bound that a word says, if it is one
abbrev pub number_below : ℕ → List ℕ → Option ℕ
number_below bound word = if is_number_below bound word then Some (digits_value 10 word) else None

-- the number of so many bits
abbrev pub number_of : ℕ → List ℕ → Option ℕ
number_of bits word = number_below (2 ^ bits) word

-- ---- with a sign

-- whether this byte is the first of a word
abbrev pub begins_with : ℕ → List ℕ → Bool
begins_with byte word = slice_index word 0 == byte

-- whether a word begins with a minus
abbrev pub is_negative : List ℕ → Bool
is_negative word = begins_with 45 word

-- what a word has behind its minus, or all of it where it has none
abbrev pub magnitude_of : List ℕ → List ℕ
magnitude_of word = if is_negative word then drop 1 word else word

-- the number of 64 bits that a word says, of which one is its sign: digits, with a minus before
-- them or without. It is at most 2 ^ 63 below zero, and less than that above
abbrev pub signed_number_of : List ℕ → Option ℤ
signed_number_of word =
    if is_negative word
    then option_map (λ n. neg_ℤ (pos n)) (number_below (2 ^ 63 + 1) (magnitude_of word))
    else option_map pos (number_below (2 ^ 63) (magnitude_of word))
