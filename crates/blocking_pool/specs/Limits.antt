-- What the text of a setting means.
use Rattle.std.specs.Prelude.{ℕ, ◌^◌, ◌==◌, ◌&&◌, not, nat_lt, max, min, if◌then◌else◌, Bool, List}
use Rattle.std.specs.Prelude.{length, Option, Some, None}
use Rattle.std.specs.Char.{is_ascii_digit}
use Rattle.std.specs.List.{list_all}
use Rattle.std.specs.Str.Parse.{digits_value, without_leading_plus}

-- whether these bytes are decimal digits alone, at least one, of a value below 2 ^ 64
abbrev pub is_number : List ℕ → Bool
is_number digits = not (length digits == 0) && list_all is_ascii_digit digits
    && nat_lt (digits_value 10 digits) (2 ^ 64)

-- the number that a text names: digits, after one plus or none
abbrev pub number_of : List ℕ → Option ℕ
number_of text = if is_number (without_leading_plus text)
    then Some (digits_value 10 (without_leading_plus text)) else None

-- a number brought between 1 and 10000, and 500 where there is none
abbrev pub limit_by : Option ℕ → ℕ
limit_by None = 500
limit_by (Some number) = min 10000 (max 1 number)

-- the limit that a setting names
abbrev pub limit_of_setting : Option (List ℕ) → ℕ
limit_of_setting None = 500
limit_of_setting (Some text) = limit_by (number_of text)
