-- What `parse` makes of a word of digits, and what stands behind its first letter.
use Rattle.std.proofs.Common.{◌≡◌, ◌≢◌, ℕ, ◌^◌, ◌<◌, ◌≤◌, ◌+◌, ◌∷◌, ℤ, pos, neg_ℤ, Bool, true}
use Rattle.std.proofs.Common.{false, drop, List, [], length, Option, Some, None, Result, Ok, Err}
use Rattle.std.proofs.Common.{refl, sym, ap, arith}
use Rattle.std.proofs.lemmas.Str.Parse.{parse_digits, parse_signed_digits, parse_signed_minus}
use Rattle.std.proofs.lemmas.Str.Pattern.{strip_prefix_char}
use Rattle.std.proofs.lemmas.Grind.{common_steps}
use Rattle.std.proofs.lemmas.Bool.{eq-eqb, eqb-true, ne_eqb}
use Rattle.std.specs.Char.{is_ascii_digit}
use Rattle.std.specs.Int.{w64}
use Rattle.std.specs.Borrow.{Bor}
use Rattle.std.specs.Prelude.{slice_index}
use Rattle.std.specs.List.{list_all}
use Rattle.std.specs.Option.{MatchOption, option_map}
use Rattle.std.specs.Result.{OkIff, result_ok}
use Rattle.std.specs.Str.Pattern.{FindsCharPrefix, StripsPrefix}
use Rattle.std.specs.Str.Parse.{ParsesSigned, ParsesUnsigned, digits_value}
use Rattle.blocking_pool.proofs.LimitLemmas.{digits}
use Rattle.blk_commands.specs.Numbers.{begins_with, is_negative, is_number_below, magnitude_of}
use Rattle.blk_commands.specs.Numbers.{number_below, number_of, signed_number_of}

-- a word of digits is parsed exactly where it is a number
pub parsed_number : {E : Type 0} (bits : ℕ) (word : List ℕ) (r : Result ℕ E)
    → ParsesUnsigned bits 10 word r → list_all is_ascii_digit word ≡ true
    → result_ok r ≡ number_of bits word
parsed_number {E} bits word (Ok n) parsed all =
    let is : OkIff {E = E} (Ok n) ((0 < length word) × (digits_value 10 word < 2 ^ bits))
    (digits_value 10 word) =
    parse_digits digits {E = E} bits word (Ok n) parsed all in
    let yes : is_number_below (2 ^ bits) word ≡ true = grind (arith, common_steps, is) in
    rw (yes, is.1)
parsed_number {E} bits word (Err e) parsed all =
    let is : OkIff (Err e) ((0 < length word) × (digits_value 10 word < 2 ^ bits))
    (digits_value 10 word) =
    parse_digits digits {E = E} bits word (Err e) parsed all in
    let no : is_number_below (2 ^ bits) word ≡ false = grind (arith, common_steps, is) in rw no

-- the same at 32 and at 64 bits
pub parsed_small_number : {E : Type 0} (word : List ℕ) (r : Result ℕ E)
    → ParsesUnsigned 32 10 word r → list_all is_ascii_digit word ≡ true
    → result_ok r ≡ number_of 32 word
parsed_small_number word r = parsed_number 32 word r

pub parsed_large_number : {E : Type 0} (word : List ℕ) (r : Result ℕ E)
    → ParsesUnsigned 64 10 word r → list_all is_ascii_digit word ≡ true
    → result_ok r ≡ number_of 64 word
parsed_large_number word r = parsed_number 64 word r

-- ---- with a sign

-- what is a number below a bound exactly where a result is one
below : {E : Type 0} (bound : ℕ) (f : ℕ → ℤ) (word : List ℕ) (r : Result ℤ E)
    → OkIff r ((0 < length word) × (digits_value 10 word < bound)) (f (digits_value 10 word))
    → list_all is_ascii_digit word ≡ true → result_ok r ≡ option_map f (number_below bound word)
below bound f word (Ok z) is all =
    let yes : is_number_below bound word ≡ true = grind (arith, common_steps, is) in rw (yes, is.1)
below bound f word (Err e) is all =
    let no : is_number_below bound word ≡ false = grind (arith, common_steps, is) in rw no

-- a bound of its own is one more
one_more : {E : Type 0} (f : ℕ → ℤ) (word : List ℕ) (r : Result ℤ E)
    → OkIff r ((list_all is_ascii_digit word ≡ true) × (0 < length word)
    × (digits_value 10 word ≤ 2 ^ 63)) (f (digits_value 10 word))
    → list_all is_ascii_digit word ≡ true
    → OkIff r ((0 < length word) × (digits_value 10 word < 2 ^ 63 + 1)) (f (digits_value 10 word))
one_more f word (Ok z) is all = ((is.0.1, omega (arith, is.0.2)), is.1)
one_more f word (Err e) is all = λ q. is (all, q.0, omega (arith, q.1))

parsed_by_sign : {E : Type 0} (word : List ℕ) (r : Result ℤ E) (minus : Bool)
    → is_negative word ≡ minus
    → ParsesSigned w64 10 word r → list_all is_ascii_digit (magnitude_of word) ≡ true
    → result_ok r ≡ signed_number_of word
parsed_by_sign {E} word r true is parsed all =
    let them : list_all is_ascii_digit (drop 1 word) ≡ true = rw is at all in
    rw is (below (2 ^ 63 + 1) (λ n. neg_ℤ (pos n)) (drop 1 word) r
    (one_more (λ n. neg_ℤ (pos n)) (drop 1 word) r
    (parse_signed_minus digits {E = E} w64 word r parsed (eqb-true _ 45 is)) them) them)
parsed_by_sign {E} word r false is parsed all =
    let them : list_all is_ascii_digit word ≡ true = rw is at all in
    rw is
    (below (2 ^ 63) pos word r (parse_signed_digits digits {E = E} w64 word r parsed them) them)

-- digits behind a minus, or without one, are parsed exactly where they are a number
pub parsed_signed_number : {E : Type 0} (word : List ℕ) (r : Result ℤ E)
    → ParsesSigned w64 10 word r → list_all is_ascii_digit (magnitude_of word) ≡ true
    → result_ok r ≡ signed_number_of word
parsed_signed_number word r = parsed_by_sign word r (is_negative word) refl

no_number : (bound : ℕ) (word : List ℕ) → list_all is_ascii_digit word ≡ false
    → is_number_below bound word ≡ false
no_number bound word other = grind (arith, common_steps, other)

unsigned_by_sign : (word : List ℕ) (minus : Bool) → is_negative word ≡ minus
    → list_all is_ascii_digit (magnitude_of word) ≡ false
    → signed_number_of word ≡ None
unsigned_by_sign word true is other = rw (is, no_number (2 ^ 63 + 1) (drop 1 word) (rw is at other))
unsigned_by_sign word false is other = rw (is, no_number (2 ^ 63) word (rw is at other))

-- a word says no number where behind its sign not all are digits
pub unsigned : (word : List ℕ) → list_all is_ascii_digit (magnitude_of word) ≡ false
    → signed_number_of word ≡ None
unsigned word = unsigned_by_sign word (is_negative word) refl

-- ---- letters

-- a word that isn't this letter and something more doesn't begin with it
begins_otherwise : (letter : ℕ) (word : List ℕ) → 0 < letter
    → ((rest : List ℕ) → word ≢ letter ∷ rest) → begins_with letter word ≡ false
begins_otherwise letter [] some other = ne_eqb 0 letter (λ same. omega (arith, same, some))
begins_otherwise letter (c ∷ rest) some other =
    ne_eqb c letter (λ same. other rest (ap (λ d. d ∷ rest) same))

-- what stands behind a letter of ASCII
pub stripped : (letter : ℕ) (word : List ℕ) (r : Option (Bor (List ℕ)))
    → MatchOption r (FindsCharPrefix letter word None)
    (λ rest. StripsPrefix (FindsCharPrefix letter) word rest.now) → 0 < letter → letter < 128
    → MatchOption r (begins_with letter word ≡ false) (λ rest. (begins_with letter word ≡ true)
    × (rest.now ≡ drop 1 word))
stripped letter word (Some rest) finds some ascii =
    let is : word ≡ letter ∷ rest.now = strip_prefix_char letter word (Some rest) finds ascii in
    (eq-eqb (slice_index word 0) letter (ap (λ w. slice_index w 0) is), sym (ap (λ w. drop 1 w) is))
stripped letter word None finds some ascii =
    begins_otherwise letter word some (strip_prefix_char letter word None finds ascii)
