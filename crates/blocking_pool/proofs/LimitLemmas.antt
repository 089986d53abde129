-- What `parse` makes of the text of a setting.
use Rattle.std.proofs.Common.{◌≡◌, ℕ, ◌^◌, ◌<◌, true, false, cond, List, length, drop, get_or}
use Rattle.std.proofs.Common.{Result, Ok, Err, Some, None, sym, subst, ap, inl, inr, arith, rules}
use Rattle.std.proofs.lemmas.Str.Parse.{IsNumeralModel, numerals_by_value, parse_plain, parse_plus}
use Rattle.std.proofs.lemmas.Grind.{common_steps}
use Rattle.std.proofs.lemmas.Bool.{cases_eq, eq-eqb, ne_eqb}
use Rattle.std.specs.Char.{is_ascii_digit}
use Rattle.std.specs.List.{list_all}
use Rattle.std.specs.Result.{OkIff, result_ok}
use Rattle.std.specs.Str.Parse.{ParsesUnsigned, digits_value}
use Rattle.blocking_pool.specs.Limits.{is_number, number_of}

-- the bytes of digits, and their numbers, as std's lemmas on parsing want them
pub digits : IsNumeralModel (λ word. list_all is_ascii_digit word ≡ true) (digits_value 10)
digits = numerals_by_value _ (search rules)

-- the number of these digits, by a result that is Ok just where they are one
abbrev Reads : {E : Type 0} → List ℕ → Result ℕ E → Type 0
Reads ds r = OkIff r ((list_all is_ascii_digit ds ≡ true) × (0 < length ds)
    × (digits_value 10 ds < 2 ^ 64)) (digits_value 10 ds)

read_number : {E : Type 0} (ds : List ℕ) (r : Result ℕ E) → Reads ds r
    → result_ok r ≡ cond (is_number ds) (Some (digits_value 10 ds)) None
read_number ds (Ok n) is = let yes : is_number ds ≡ true = grind (arith, common_steps, is) in
    rw (yes, is.1)
read_number ds (Err e) is = let no : is_number ds ≡ false = grind (arith, common_steps, is) in rw no

-- a text is parsed just where it names a number
pub parsed_limit : {E : Type 0} (text : List ℕ) (r : Result ℕ E) → ParsesUnsigned 64 10 text r
    → result_ok r ≡ number_of text
parsed_limit text r parsed =
    elim (cases_eq (get_or text 0 0) 43) [
      | inl plus ↦ subst (λ ds. result_ok r ≡ cond (is_number ds) (Some (digits_value 10 ds)) None)
          (sym (ap (λ b. drop (cond b 1 0) text) (eq-eqb (get_or text 0 0) 43 plus)))
          (read_number (drop 1 text) r (parse_plus digits 64 text r parsed plus))
      | inr other ↦ subst (λ ds. result_ok r ≡ cond (is_number ds) (Some (digits_value 10 ds)) None)
          (sym (ap (λ b. drop (cond b 1 0) text) (ne_eqb (get_or text 0 0) 43 other)))
          (read_number text r (parse_plain digits 64 text r parsed other))
    ]
