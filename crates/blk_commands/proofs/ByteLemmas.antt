-- A word says bytes exactly where it is their text.
use Rattle.std.proofs.Common.{◌≡◌, ◌≢◌, ℕ, suc, ◌+◌, ◌*◌, ◌/◌, ◌%◌, ◌==◌, ◌<◌, Bool, true, false}
use Rattle.std.proofs.Common.{not, List, [], ◌∷◌, length, Option, Some, None, Result, Ok, Err, IfOk}
use Rattle.std.proofs.Common.{refl, ap, sym, ◌∙◌, subst, arith, if◌then◌else◌}
use Rattle.std.specs.Prelude.{◌&&◌, bytes_eq, codes}
use Rattle.std.proofs.lemmas.Bool.{and_parts, not-true}
use Rattle.std.proofs.lemmas.Slice.Eq.{bytes_eq-Decides}
use Rattle.std.proofs.lemmas.Grind.{common_steps}
use Rattle.std.specs.Char.{is_ascii_uppercase}
use Rattle.std.specs.Fmt.{digit_glyph}
use Rattle.std.specs.List.{list_all}
use Rattle.std.specs.Result.{result_ok, result_unwrap_or}
use Rattle.hex.specs.Hex.{IsBytes, decode_of, decode_pairs, digit_or_error, hex_digit_value, ◌>>=◌}
use Rattle.hex.specs.declared.error.FromHexError.{FromHexError}
use Rattle.hex.specs.declared.error.FromHexError.TheVariants.{OddLength}
use Rattle.hex.proofs.HexLemmas.{decode_of-even, decode_pairs-ok}
use Rattle.blocking_world_laws.specs.Hex.{hex_digits, hex_text}
use Rattle.blk_commands.specs.Bytes.{SaysBytes, bytes_of, may_be_digits}

-- ---- digits

-- the digit of a value is no capital letter, and reads as that value
digit_is_small : (d : ℕ) → d < 16 → is_ascii_uppercase (digit_glyph false d) ≡ false
digit_is_small d fits = grind (arith)

digit_reads : (d : ℕ) → d < 16 → hex_digit_value (digit_glyph false d) ≡ Some d
digit_reads d fits = grind (arith)

-- what reads as a value, and is no capital letter, is the digit of that value
digit_fits : (c d : ℕ) → hex_digit_value c ≡ Some d → d < 16
digit_fits c d reads = grind (arith)

digit_is : (c d : ℕ) → is_ascii_uppercase c ≡ false → hex_digit_value c ≡ Some d
    → digit_glyph false d ≡ c
digit_is c d small reads = grind (arith)

-- ---- pairs of digits

-- what two digits and the pairs behind them read as
abbrev joined : ℕ → ℕ → ℕ → Option ℕ → Option ℕ → Result (List ℕ) FromHexError
    → Result (List ℕ) FromHexError
joined i a b x y r = do
  byte ← (digit_or_error a i x >>= (λ h. digit_or_error b (i + 1) y >>= (λ l. Ok (h * 16 + l))))
  bytes ← r
  Ok (byte ∷ bytes)

-- where they read as bytes, each of them reads
all_read : (i a b : ℕ) (x y : Option ℕ) (r : Result (List ℕ) FromHexError) (bytes : List ℕ)
    → joined i a b x y r ≡ Ok bytes
    → (p : ℕ) × (q : ℕ) × (later : List ℕ) × (x ≡ Some p) × (y ≡ Some q) × (r ≡ Ok later)
    × (((p * 16 + q) ∷ later) ≡ bytes)
all_read i a b (Some p) (Some q) (Ok later) bytes h = (
  p,
  q,
  later,
  refl,
  refl,
  refl,
  ap (λ (s : Result (List ℕ) FromHexError). result_unwrap_or s []) h,
)
all_read i a b (Some p) (Some q) (Err e) bytes h = cc h
all_read i a b (Some p) None r bytes h = cc h
all_read i a b None y r bytes h = cc h

-- the digits of bytes read as those bytes
digits_read : (i : ℕ) (bytes : List ℕ) → IsBytes bytes
    → decode_pairs i (hex_digits bytes) ≡ Ok bytes
unfolding decode_pairs
digits_read i [] are = refl
digits_read i (byte ∷ bytes) are =
    let fits : byte < 256 = are 0 in
    let high : byte / 16 < 16 = omega arith in
    let low : byte % 16 < 16 = omega arith in
    let whole : byte / 16 * 16 + byte % 16 ≡ byte = omega arith in
    let a = digit_glyph false (byte / 16) in
    let b = digit_glyph false (byte % 16) in
    let later = decode_pairs (i + 2) (hex_digits bytes) in
    ap (λ (x : Option ℕ). joined i a b x (hex_digit_value b) later) (digit_reads (byte / 16) high)
    ∙ ap (λ (y : Option ℕ). joined i a b (Some (byte / 16)) y later) (digit_reads (byte % 16) low)
    ∙ ap (λ (r : Result (List ℕ) FromHexError). joined i a b (Some (byte / 16)) (Some (byte % 16))
    r) (digits_read (i + 2) bytes (λ k. are (suc k)))
    ∙ ap (λ (n : ℕ). Ok (n ∷ bytes)) whole

-- what reads as bytes, and has no capital letter, is the digits of those bytes
read_digits : (i : ℕ) (word bytes : List ℕ)
    → list_all (λ byte. not (is_ascii_uppercase byte)) word ≡ true → decode_pairs i word ≡ Ok bytes
    → hex_digits bytes ≡ word
unfolding decode_pairs
read_digits i [] bytes small h =
    ap (λ (s : Result (List ℕ) FromHexError). hex_digits (result_unwrap_or s [])) (sym h)
read_digits i (a ∷ []) bytes small h = cc h
read_digits i (a ∷ b ∷ rest) bytes small h =
    let read = all_read i a b (hex_digit_value a) (hex_digit_value b) (decode_pairs (i + 2) rest)
    bytes h in
    let first = and_parts (not (is_ascii_uppercase a)) _ small in
    let second = and_parts (not (is_ascii_uppercase b)) _ first.1 in
    let low : read.1 < 16 = digit_fits b read.1 read.4 in
    let over : (read.0 * 16 + read.1) / 16 ≡ read.0 = omega arith in
    let under : (read.0 * 16 + read.1) % 16 ≡ read.1 = omega arith in
    ap hex_digits (sym read.6)
    ∙ (ap (λ (d : ℕ). digit_glyph false d ∷ digit_glyph false ((read.0 * 16 + read.1) % 16)
    ∷ hex_digits read.2) over
    ∙ (ap (λ (d : ℕ). digit_glyph false read.0 ∷ digit_glyph false d ∷ hex_digits read.2) under
    ∙ (ap (λ (c : ℕ). c ∷ digit_glyph false read.1 ∷ hex_digits read.2)
    (digit_is a read.0 (not-true _ first.0) read.3)
    ∙ (ap (λ (c : ℕ). a ∷ c ∷ hex_digits read.2) (digit_is b read.1 (not-true _ second.0) read.4)
    ∙ ap (λ (cs : List ℕ). a ∷ b ∷ cs) (read_digits (i + 2) rest read.2 second.1 read.5)))))

-- the digits of bytes have no capital letter
digits_are_small : (bytes : List ℕ) → IsBytes bytes
    → list_all (λ byte. not (is_ascii_uppercase byte)) (hex_digits bytes) ≡ true
digits_are_small [] are = refl
digits_are_small (byte ∷ bytes) are =
    let fits : byte < 256 = are 0 in
    let high = digit_is_small (byte / 16) (omega arith) in
    let low = digit_is_small (byte % 16) (omega arith) in
    rw (high, low) (digits_are_small bytes (λ k. are (suc k)))

-- ---- words

-- what doesn't count as odd is read by pairs
read_by_pairs : (odd : Bool) (r : Result (List ℕ) FromHexError) (bytes : List ℕ)
    → (if odd then Err OddLength else r) ≡ Ok bytes → r ≡ Ok bytes
read_by_pairs true r bytes h = cc h
read_by_pairs false r bytes h = h

-- the digits of bytes are read as those bytes
decoded : (bytes : List ℕ) → IsBytes bytes → decode_of (hex_digits bytes) ≡ Ok bytes
decoded bytes are =
    let read = digits_read 0 bytes are in
    let even : length (hex_digits bytes) % 2 ≡ 0 = let twice =
    (decode_pairs-ok 0 (hex_digits bytes) bytes read).1 in omega (arith, twice) in
    decode_of-even (hex_digits bytes) even ∙ read

-- the text of bytes is a dash, or digits that are read
unread : (word : List ℕ) (fault : FromHexError) → bytes_eq word (codes "-") ≡ false
    → decode_of word ≡ Err fault → (bytes : List ℕ) → IsBytes bytes → hex_text bytes ≢ word
unread word fault other e [] are same =
    cc (ap (λ (w : List ℕ). bytes_eq w (codes "-")) same ∙ other)
unread word fault other e (byte ∷ bytes) are same =
    cc (sym (decoded (byte ∷ bytes) are) ∙ ap decode_of same ∙ e)

some_digits : (byte : ℕ) (bytes : List ℕ) → (length (hex_digits (byte ∷ bytes)) == 0) ≡ false
some_digits byte bytes = grind (arith, common_steps)

unsaid : (word : List ℕ) → bytes_eq word (codes "-") ≡ false → may_be_digits word ≡ false
    → (bytes : List ℕ) → IsBytes bytes → hex_text bytes ≢ word
unsaid word other bad [] are same = cc (ap (λ (w : List ℕ). bytes_eq w (codes "-")) same ∙ other)
unsaid word other bad (byte ∷ bytes) are same =
    let may : may_be_digits (hex_digits (byte ∷ bytes)) ≡ true =
    ap (λ (none : Bool). not none && list_all (λ c. not (is_ascii_uppercase c))
    (hex_digits (byte ∷ bytes))) (some_digits byte bytes)
    ∙ digits_are_small (byte ∷ bytes) are in
    cc (sym may ∙ ap may_be_digits same ∙ bad)

-- what a word says that is no dash
says_read : (word : List ℕ) (r : Result (List ℕ) FromHexError) → bytes_eq word (codes "-") ≡ false
    → may_be_digits word ≡ true → decode_of word ≡ r
    → SaysBytes word (result_ok r)
says_read word (Ok []) other may e =
    let parts = and_parts (not (length word == 0)) _ may in
    let same : [] ≡ word = read_digits 0 word [] parts.1
    (read_by_pairs (length word % 2 == 1) (decode_pairs 0 word) [] e) in
    let none : not (length word == 0) ≡ false =
    ap (λ (w : List ℕ). not (length w == 0)) (sym same) in
    let clash : false ≡ true = sym none ∙ parts.0 in
    cc clash
says_read word (Ok (byte ∷ bytes)) other may e =
    let parts = and_parts (not (length word == 0)) _ may in
    let read = read_by_pairs (length word % 2 == 1) (decode_pairs 0 word) (byte ∷ bytes) e in
    ((decode_pairs-ok 0 word (byte ∷ bytes) read).2, read_digits 0 word (byte ∷ bytes) parts.1 read)
says_read word (Err fault) other may e = unread word fault other e

says_digits : (word : List ℕ) (may : Bool) → bytes_eq word (codes "-") ≡ false
    → may_be_digits word ≡ may
    → SaysBytes word (if may then result_ok (decode_of word) else None)
says_digits word true other is = says_read word (decode_of word) other is refl
says_digits word false other is = unsaid word other is

-- what a word says
says_word : (word : List ℕ) (dash : Bool) → bytes_eq word (codes "-") ≡ dash
    → SaysBytes word (if dash then Some []
    else (if may_be_digits word then result_ok (decode_of word) else None))
says_word word true is = (λ k. omega arith, sym ((bytes_eq-Decides word (codes "-")).0 is))
says_word word false is = says_digits word (may_be_digits word) is refl

pub says_bytes : {E : Type 0} (word : List ℕ) (r : Result (Option (List ℕ)) E)
    → IfOk r (λ said. said ≡ bytes_of word) → IfOk r (λ said. SaysBytes word said)
says_bytes word (Ok said) is =
    subst (SaysBytes word) (sym is) (says_word word (bytes_eq word (codes "-")) refl)
says_bytes word (Err e) is = tt
