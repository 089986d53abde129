-- What a command line asks for.
use Rattle.std.specs.Prelude.{ℕ, List, [], ◌∷◌, map, codes, bytes_eq, Option, Some, None}
use Rattle.std.specs.Prelude.{option_map, String, string_bytes, if◌then◌else◌}
use Rattle.std.specs.Global.{Global}
use Rattle.blk_commands.specs.Numbers.{number_of}
use Rattle.blk_commands.specs.declared.request.Request.{Request}
use Rattle.blk_commands.specs.declared.request.Request.TheVariants.{Call, Limit, Steps}
use Rattle.std.specs.Borrow.{Bor}
use Rattle.blocking_pool.specs.Limits.{limit_of_setting}

-- the text of a setting, if there is one
abbrev pub text_of : Option (Bor (List ℕ)) → Option (List ℕ)
text_of setting = option_map (λ text. text.now) setting

-- the texts of words, each None where the word isn't UTF-8
abbrev pub texts_of : List (Option (String Global)) → List (Option (List ℕ))
texts_of words = map (option_map string_bytes) words

-- what a command's name and one word ask for
abbrev pub pair_request : List ℕ → List ℕ → Option Request
pair_request name word =
    if bytes_eq name (codes "call") then option_map Call (number_of 32 word)
    else (if bytes_eq name (codes "limit") then Some (Limit (limit_of_setting (Some word)))
    else None)

-- what a lone word asks for under a setting
abbrev pub lone_request : Option (List ℕ) → List ℕ → Option Request
lone_request setting name =
    if bytes_eq name (codes "limit") then Some (Limit (limit_of_setting setting))
    else (if bytes_eq name (codes "steps") then Some Steps else None)

-- what words ask for under a setting, where they are right: `call` and a number, `limit` and a
-- text, `limit` alone, or `steps`
abbrev pub request_of : Option (List ℕ) → List (Option (List ℕ)) → Option Request
request_of setting (Some name ∷ []) = lone_request setting name
request_of setting (Some name ∷ Some word ∷ []) = pair_request name word
request_of setting _ = None
