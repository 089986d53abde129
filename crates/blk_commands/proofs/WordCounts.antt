-- Which numbers of words are no instruction.
use Rattle.std.proofs.Common.{◌≡◌, ℕ, ◌<◌, List, [], ◌∷◌, length, map, None, Bor, refl, arith}
use Rattle.blk_commands.specs.Instructions.{instruction_of}

-- none
pub no_words : (words : List (Bor (List ℕ))) → length words < 1
    → None ≡ instruction_of (map (λ word. word.now) words)
no_words [] few = refl
no_words (a ∷ rest) few = absurd (omega (arith, few))

-- more than four
pub many_words : (words : List (Bor (List ℕ))) → 4 < length words
    → None ≡ instruction_of (map (λ word. word.now) words)
many_words [] many = absurd (omega (arith, many))
many_words (a ∷ []) many = absurd (omega (arith, many))
many_words (a ∷ b ∷ []) many = absurd (omega (arith, many))
many_words (a ∷ b ∷ c ∷ []) many = absurd (omega (arith, many))
many_words (a ∷ b ∷ c ∷ d ∷ []) many = absurd (omega (arith, many))
many_words (a ∷ b ∷ c ∷ d ∷ e ∷ rest) many = refl
