-- Names and reserved words of kernel files.
use Rattle.std.specs.Prelude.{ℕ, Bool, true, not, ◌&&◌, ◌||◌, ◌==◌, List, [], ◌∷◌, codes, bytes_eq}
use Rattle.std.specs.Char.{is_ascii_alphabetic, is_ascii_digit}
use Rattle.std.specs.List.{list_all, list_any, starts_with}

-- a letter or `_`
abbrev pub begins_word : ℕ → Bool
begins_word c = is_ascii_alphabetic c || (c == 95)

-- a letter, a digit or `_`
abbrev pub is_word_byte : ℕ → Bool
is_word_byte c = begins_word c || is_ascii_digit c

-- a letter or `_`, then letters, digits or `_`
abbrev pub is_word : List ℕ → Bool
is_word [] = not true
is_word (c ∷ cs) = begins_word c && list_all is_word_byte cs

-- the words that are no names
abbrev pub reserved_words : List (List ℕ)
reserved_words =
    codes "kernel" ∷ codes "domain" ∷ codes "assume" ∷ codes "input" ∷ codes "output" ∷ codes "temp" ∷ codes "sum" ∷ codes "product"
    ∷ codes "min" ∷ codes "max" ∷ codes "if" ∷ codes "cast" ∷ codes "and" ∷ codes "or" ∷ codes "not"
    ∷ codes "int32" ∷ codes "int64" ∷ codes "uint32" ∷ codes "uint64" ∷ []

abbrev pub is_reserved : List ℕ → Bool
is_reserved word = list_any (bytes_eq word) reserved_words

-- the program keeps the words that begin so for itself
abbrev pub is_kept : List ℕ → Bool
is_kept word = starts_with (λ a b. a == b) word (codes "lp_")

-- a name
abbrev pub is_name : List ℕ → Bool
is_name word = is_word word && (not (is_kept word) && not (is_reserved word))
