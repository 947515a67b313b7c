-- Small texts, and what they say.
use Prim.Native.String.{String}
use Rattle.std.specs.Prelude.{ℕ, true, false, Some, List, [], ◌∷◌, ◌++◌, ◌==◌, map, codes, if◌then◌else◌}
use Rattle.std.specs.Char.{is_ascii_digit}
use Rattle.wrap_words.specs.declared.kind.Kind.TheVariants.{I32}
use Rattle.text_reader.specs.Bytes.{begins_word}
use Rattle.kernel_grammar.specs.declared.item.Relation.TheVariants.{LessEqual, Less}
use Rattle.kernel_grammar.specs.declared.item.Stored.TheVariants.{Plain}
use Rattle.kernel_grammar.specs.declared.item.Declared.TheVariants.{Not}
use Rattle.kernel_grammar.specs.declared.item.Item.{Item}
use Rattle.kernel_grammar.specs.declared.item.Item.TheVariants.{Domain, Array, Insn}
use Rattle.kernel_grammar.specs.declared.file.KernelFile.{KernelFile}
use Rattle.kernel_grammar.specs.declared.step.Step.{Step}
use Rattle.kernel_grammar.specs.declared.step.Step.TheVariants.{Number, Name, Index, Infix}
use Rattle.kernel_grammar.specs.declared.step.Infix.TheVariants.{Multiply}
use Rattle.kernel_grammar.specs.Lexicals.{Lexical, word, number, sign, line_end}

-- a byte before the first of texts
abbrev pub put_first : ℕ → List (List ℕ) → List (List ℕ)
put_first c [] = (c ∷ []) ∷ []
put_first c (text ∷ texts) = (c ∷ text) ∷ texts

-- what stands between single blanks
abbrev pub between_blanks : List ℕ → List (List ℕ)
between_blanks [] = [] ∷ []
between_blanks (c ∷ cs) = if c == 32 then [] ∷ between_blanks cs else put_first c (between_blanks cs)

-- a token by its first byte
abbrev pub token_of : List ℕ → Lexical
token_of [] = line_end
token_of (c ∷ cs) = if begins_word c then word (c ∷ cs) else if is_ascii_digit c then number (c ∷ cs) else sign (c ∷ cs)

-- the tokens of a text that has a blank between each two
abbrev pub spaced : String → List Lexical
spaced text = map token_of (between_blanks (codes text))

-- the tokens of lines
abbrev pub lines : List (List Lexical) → List Lexical
lines [] = []
lines (line ∷ more) = line ++ line_end ∷ lines more

-- the step of a name
abbrev pub name : String → Step
name text = Name (codes text)

-- the smallest kernel
abbrev pub doubling_text : List Lexical
doubling_text = lines (
    spaced "kernel 1" ∷
    spaced "domain [ n ] -> { [ i ] : 0 <= i < n }" ∷
    spaced "input a : int32 [ n ]" ∷
    spaced "output out : int32 [ n ]" ∷
    spaced "out [ i ] = 2 * a [ i ]" ∷ [])

-- `domain [n] -> { [i] : 0 <= i < n }`
abbrev pub doubling_domain : Item
doubling_domain = Domain (codes "n" ∷ []) (codes "i" ∷ []) (record {
  first = (Number (Some 0) ∷ []) ∷ [];
  rest = (LessEqual, (name "i" ∷ []) ∷ []) ∷ (Less, (name "n" ∷ []) ∷ []) ∷ [];
} ∷ [])

-- `out[i] = 2*a[i]`
abbrev pub doubling_insn : Item
doubling_insn = Insn Not (codes "out") ((name "i" ∷ []) ∷ []) Plain (Number (Some 2) ∷ name "i" ∷ Index (codes "a") 1 ∷ Infix Multiply ∷ []) []

abbrev pub doubling : KernelFile
doubling = record {
  entries =
      record { line = 2; item = doubling_domain } ∷
      record { line = 3; item = Array (codes "a") I32 ((name "n" ∷ []) ∷ []) false } ∷
      record { line = 4; item = Array (codes "out") I32 ((name "n" ∷ []) ∷ []) true } ∷
      record { line = 5; item = doubling_insn } ∷ [];
}
