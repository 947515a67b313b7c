-- The lines of a kernel file, in order of the productions.
use Rattle.std.specs.Prelude.{ℕ, Bool, true, false, List, [], ◌∷◌, ◌++◌, map, Option, Some, None}
use Rattle.wrap_words.specs.declared.kind.Kind.{Kind}
use Rattle.kernel_grammar.specs.declared.step.Folding.TheVariants as folding
use Rattle.kernel_grammar.specs.declared.item.Stored.{Stored}
use Rattle.kernel_grammar.specs.declared.item.Stored.TheVariants.{Plain, Update}
use Rattle.kernel_grammar.specs.declared.item.Declared.{Declared}
use Rattle.kernel_grammar.specs.declared.item.Declared.TheVariants.{Not as undeclared, Inferred, Of}
use Rattle.kernel_grammar.specs.Words.{Name}
use Rattle.kind_faults.specs.Words.{kind_word}
use Rattle.kernel_grammar.specs.Lexicals.{Lexical, word, number, key, mark, listed}
use Rattle.kernel_grammar.specs.Trees.{Rel, Or, Sums}
use Rattle.kernel_grammar.specs.Spelling.{rel_text, extreme_text, name_text, names_text, in_parentheses, in_brackets, or_text, sums_text}

-- chain = sums rel sums {rel sums}
pub record Chain : Type 0 where
  pub first : Sums
  pub rel : Rel
  pub second : Sums
  pub more : List (Rel × Sums)

-- option = "id=" name | "dep=" ["*"] [ids] | "inames=" ids | "if=" or
pub data InsnOption : Type 0 where
  id : Name → InsnOption
  dep : (star : Bool) (ids : List Name) → InsnOption
  inames : (first : Name) (more : List Name) → InsnOption
  condition : Or → InsnOption

-- insn = ["<" [kind] ">"] name ["[" exprs "]"] set or ["{" [option {"," option}] "}"]
pub record Insn : Type 0 where
  pub declared : Declared
  pub cell : Name
  pub place : Option Sums
  pub stored : Stored
  pub value : Or
  pub options : Option (List InsnOption)

-- domain = "domain" "[" [names] "]" "->" "{" "[" [names] "]" [":" conds] "}"
-- assume = "assume" conds
-- array  = ("input" | "output") name ":" kind "[" exprs "]"
-- temp   = "temp" name ":" kind ["[" numbers "]"]
-- rule   = name "(" [names] ")" ":=" or
pub data Line : Type 0 where
  domain : (known made : List Name) (conds : List Chain) → Line
  assume : (first : Chain) (more : List Chain) → Line
  input : Name → Kind → (shape : Sums) → Line
  output : Name → Kind → (shape : Sums) → Line
  temp : Name → Kind → (shape : List (List ℕ)) → Line
  rule : Name → (params : List Name) (body : Or) → Line
  insn : Insn → Line

-- each relation with the list behind it
abbrev pub links_text : List (Rel × Sums) → List Lexical
links_text [] = []
links_text (link ∷ links) = rel_text link.0 ∷ sums_text link.1 ++ links_text links

-- lists of index expressions, compared
abbrev pub chain_text : Chain → List Lexical
chain_text chain = sums_text chain.first ++ links_text ((chain.rel, chain.second) ∷ chain.more)

-- conditions, with `and` between them
abbrev pub conds_text : List Chain → List Lexical
conds_text chains = listed (key "and") (map chain_text chains)

-- conditions behind their sign, where there are any
abbrev pub ruled_text : List Chain → List Lexical
ruled_text [] = []
ruled_text (chain ∷ chains) = mark ":" ∷ conds_text (chain ∷ chains)

-- a kind
abbrev pub kind_text : Kind → List Lexical
kind_text kind = word (kind_word kind) ∷ []

-- a name with its kind
abbrev pub typed_text : Name → Kind → List Lexical
typed_text name kind = name_text name ++ mark ":" ∷ kind_text kind

-- numbers in brackets, where there are any
abbrev pub numbers_text : List (List ℕ) → List Lexical
numbers_text [] = []
numbers_text (n ∷ ns) = in_brackets (listed (mark ",") (map (λ digits. number digits ∷ []) (n ∷ ns)))

-- ids or inames, with `:` between them
abbrev pub ids_text : List Name → List Lexical
ids_text list = listed (mark ":") (map name_text list)

-- a star, where there is one
abbrev pub star_text : Bool → List Lexical
star_text true = mark "*" ∷ []
star_text false = []

-- an option
abbrev pub option_text : InsnOption → List Lexical
option_text (id name) = key "id" ∷ mark "=" ∷ name_text name
option_text (dep star ids) = key "dep" ∷ mark "=" ∷ star_text star ++ ids_text ids
option_text (inames name list) = key "inames" ∷ mark "=" ∷ ids_text (name ∷ list)
option_text (condition test) = key "if" ∷ mark "=" ∷ or_text test

-- options in braces
abbrev pub options_text : Option (List InsnOption) → List Lexical
options_text None = []
options_text (Some options) = mark "{" ∷ listed (mark ",") (map option_text options) ++ mark "}" ∷ []

-- how a cell is declared
abbrev pub declared_text : Declared → List Lexical
declared_text undeclared = []
declared_text Inferred = mark "<" ∷ mark ">" ∷ []
declared_text (Of kind) = mark "<" ∷ kind_text kind ++ mark ">" ∷ []

-- the subscripts of a cell
abbrev pub place_text : Option Sums → List Lexical
place_text None = []
place_text (Some places) = in_brackets (sums_text places)

-- set = "=" | "+=" | "*=" | "min=" | "max="
abbrev pub stored_text : Stored → List Lexical
stored_text Plain = mark "=" ∷ []
stored_text (Update folding.Sum) = mark "+=" ∷ []
stored_text (Update folding.Product) = mark "*=" ∷ []
stored_text (Update (folding.Extreme which)) = extreme_text which ∷ mark "=" ∷ []

-- an instruction
abbrev pub insn_text : Insn → List Lexical
insn_text i = declared_text i.declared ++ name_text i.cell ++ place_text i.place ++ stored_text i.stored ++ or_text i.value ++ options_text i.options

-- a line
abbrev pub line_text : Line → List Lexical
line_text (domain known made conds) =
    key "domain" ∷ in_brackets (names_text known) ++ mark "->" ∷ mark "{" ∷ in_brackets (names_text made) ++ ruled_text conds ++ mark "}" ∷ []
line_text (assume chain chains) = key "assume" ∷ conds_text (chain ∷ chains)
line_text (input name kind shape) = key "input" ∷ typed_text name kind ++ in_brackets (sums_text shape)
line_text (output name kind shape) = key "output" ∷ typed_text name kind ++ in_brackets (sums_text shape)
line_text (temp name kind shape) = key "temp" ∷ typed_text name kind ++ numbers_text shape
line_text (rule name params body) = word name.word ∷ in_parentheses (names_text params) ++ mark ":=" ∷ or_text body
line_text (insn i) = insn_text i
