-- The names that a line says are words of its text.
use Rattle.std.proofs.Common.{◌≡◌, ℕ, Bool, true, false, List, [], ◌∷◌, ◌++◌, map, length, refl, ◌∙◌}
use Rattle.std.specs.List.{list_all}
use Rattle.std.proofs.lemmas.Bool.{and_parts, and_from}
use Rattle.std.proofs.lemmas.List.Folds.{list_all-append, list_all-map}
use Rattle.wrap_words.specs.declared.kind.Kind.{Kind}
use Rattle.kernel_grammar.specs.declared.item.Declared.{Declared}
use Rattle.kernel_grammar.specs.declared.item.Declared.TheVariants.{Not, Inferred, Of}
use Rattle.kernel_grammar.specs.Words.{Name, words_of}
use Rattle.kernel_grammar.specs.Lexicals.{Lexical, key, mark, number_in}
use Rattle.kernel_grammar.specs.Spelling.{name_text, names_text, in_parentheses, in_brackets, or_text, sums_text}
use Rattle.kernel_grammar.specs.Steps.{sums_steps}
use Rattle.kernel_grammar.specs.Lines.{Line, domain, assume, input, output, temp, rule, insn, Insn, line_text, insn_text, ruled_text, kind_text, typed_text, numbers_text, declared_text, place_text, stored_text, options_text}
use Rattle.kernel_grammar.specs.Syntax.{item_of}
use Rattle.kernel_ir.specs.NameSpace.{is_identifier}
use Rattle.kernel_names.specs.declared.said.Sort.{Sort}
use Rattle.kernel_names.specs.declared.said.Sort.TheVariants as sort
use Rattle.kernel_names.specs.declared.said.Said.{Said}
use Rattle.kernel_names.specs.Said.{said_as, stored_said, said_in}
use Rattle.kernel_formed.specs.Written.{word_fits}
use Rattle.kernel_formed.proofs.Words.{WordsFit, first_fits, second_fits}

-- each name that is said is an identifier
abbrev said_fit : List Said → Bool
said_fit said = list_all (λ s. is_identifier s.name) said

pub name_fits : (name : Name) (text : List Lexical) → WordsFit (name_text name ++ text) → is_identifier name.word ≡ true
name_fits name text h = (and_parts (is_identifier name.word) (list_all word_fits text) h).0

typed_fits : (name : Name) (kind : Kind) (text : List Lexical) → WordsFit (typed_text name kind ++ text) → is_identifier name.word ≡ true
typed_fits name kind text h = name_fits name (mark ":" ∷ kind_text kind ++ text) h

names_fit : (names : List Name) → WordsFit (names_text names) → list_all is_identifier (words_of names) ≡ true
names_fit [] h = refl
names_fit (name ∷ []) h = h
names_fit (name ∷ other ∷ names) h =
    let parts = and_parts (is_identifier name.word) (list_all word_fits (names_text (other ∷ names))) h in
    and_from (is_identifier name.word) (list_all is_identifier (words_of (other ∷ names))) parts.0 (names_fit (other ∷ names) parts.1)

as_fit : (s : Sort) (names : List (List ℕ)) → list_all is_identifier names ≡ true → said_fit (said_as s names) ≡ true
as_fit s names h = list_all-map (λ (x : Said). is_identifier x.name) (λ (n : List ℕ). record { sort = s; name = n }) names ∙ h

one_fits : (s : Sort) (name : List ℕ) → is_identifier name ≡ true → said_fit (said_as s (name ∷ [])) ≡ true
one_fits s name h = as_fit s (name ∷ []) (and_from (is_identifier name) true h refl)

two_fit : (a b : List Said) → said_fit a ≡ true → said_fit b ≡ true → said_fit (a ++ b) ≡ true
two_fit a b h k = list_all-append (λ (s : Said). is_identifier s.name) a b ∙ and_from (said_fit a) (said_fit b) h k

stored_fits : (declared : Declared) (name : List ℕ) → is_identifier name ≡ true → said_fit (stored_said declared name) ≡ true
stored_fits Not name h = refl
stored_fits Inferred name h = one_fits (sort.Temp 0) name h
stored_fits (Of kind) name h = one_fits (sort.Temp 0) name h

cell_fits : (i : Insn) → WordsFit (insn_text i) → is_identifier i.cell.word ≡ true
cell_fits i h =
    let head = declared_text i.declared ++ name_text i.cell in
    let before = head ++ place_text i.place in
    let stored = before ++ stored_text i.stored in
    let value = stored ++ or_text i.value in
    let fits = first_fits head _ (first_fits before _ (first_fits stored _ (first_fits value (options_text i.options) h))) in
    name_fits i.cell [] (second_fits (declared_text i.declared) (name_text i.cell) fits)

pub names_written : (line : Line) → WordsFit (line_text line) → said_fit (said_in (item_of line)) ≡ true
names_written (domain known made conds) h =
    let first = key "domain" ∷ in_brackets (names_text known) in
    let second = mark "->" ∷ mark "{" ∷ in_brackets (names_text made) in
    let both = first_fits (first ++ second) (ruled_text conds) (first_fits ((first ++ second) ++ ruled_text conds) (mark "}" ∷ []) h) in
    two_fit (said_as sort.Parameter (words_of known)) (said_as sort.Iname (words_of made))
    (as_fit sort.Parameter (words_of known) (names_fit known (first_fits (names_text known) (mark "]" ∷ []) (first_fits first second both))))
    (as_fit sort.Iname (words_of made) (names_fit made (first_fits (names_text made) (mark "]" ∷ []) (second_fits first second both))))
names_written (assume chain chains) h = refl
names_written (input name kind shape) h = one_fits (sort.Array (length (sums_steps shape)) false) name.word (typed_fits name kind (in_brackets (sums_text shape)) h)
names_written (output name kind shape) h = one_fits (sort.Array (length (sums_steps shape)) true) name.word (typed_fits name kind (in_brackets (sums_text shape)) h)
names_written (temp name kind shape) h = one_fits (sort.Temp (length (map number_in shape))) name.word (typed_fits name kind (numbers_text shape) h)
names_written (rule name params body) h =
    let own = in_parentheses (names_text params) in
    let head = first_fits (name_text name ++ own) (mark ":=" ∷ or_text body) h in
    two_fit (said_as sort.Rule (name.word ∷ [])) (said_as sort.Own (words_of params))
    (one_fits sort.Rule name.word (name_fits name own head))
    (as_fit sort.Own (words_of params) (names_fit params (first_fits (names_text params) (mark ")" ∷ []) (second_fits (name_text name) own head))))
names_written (insn i) h = stored_fits i.declared i.cell.word (cell_fits i h)
