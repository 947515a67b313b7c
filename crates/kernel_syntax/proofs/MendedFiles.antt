-- Each file, with other bytes where tokens are not spelled well.
use Rattle.std.proofs.Common.{ℕ, zero, suc, Bool, true, false, List, [], ◌∷◌, map, Option, Some, None, refl, codes}
use Rattle.std.specs.List.{repeat}
use Rattle.wrap_words.specs.declared.kind.Kind.{Kind}
use Rattle.kind_faults.specs.Words.{kind_word}
use Rattle.kernel_grammar.specs.declared.step.Extreme.TheVariants.{Min, Max}
use Rattle.kernel_grammar.specs.declared.step.Folding.TheVariants as folding
use Rattle.kernel_grammar.specs.declared.item.Stored.{Stored}
use Rattle.kernel_grammar.specs.declared.item.Stored.TheVariants.{Plain, Update}
use Rattle.kernel_grammar.specs.declared.item.Declared.{Declared}
use Rattle.kernel_grammar.specs.declared.item.Declared.TheVariants.{Not as undeclared, Inferred, Of}
use Rattle.kernel_grammar.specs.Lexicals.{Lexical, word, number, line_end, key, mark, listed}
use Rattle.kernel_grammar.specs.Words.{Name}
use Rattle.kernel_grammar.specs.Trees.{Rel, Sums}
use Rattle.kernel_grammar.specs.Spelling.{rel_text, name_text}
use Rattle.kernel_grammar.specs.Lines.{Chain, InsnOption, id, dep, inames, condition, Insn, Line, domain, assume, input, output, temp, rule, insn, links_text, chain_text, conds_text, ruled_text, typed_text, numbers_text, ids_text, star_text, option_text, options_text, declared_text, place_text, stored_text, insn_text, line_text}
use Rattle.kernel_grammar.specs.Files.{File, lines_text, file_text}
use Rattle.kernel_syntax.specs.TokenTexts.{IsWell}
use Rattle.kernel_syntax.proofs.MendedTokens.{word_well, number_well, mend_number, mend_name, Good, none, both, behind_token, behind_word, behind_number, good_list}
use Rattle.kernel_syntax.proofs.MendedTrees.{Mended, good_rel, good_extreme, good_kind, good_name, good_names, parenthesized, bracketed, good_or, good_sums}

good_links : (links : List (Rel × Sums)) → Mended links_text links
good_links [] = ([], none)
good_links (link ∷ links) = let h = good_sums link.1 in let k = good_links links in ((link.0, h.0) ∷ k.0, behind_token (rel_text link.0) (good_rel link.0) (both h.1 k.1))

good_chain : (chain : Chain) → Mended chain_text chain
good_chain chain =
    let h = good_sums chain.first in
    let k = good_sums chain.second in
    let l = good_links chain.more in
    (record { first = h.0; rel = chain.rel; second = k.0; more = l.0 }, both h.1 (behind_token (rel_text chain.rel) (good_rel chain.rel) (both k.1 l.1)))

-- the mended tree of each
abbrev trees : {X : Type 0} {spell : X → List Lexical} → ((x : X) → Mended spell x) → List X → List X
trees h xs = map (λ x. (h x).0) xs

good_all : {X : Type 0} (spell : X → List Lexical) (between : Lexical) → IsWell between → (h : (x : X) → Mended spell x) → (xs : List X) → Good (listed between (map spell xs)) (listed between (map spell (trees h xs)))
good_all spell between w h xs = good_list spell between w (λ x. (h x).0) (λ x. (h x).1) xs

good_conds : (chains : List Chain) → Good (conds_text chains) (conds_text (trees good_chain chains))
good_conds chains = good_all chain_text (key "and") (word_well (codes "and") refl) good_chain chains

good_ruled : (chains : List Chain) → Good (ruled_text chains) (ruled_text (trees good_chain chains))
good_ruled [] = none
good_ruled (chain ∷ chains) = behind_token (mark ":") refl (good_conds (chain ∷ chains))

good_typed : (name : Name) (kind : Kind) → Good (typed_text name kind) (typed_text (mend_name name) kind)
good_typed name kind = behind_word name.word (behind_token (mark ":") refl (behind_token (word (kind_word kind)) (good_kind kind) none))

good_numbers : (shape : List (List ℕ)) → Good (numbers_text shape) (numbers_text (map mend_number shape))
good_numbers [] = none
good_numbers (n ∷ ns) = bracketed (good_list (λ digits. number digits ∷ []) (mark ",") refl mend_number (λ digits. behind_number digits none) (n ∷ ns))

good_ids : (list : List Name) → Good (ids_text list) (ids_text (map mend_name list))
good_ids list = good_list name_text (mark ":") refl mend_name good_name list

good_star : (star : Bool) → Good (star_text star) (star_text star)
good_star true = behind_token (mark "*") refl none
good_star false = none

good_option : (option : InsnOption) → Mended option_text option
good_option (id name) = (id (mend_name name), behind_token (key "id") (word_well (codes "id") refl) (behind_token (mark "=") refl (good_name name)))
good_option (dep star ids) = (dep star (map mend_name ids), behind_token (key "dep") (word_well (codes "dep") refl) (behind_token (mark "=") refl (both (good_star star) (good_ids ids))))
good_option (inames name list) = (inames (mend_name name) (map mend_name list), behind_token (key "inames") (word_well (codes "inames") refl) (behind_token (mark "=") refl (good_ids (name ∷ list))))
good_option (condition test) = let h = good_or test in (condition h.0, behind_token (key "if") (word_well (codes "if") refl) (behind_token (mark "=") refl h.1))

good_options : (options : Option (List InsnOption)) → Mended options_text options
good_options None = (None, none)
good_options (Some options) = (Some (trees good_option options), behind_token (mark "{") refl (both (good_all option_text (mark ",") refl good_option options) (behind_token (mark "}") refl none)))

good_declared : (declared : Declared) → Good (declared_text declared) (declared_text declared)
good_declared undeclared = none
good_declared Inferred = behind_token (mark "<") refl (behind_token (mark ">") refl none)
good_declared (Of kind) = behind_token (mark "<") refl (behind_token (word (kind_word kind)) (good_kind kind) (behind_token (mark ">") refl none))

good_place : (place : Option Sums) → Mended place_text place
good_place None = (None, none)
good_place (Some places) = let h = good_sums places in (Some h.0, bracketed h.1)

good_stored : (stored : Stored) → Good (stored_text stored) (stored_text stored)
good_stored Plain = behind_token (mark "=") refl none
good_stored (Update folding.Sum) = behind_token (mark "+=") refl none
good_stored (Update folding.Product) = behind_token (mark "*=") refl none
good_stored (Update (folding.Extreme Min)) = behind_token (key "min") (good_extreme Min) (behind_token (mark "=") refl none)
good_stored (Update (folding.Extreme Max)) = behind_token (key "max") (good_extreme Max) (behind_token (mark "=") refl none)

good_insn : (i : Insn) → Mended insn_text i
good_insn i =
    let p = good_place i.place in
    let v = good_or i.value in
    let o = good_options i.options in (
      record { declared = i.declared; cell = mend_name i.cell; place = p.0; stored = i.stored; value = v.0; options = o.0 },
      both (both (both (both (both (good_declared i.declared) (good_name i.cell)) p.1) (good_stored i.stored)) v.1) o.1,
    )

good_line : (line : Line) → Mended line_text line
good_line (domain known made conds) = (
  domain (map mend_name known) (map mend_name made) (trees good_chain conds),
  both (both (both (behind_token (key "domain") (word_well (codes "domain") refl) (bracketed (good_names known))) (behind_token (mark "->") refl (behind_token (mark "{") refl (bracketed (good_names made))))) (good_ruled conds)) (behind_token (mark "}") refl none),
)
good_line (assume chain chains) = let h = good_chain chain in (assume h.0 (trees good_chain chains), behind_token (key "assume") (word_well (codes "assume") refl) (good_conds (chain ∷ chains)))
good_line (input name kind shape) = let h = good_sums shape in (input (mend_name name) kind h.0, behind_token (key "input") (word_well (codes "input") refl) (both (good_typed name kind) (bracketed h.1)))
good_line (output name kind shape) = let h = good_sums shape in (output (mend_name name) kind h.0, behind_token (key "output") (word_well (codes "output") refl) (both (good_typed name kind) (bracketed h.1)))
good_line (temp name kind shape) = (temp (mend_name name) kind (map mend_number shape), behind_token (key "temp") (word_well (codes "temp") refl) (both (good_typed name kind) (good_numbers shape)))
good_line (rule name params body) = let h = good_or body in (rule (mend_name name) (map mend_name params) h.0, behind_word name.word (both (parenthesized (good_names params)) (behind_token (mark ":=") refl h.1)))
good_line (insn i) = let h = good_insn i in (insn h.0, h.1)

good_lines : (lines : List (Option Line)) → Mended lines_text lines
good_lines [] = ([], none)
good_lines (None ∷ lines) = let h = good_lines lines in (None ∷ h.0, behind_token line_end tt h.1)
good_lines (Some line ∷ lines) = let h = good_line line in let k = good_lines lines in (Some h.0 ∷ k.0, both h.1 (behind_token line_end tt k.1))

good_before : (count : ℕ) → Good (repeat count (line_end ∷ [])) (repeat count (line_end ∷ []))
good_before zero = none
good_before (suc count) = behind_token line_end tt (good_before count)

pub good_file : (file : File) → Mended file_text file
good_file file =
    let h = good_lines file.lines in
    (record { before = file.before; lines = h.0 }, both (good_before file.before) (behind_token (key "kernel") (word_well (codes "kernel") refl) (behind_token (number (codes "1")) (number_well (codes "1") refl) (behind_token line_end tt h.1))))
