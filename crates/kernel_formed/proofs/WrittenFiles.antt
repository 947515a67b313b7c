-- Each line of a kernel file is as the grammar has it.
use Rattle.std.proofs.Common.{◌≡◌, ℕ, ◌+◌, true, List, [], ◌∷◌, codes, Option, Some, None, refl, sym, subst}
use Rattle.std.specs.List.{list_all, repeat}
use Rattle.std.proofs.lemmas.Bool.{and_from}
use Rattle.kernel_grammar.specs.declared.file.KernelFile.{KernelFile}
use Rattle.kernel_grammar.specs.Lexicals.{number, line_end, key}
use Rattle.kernel_grammar.specs.Lines.{Line, line_text}
use Rattle.kernel_grammar.specs.Syntax.{item_of}
use Rattle.kernel_grammar.specs.Files.{lines_text, entries_from, IsKernelFile}
use Rattle.kernel_ir.specs.NameSpace.{is_identifier}
use Rattle.kernel_names.specs.Said.{said_in}
use Rattle.kernel_formed.specs.Written.{steps_fit, is_written, AreWritten}
use Rattle.kernel_formed.proofs.Words.{WordsFit, first_fits, second_fits, words_fit}
use Rattle.kernel_formed.proofs.WrittenNames.{names_written}
use Rattle.kernel_formed.proofs.WrittenSteps.{steps_written}

line_written : (line : Line) → WordsFit (line_text line) → is_written (item_of line) ≡ true
line_written line h =
    let item = item_of line in
    and_from (list_all (λ s. is_identifier s.name) (said_in item)) (steps_fit item) (names_written line h) (steps_written line h)

lines_written : (n : ℕ) (lines : List (Option Line)) → WordsFit (lines_text lines) → AreWritten (entries_from n lines)
lines_written n [] h = refl
lines_written n (None ∷ lines) h = lines_written (n + 1) lines h
lines_written n (Some line ∷ lines) h =
    let rest = line_end ∷ lines_text lines in
    and_from (is_written (item_of line)) (list_all (λ e. is_written e.item) (entries_from (n + 1) lines))
    (line_written line (first_fits (line_text line) rest h)) (lines_written (n + 1) lines (second_fits (line_text line) rest h))

pub file_written : (bytes : List ℕ) (file : KernelFile) → IsKernelFile bytes file → AreWritten file.entries
file_written bytes file h =
    let tree = h.file.tree in
    let fits = subst WordsFit (sym h.file.spelled) (words_fit bytes h.tokens h.are) in
    let said = key "kernel" ∷ number (codes "1") ∷ line_end ∷ lines_text tree.lines in
    subst (λ (f : KernelFile). AreWritten f.entries) h.file.means
    (lines_written (tree.before + 2) tree.lines (second_fits (repeat tree.before (line_end ∷ [])) said fits))
