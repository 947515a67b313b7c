-- Whole files.
use Rattle.std.proofs.Common.{◌≡◌, ℕ, Bool, List, [], subst, sym, ap, ◌∙◌}
use Rattle.std.specs.Prelude.{Option}
use Rattle.kernel_grammar.specs.declared.file.Entry.{Entry}
use Rattle.kernel_ir.specs.declared.fault.Fault.{Fault}
use Rattle.kernel_ir.specs.declared.fault.Refusal.{Refusal}
use Rattle.kernel_ir.specs.Refusals.{IsFault}
use Rattle.kernel_names.specs.declared.declarations.Declarations.{Declarations}
use Rattle.kernel_names.specs.declared.limit.LineFaults.{LineFaults}
use Rattle.kernel_names.specs.Ids.{ids_of, taken_behind}
use Rattle.kernel_names.specs.Lines.{faults_of}
use Rattle.kernel_names.specs.Roles.{declarations_of}
use Rattle.kernel_grammar.specs.declared.item.Declared.{Declared}
use Rattle.kernel_grammar.specs.declared.item.InsnOption.{InsnOption}
use Rattle.kernel_grammar.specs.declared.item.Item.{Item}
use Rattle.kernel_grammar.specs.declared.item.Item.TheVariants as item
use Rattle.kernel_grammar.specs.declared.item.Stored.{Stored}
use Rattle.kernel_grammar.specs.declared.step.Step.{Step}
use Rattle.kernel_names.specs.Lines.{first_faults}
use Rattle.kernel_files.specs.declared.files.ReadLines.{ReadLines}
use Rattle.kernel_lines.specs.declared.lines.KernelParts.{KernelParts}
use Rattle.kernel_lines.specs.Lines.{with_line, part_faults}
use Rattle.kernel_files.specs.Files.{no_lines, refusal_from, with_insn, insn_faults, with_item, with_entry, entry_faults}

abbrev refusal_in : List Entry → Option Refusal
refusal_in es = refusal_from (declarations_of es) (ids_of es) (taken_behind [] (ids_of es)) (faults_of es) no_lines 0 es

same : (es fs : List Entry) (D : Declarations) (ids : List (List ℕ)) (taken : List Bool) (names given : List LineFaults) → es ≡ fs → D ≡ declarations_of es → names ≡ faults_of es → given ≡ names → ids ≡ ids_of es → taken ≡ taken_behind [] (ids_of es)
    → refusal_from D ids taken given no_lines 0 es ≡ refusal_in fs
same es fs D ids taken names given e d n g i t =
    ap (λ (x : Declarations). refusal_from x ids taken given no_lines 0 es) d
    ∙ (ap (λ (x : List (List ℕ)). refusal_from (declarations_of es) x taken given no_lines 0 es) i
    ∙ (ap (λ (x : List Bool). refusal_from (declarations_of es) (ids_of es) x given no_lines 0 es) t
    ∙ (ap (λ (x : List LineFaults). refusal_from (declarations_of es) (ids_of es) (taken_behind [] (ids_of es)) x no_lines 0 es) (g ∙ n)
    ∙ ap refusal_in e)))

pub refused : (es fs : List Entry) (D : Declarations) (ids : List (List ℕ)) (taken : List Bool) (names given : List LineFaults) (fault : Fault) → es ≡ fs → D ≡ declarations_of es → names ≡ faults_of es → given ≡ names → ids ≡ ids_of es → taken ≡ taken_behind [] (ids_of es)
    → IsFault (refusal_from D ids taken given no_lines 0 es) fault → IsFault (refusal_in fs) fault
refused es fs D ids taken names given fault e d n g i t h = subst (λ (r : Option Refusal). IsFault r fault) (same es fs D ids taken names given e d n g i t) h

-- ---- lines that are instructions

pub added : (D : Declarations) (ids : List (List ℕ)) (k new : ReadLines) (parts : KernelParts) (e : Entry) (declared : Declared) (name : List ℕ) (place p : List (List Step)) (how : Stored) (value v : List Step) (options o : List InsnOption)
    → e.item ≡ item.Insn declared name place how value options → p ≡ place → v ≡ value → o ≡ options → parts ≡ with_line D k.parts e.line e.item
    → new ≡ with_insn D ids (record k { parts = parts }) e.line name p how v o → new ≡ with_entry D ids k e
added D ids k new parts e declared name place p how value v options o is a b d made h =
    h ∙ (ap (λ (x : List (List Step)). with_insn D ids (record k { parts = parts }) e.line name x how v o) a
    ∙ (ap (λ (x : List Step). with_insn D ids (record k { parts = parts }) e.line name place how x o) b
    ∙ (ap (λ (x : List InsnOption). with_insn D ids (record k { parts = parts }) e.line name place how value x) d
    ∙ (ap (λ (x : KernelParts). with_insn D ids (record k { parts = x }) e.line name place how value options) made
    ∙ sym (ap (λ (x : Item). with_item D ids (record k { parts = with_line D k.parts e.line e.item }) e.line x) is)))))

pub wrong_in : (D : Declarations) (ids : List (List ℕ)) (taken : List Bool) (k : ReadLines) (it : Item) (declared : Declared) (name : List ℕ) (place p : List (List Step)) (how : Stored) (value v : List Step) (options o : List InsnOption) (faults wrong both : LineFaults)
    → it ≡ item.Insn declared name place how value options → p ≡ place → v ≡ value → o ≡ options → faults ≡ part_faults D it
    → wrong ≡ insn_faults D ids taken k name p how v o → both ≡ first_faults faults wrong → both ≡ entry_faults D ids taken k it
wrong_in D ids taken k it declared name place p how value v options o faults wrong both is a b d none h joined =
    joined ∙ (ap (λ (x : LineFaults). first_faults x wrong) (none ∙ ap (part_faults D) is)
    ∙ (h ∙ (ap (λ (x : List (List Step)). insn_faults D ids taken k name x how v o) a
    ∙ (ap (λ (x : List Step). insn_faults D ids taken k name place how x o) b
    ∙ (ap (λ (x : List InsnOption). insn_faults D ids taken k name place how value x) d
    ∙ sym (ap (entry_faults D ids taken k) is))))))
