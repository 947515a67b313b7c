-- One refusal behind another.
use Rattle.std.proofs.Common.{◌≡◌, ℕ, List, refl, sym, subst, inl, inr}
use Rattle.std.specs.Prelude.{Option, Some, None, Result, Ok, Err, IfOk}
use Rattle.kernel_ir.specs.declared.fault.Fault.{Fault}
use Rattle.kernel_ir.specs.declared.fault.Fault.TheVariants.{OutOfMemory, Rule}
use Rattle.kernel_ir.specs.declared.fault.Refusal.{Refusal}
use Rattle.kernel_ir.specs.Refusals.{Refuses}
use Rattle.kernel_files.specs.declared.files.ReadKernel.{ReadKernel}
use Rattle.kernel_files.specs.Files.{read_of, kernel_of, lines_refusal}
use Rattle.kernel_files.specs.Reading.{front_refusal, IsSyntaxRefusal, IsFileRefusal}
use Rattle.kernel_grammar.specs.declared.file.KernelFile.{KernelFile}
use Rattle.kernel_grammar.specs.Files.{IsKernelFile}
use Rattle.kernel_formed.specs.Laws.{FileIsFormed, FileIsMade}
use Rattle.kernel_kinds.specs.Laws.{IsMadeOf, TypedByTrees}
use Rattle.kernel_ir.specs.declared.kernel.Kernel.{Kernel}
use Rattle.kernel_ir.specs.Valid.{IsFormed}
use Rattle.kernel_kinds.specs.Kinds.{kinds_refusal}
use Rattle.kernel_kinds.specs.Refused.{IsCallsRefusal}
use Rattle.subst_rules.specs.Ready.{IsExpandable}
use Rattle.subst_rules.specs.Refused.{RefusesAs, after, IsExpansionRefusal}
use Rattle.type_infer.specs.Inferred.{inferred}
use Rattle.type_infer.specs.Typing.{IsTypable, typing_refusal}
use Rattle.untyped_parts.specs.declared.trees.InsnTree.{InsnTree}
use Rattle.untyped_parts.specs.declared.trees.RuleTree.{RuleTree}
use Rattle.kernel_reader.specs.Reading.{IsSomeFile, IsThen, IsUsesRefusal, IsContentRefusal, IsTextRefusal, IsReadingRefusal}

-- a refusal of the first kind
pub first_fault : (T U : Type 0) (P Q : Option Refusal → Type 0) (fault : Fault) → RefusesAs {T = T} P (Err fault) → RefusesAs {T = U} (IsThen P Q) (Err fault)
first_fault T U P Q OutOfMemory h = tt
first_fault T U P Q (Rule r) h = inl h

-- an answer behind none of the first kind
pub behind : {T : Type 0} (P Q : Option Refusal → Type 0) (answer : Result T Fault) → P None → RefusesAs Q answer → RefusesAs (IsThen P Q) answer
behind P Q (Ok x) none h = (none, h)
behind P Q (Err OutOfMemory) none h = tt
behind P Q (Err (Rule r)) none h = inr (none, h)

-- the same for a fault of another call
pub behind_fault : (T U : Type 0) (P Q : Option Refusal → Type 0) (fault : Fault) → P None → RefusesAs {T = T} Q (Err fault) → RefusesAs {T = U} (IsThen P Q) (Err fault)
behind_fault T U P Q OutOfMemory none h = tt
behind_fault T U P Q (Rule r) none h = inr (none, h)

-- one refusal alone
pub alone : {T : Type 0} (expected : Option Refusal) (answer : Result T Fault) → Refuses expected answer → RefusesAs (λ r. r ≡ expected) answer
alone expected (Ok x) h = sym h
alone expected (Err OutOfMemory) h = tt
alone expected (Err (Rule r)) h = sym h

-- ---- uses of rules, and kinds

module _ (k : ReadKernel) (rules : List RuleTree) (insns : List InsnTree) (same_rules : rules ≡ k.rules) (same_insns : insns ≡ k.insns) where
  abbrev InUses : Option Refusal → Type 0
  InUses = IsCallsRefusal k.kernel k.rules k.insns

  abbrev InKinds : Option Refusal → Type 0
  InKinds r = r ≡ kinds_refusal k.kernel k.rules k.insns

  -- rules 8 and 7
  pub uses_fault : (T U : Type 0) (fault : Fault) → RefusesAs {T = T} (IsCallsRefusal k.kernel rules insns) (Err fault) → RefusesAs {T = U} (IsUsesRefusal k) (Err fault)
  uses_fault T U fault h =
      first_fault T U InUses (IsThen (IsExpansionRefusal k.kernel) InKinds) fault
      (subst (λ (rs : List RuleTree). RefusesAs {T = T} (IsCallsRefusal k.kernel rs k.insns) (Err fault)) same_rules
      (subst (λ (is : List InsnTree). RefusesAs {T = T} (IsCallsRefusal k.kernel rules is) (Err fault)) same_insns h))

  uses_none : IsCallsRefusal k.kernel rules insns None → InUses None
  uses_none h =
      subst (λ (rs : List RuleTree). IsCallsRefusal k.kernel rs k.insns None) same_rules (subst (λ (is : List InsnTree). IsCallsRefusal k.kernel rules is None) same_insns h)

  -- the limits with uses replaced
  pub expansion_fault : (T U : Type 0) (fault : Fault) → IsCallsRefusal k.kernel rules insns None → RefusesAs {T = T} (IsExpansionRefusal k.kernel) (Err fault) → RefusesAs {T = U} (IsUsesRefusal k) (Err fault)
  expansion_fault T U fault none h =
      behind_fault U U InUses (IsThen (IsExpansionRefusal k.kernel) InKinds) fault (uses_none none) (first_fault T U (IsExpansionRefusal k.kernel) InKinds fault h)

  -- the kinds in the trees
  pub kinds_answer : {T : Type 0} (answer : Result T Fault) → IsCallsRefusal k.kernel rules insns None → IsExpansionRefusal k.kernel None → Refuses (kinds_refusal k.kernel rules insns) answer → RefusesAs (IsUsesRefusal k) answer
  kinds_answer answer none small h =
      behind InUses (IsThen (IsExpansionRefusal k.kernel) InKinds) answer (uses_none none)
      (behind (IsExpansionRefusal k.kernel) InKinds answer small (alone (kinds_refusal k.kernel k.rules k.insns) answer
      (subst (λ (rs : List RuleTree). Refuses (kinds_refusal k.kernel rs k.insns) answer) same_rules (subst (λ (is : List InsnTree). Refuses (kinds_refusal k.kernel rules is) answer) same_insns h))))

-- ---- lines

-- a line that is refused
pub line_fault : (T U : Type 0) (file : KernelFile) (fault : Fault) → Refuses {T = T} (lines_refusal file) (Err fault) → RefusesAs {T = U} (IsContentRefusal file) (Err fault)
line_fault T U file OutOfMemory h = tt
line_fault T U file (Rule r) h = subst (λ (o : Option Refusal). after o (IsUsesRefusal (read_of file)) (Some r)) (sym h) refl

at_lines : (file : KernelFile) (read : ReadKernel) (r : Option Refusal) → lines_refusal file ≡ None → read ≡ read_of file → IsUsesRefusal read r → IsContentRefusal file r
at_lines file read r none is h = subst (λ (o : Option Refusal). after o (IsUsesRefusal (read_of file)) r) (sym none) (subst (λ (k : ReadKernel). IsUsesRefusal k r) is h)

-- what comes behind the lines
pub behind_lines : {T : Type 0} (file : KernelFile) (read : ReadKernel) (answer : Result T Fault) → lines_refusal file ≡ None → read ≡ read_of file → RefusesAs (IsUsesRefusal read) answer → RefusesAs (IsContentRefusal file) answer
behind_lines file read (Ok x) none is h = at_lines file read None none is h
behind_lines file read (Err OutOfMemory) none is h = tt
behind_lines file read (Err (Rule r)) none is h = at_lines file read (Some r) none is h

-- what is refused for its uses of rules or its kinds
pub uses_behind_lines : (T U : Type 0) (file : KernelFile) (read : ReadKernel) (fault : Fault) → lines_refusal file ≡ None → read ≡ read_of file → RefusesAs {T = T} (IsUsesRefusal read) (Err fault)
    → RefusesAs {T = U} (IsContentRefusal file) (Err fault)
uses_behind_lines T U file read OutOfMemory none is h = tt
uses_behind_lines T U file read (Rule r) none is h = at_lines file read (Some r) none is h

never : (o : Option Refusal) (r : Refusal) → o ≡ None → o ≡ Some r → ⊥
never o r none some = cc

inferred_case : {T : Type 0} (file : KernelFile) (read : ReadKernel) (answer : Result T Fault) → lines_refusal file ≡ None → read ≡ read_of file → IsUsesRefusal read None → typing_refusal read.kernel ≡ None
    → Refuses (typing_refusal read.kernel) answer → RefusesAs (IsContentRefusal file) answer
inferred_case file read (Ok x) none is uses typed h = at_lines file read None none is uses
inferred_case file read (Err OutOfMemory) none is uses typed h = tt
inferred_case file read (Err (Rule r)) none is uses typed h = absurd (never (typing_refusal read.kernel) r typed h)

-- where the trees are not refused for kinds, the inference of kinds does not refuse the kernel
pub kinds_behind_lines : {T : Type 0} (file : KernelFile) (read : ReadKernel) (answer : Result T Fault) → FileIsFormed → FileIsMade → TypedByTrees → IsSomeFile file → lines_refusal file ≡ None → read ≡ read_of file
    → IsUsesRefusal read None → Refuses (typing_refusal read.kernel) answer → RefusesAs (IsContentRefusal file) answer
kinds_behind_lines file read answer formed made typed some none is uses h =
    inferred_case file read answer none is uses
    (typed read.kernel read.rules read.insns (subst (λ (k : ReadKernel). IsFormed k.kernel) (sym is) (formed some.0 file some.1 none))
    (subst (λ (k : ReadKernel). IsMadeOf k.kernel k.rules k.insns) (sym is) (made file none)) (sym uses.1.1)) h

-- ---- what is read

-- a kernel of which kinds may be asked
pub typable : (file : KernelFile) (read : ReadKernel) → FileIsFormed → IsSomeFile file → lines_refusal file ≡ None → read ≡ read_of file → IsExpandable read.kernel → IsTypable read.kernel
typable file read law some none is ready = record {
  formed = subst (λ (k : ReadKernel). IsFormed k.kernel) (sym is) (law some.0 file some.1 none);
  arities = ready.arities;
  acyclic = ready.acyclic;
  within = ready.within;
}

-- the kernel with its kinds
pub said : (file : KernelFile) (read : ReadKernel) (answer : Result Kernel Fault) → read ≡ read_of file → IfOk answer (λ k. k ≡ inferred read.kernel) → IfOk answer (λ k. k ≡ inferred (kernel_of file))
said file read answer is h = subst (λ (r : ReadKernel). IfOk answer (λ k. k ≡ inferred r.kernel)) is h

-- ---- bytes

front_case : (bytes : List ℕ) (o : Option Refusal) → after o (IsSyntaxRefusal bytes) None → o ≡ None
front_case bytes None h = refl
front_case bytes (Some r) h = absurd (cc)

-- bytes that are read are not refused as a whole
pub front_none : (bytes : List ℕ) → IsFileRefusal bytes None → front_refusal bytes ≡ None
front_none bytes h = front_case bytes (front_refusal bytes) h

text_case : (bytes : List ℕ) (o : Option Refusal) (r : Refusal) → after o (IsSyntaxRefusal bytes) (Some r) → after o (IsTextRefusal bytes) (Some r)
text_case bytes None r h = inl h
text_case bytes (Some first) r h = h

-- bytes that are no kernel file
pub text_fault : (T U : Type 0) (bytes : List ℕ) (fault : Fault) → RefusesAs {T = T} (IsFileRefusal bytes) (Err fault) → RefusesAs {T = U} (IsReadingRefusal bytes) (Err fault)
text_fault T U bytes OutOfMemory h = tt
text_fault T U bytes (Rule r) h = text_case bytes (front_refusal bytes) r h

at_text : (bytes : List ℕ) (r : Option Refusal) → front_refusal bytes ≡ None → IsTextRefusal bytes r → IsReadingRefusal bytes r
at_text bytes r none h = subst (λ (o : Option Refusal). after o (IsTextRefusal bytes) r) (sym none) h

-- a file that is refused for what it says, or not at all
pub behind_text : {T : Type 0} (bytes : List ℕ) (file : KernelFile) (answer : Result T Fault) → IsFileRefusal bytes None → IsKernelFile bytes file → RefusesAs (IsContentRefusal file) answer → RefusesAs (IsReadingRefusal bytes) answer
behind_text bytes file (Ok x) none is h = at_text bytes None (front_none bytes none) (file, is, h)
behind_text bytes file (Err OutOfMemory) none is h = tt
behind_text bytes file (Err (Rule r)) none is h = at_text bytes (Some r) (front_none bytes none) (inr (file, is, h))
