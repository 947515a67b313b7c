-- The rows of a kernel over the variables of a system.
use Rattle.std.specs.Prelude.{ℕ, ◌-◌, ◌^◌, pos, neg_ℤ, Bool, true, false, List, [], ◌∷◌, ◌++◌, map, flat_map, filter, length, Option, Some, None}
use Rattle.affine_rows.specs.declared.quasi.Quasi.{Quasi}
use Rattle.affine_rows.specs.declared.row.System.{System}
use Rattle.affine_rows.specs.Forms.{affine}
use Rattle.expr_tree.specs.declared.row.QuasiRow.{QuasiRow}
use Rattle.expr_tree.specs.Scenes.{is_among, rows_over}
use Rattle.quasi_forms.specs.Collected.{constant_form}
use Rattle.quasi_forms.specs.Renumbered.{place_in, renumbered_form}
use Rattle.quasi_forms.specs.Systems.{system_over}
use Rattle.quasi_forms.specs.declared.systems.Difference.{Difference}
use Rattle.quasi_forms.specs.declared.fault.FormFault.{FormFault}
use Rattle.quasi_forms.specs.declared.fault.FormFault.TheVariants.{Limit}
use Rattle.kernel_ir.specs.declared.fault.Site.TheVariants.{Kernel as kernel_site}
use Rattle.kernel_ir.specs.declared.fault.Refusal.{Refusal}
use Rattle.kernel_ir.specs.declared.kernel.Array as array
use Rattle.kernel_ir.specs.declared.kernel.Kernel.{Kernel}
use Rattle.kernel_ir.specs.declared.kernel.Insn.{Insn}
use Rattle.kernel_ir.specs.NameSpace.{iname_vars}
use Rattle.kernel_ir.specs.Refusals.{refusal}
use Rattle.kernel_limits.specs.SizeForms.{small_size_form}
use Rattle.inst_model.specs.Instances.{rows_of}
use Rattle.kernel_rules.specs.Kept.{kept_system}

abbrev pub zero_form : Quasi
zero_form = constant_form (pos 0)

-- the form is at least 0, or equals 0, over the places of the variables
abbrev pub asked : List ℕ → QuasiRow → Difference
asked vars r = record { form = renumbered_form vars r.form; less = zero_form; equal = r.equal }

abbrev pub at_least_zero : Quasi → Difference
at_least_zero q = record { form = q; less = zero_form; equal = false }

-- the inames of the instruction and of these reductions in declared order
abbrev pub insn_inames : Kernel → Insn → List ℕ → List ℕ
insn_inames K A folds = filter (is_among (A.inames ++ folds)) (iname_vars K)

-- the parameters, and these inames
abbrev pub insn_vars : Kernel → Insn → List ℕ → List ℕ
insn_vars K A folds = K.params ++ insn_inames K A folds

-- the rows of the instruction: those of the domain over its inames and parameters, then its own
abbrev pub insn_rows : Kernel → Insn → List ℕ → List Difference
insn_rows K A vars = map (asked vars) (rows_of K A)

-- the domain rows that mention an iname of the reductions, and otherwise what is in scope
abbrev pub fold_rows : Kernel → Insn → List ℕ → List ℕ → List Difference
fold_rows K A folds vars = map (asked vars) (rows_over K.params K.rows A.inames folds)

-- ---- context

-- a parameter is from -2^31 to 2^31-1
unfoldable pub range_rows : List ℕ → ℕ → List Difference
range_rows vars v =
    at_least_zero (affine (pos (2 ^ 31)) ((place_in vars v, pos 1) ∷ []))
    ∷ at_least_zero (affine (pos (2 ^ 31 - 1)) ((place_in vars v, neg_ℤ (pos 1)) ∷ []))
    ∷ []

-- the product of the entries, of which at most one is no number, is at most 2^31-1
abbrev pub size_row : List ℕ → Option Quasi → List Difference
size_row vars None = []
size_row vars (Some size) = at_least_zero (renumbered_form vars size) ∷ []

-- each entry is at least 0, and the product is small
abbrev pub array_rows : List ℕ → array.Array → List Difference
array_rows vars a = map (λ q. at_least_zero (renumbered_form vars q)) a.shape ++ size_row vars (small_size_form a.shape)

abbrev pub context_rows : Kernel → List ℕ → List Difference
context_rows K vars = flat_map (range_rows vars) K.params ++ (map (asked vars) K.assumptions ++ flat_map (array_rows vars) K.arrays)

-- ---- one instruction

abbrev pub context_if : Bool → Kernel → List ℕ → List Difference
context_if true K vars = context_rows K vars
context_if false K vars = []

-- the rows of the instruction, of its reductions over these inames, and the context where it is asked for
abbrev pub rows_in : Kernel → Insn → List ℕ → Bool → List ℕ → List Difference
rows_in K A folds context vars = insn_rows K A vars ++ fold_rows K A folds vars ++ context_if context K vars

abbrev pub system_of_insn : Kernel → Insn → List ℕ → Bool → System
system_of_insn K A folds context = kept_system (system_over (length (insn_vars K A folds)) (rows_in K A folds context (insn_vars K A folds)))

-- a system before its first stage passes a limit
abbrev pub too_wide_before : Refusal
too_wide_before = refusal kernel_site 18 [] (pos 0 ∷ pos 0 ∷ [])

-- ---- faults of systems

-- of what a fault of forms is the refusal, if of anything
abbrev pub form_refusal : FormFault → Option Refusal
form_refusal Limit = Some too_wide_before
form_refusal _ = None
