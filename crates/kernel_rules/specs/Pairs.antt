-- Two instances that touch one cell.
use Rattle.std.specs.Prelude.{ℕ, ◌-◌, ◌^◌, pos, Bool, true, false, not, ◌||◌, ◌&&◌, List, [], ◌∷◌, ◌++◌, map, filter, length, replicate}
use Rattle.std.specs.List.{list_any}
use Rattle.std.specs.Ordering.{int_eq}
use Rattle.affine_rows.specs.declared.quasi.Quasi.{Quasi, out-Quasi, roll-Quasi}
use Rattle.affine_rows.specs.declared.quasi.Floor.{Floor, out-Floor}
use Rattle.affine_rows.specs.Forms.{affine}
use Rattle.quasi_forms.specs.Alike.{same_form}
use Rattle.quasi_forms.specs.Renumbered.{place_in, renumbered_form}
use Rattle.quasi_forms.specs.declared.systems.Difference.{Difference}
use Rattle.kernel_ir.specs.declared.kernel.Kernel.{Kernel}
use Rattle.kernel_ir.specs.declared.kernel.Insn.{Insn}
use Rattle.inst_model.specs.Instances.{depends_on}
use Rattle.kernel_rules.specs.declared.access.Access.{Access}
use Rattle.kernel_rules.specs.Rows.{insn_inames, insn_rows, fold_rows, context_rows}

-- a number that is no variable's
abbrev pub no_variable : ℕ
no_variable = 2 ^ 32 - 1

-- the variables of the first instance, and those of the second behind places for the first's
abbrev pub first_vars : Kernel → Insn → List ℕ → List ℕ
first_vars K A folds = K.params ++ insn_inames K A folds

abbrev pub gaps : List ℕ → List ℕ
gaps vs = replicate (length vs) no_variable

abbrev pub second_vars : Kernel → Insn → List ℕ → Insn → List ℕ → List ℕ
second_vars K A a B b = K.params ++ gaps (insn_inames K A a) ++ insn_inames K B b

-- two floors of the same form by the same divisor, with the same factor
abbrev pub cancels : Floor → Floor → Bool
cancels f g = int_eq (out-Floor f).times (out-Floor g).times && (int_eq (out-Floor f).by (out-Floor g).by && same_form (out-Floor f).inner (out-Floor g).inner)

abbrev pub has_floor : List Floor → Floor → Bool
has_floor gs f = list_any (cancels f) gs

-- the form without those of its floors that stand among these with the same factor
abbrev pub without_floors : List Floor → Quasi → Quasi
without_floors gs q = roll-Quasi (record { constant = (out-Quasi q).constant; terms = (out-Quasi q).terms; floors = filter (λ f. not (has_floor gs f)) (out-Quasi q).floors })

-- the two subscripts are equal; a floor that cancels stands in none
abbrev pub equal_forms : Quasi → Quasi → Difference
equal_forms p q = record { form = without_floors (out-Quasi q).floors p; less = without_floors (out-Quasi p).floors q; equal = true }

unfoldable pub equal_place : List ℕ → List ℕ → Quasi → Quasi → Difference
equal_place first second p q = equal_forms (renumbered_form first p) (renumbered_form second q)

-- the subscripts are equal place by place
abbrev pub equal_places : List ℕ → List ℕ → List Quasi → List Quasi → List Difference
equal_places first second [] qs = []
equal_places first second (p ∷ ps) [] = []
equal_places first second (p ∷ ps) (q ∷ qs) = equal_place first second p q ∷ equal_places first second ps qs

abbrev pub variable : List ℕ → ℕ → Quasi
variable vars v = affine (pos 0) ((place_in vars v, pos 1) ∷ [])

unfoldable pub equal_home : List ℕ → List ℕ → ℕ → Difference
equal_home first second v = record { form = variable first v; less = variable second v; equal = true }

-- rows of both, of the reductions round both accesses, the context, equal subscripts, equal home inames
abbrev pub rows_of_both : Kernel → Insn → Access → Insn → Access → List ℕ → List ℕ → List ℕ → List Difference
rows_of_both K A a B b homes first second =
    insn_rows K A first ++ insn_rows K B second ++ fold_rows K A a.folds first ++ fold_rows K B b.folds second ++ context_rows K first
    ++ equal_places first second a.place b.place ++ map (equal_home first second) homes

-- where instances that agree on the shared inames are ordered
abbrev pub are_ordered : Bool → Insn → Insn → Bool → Bool
are_ordered true A B same = depends_on B A
are_ordered false A B same = same || (depends_on B A || depends_on A B)

unfoldable pub partner : List ℕ → List ℕ → ℕ → ℕ × ℕ
partner first second v = (place_in first v, place_in second v)
