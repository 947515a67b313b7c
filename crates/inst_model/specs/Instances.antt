-- Instances of a kernel and their direct order.
use Rattle.std.specs.Prelude.{◌≡◌, ℕ, ℤ, pos, Bool, true, not, ◌&&◌, ◌||◌, List, ◌++◌, length, filter, bytes_eq}
use Rattle.std.specs.List.{list_all, list_any}
use Rattle.std.specs.Ordering.{int_eq}
use Rattle.kernel_ir.specs.declared.kernel.Kernel.{Kernel}
use Rattle.kernel_ir.specs.declared.kernel.Insn.{Insn}
use Rattle.expr_tree.specs.declared.row.QuasiRow.{QuasiRow}
use Rattle.step_orders.specs.Orders.{Has, Once, Respects}
use Rattle.expr_tree.specs.Scenes.{Scene, given, is_among, rows_hold, mentions_only}
use Rattle.inst_model.specs.Arguments.{Arguments, params_at}

-- an instruction with one number for each of its inames
pub record Instance : Type 0 where
  pub insn : Insn
  pub numbers : List ℤ

-- the number that the instance has for an iname
abbrev pub number_at : Instance → ℕ → ℤ
number_at x v = given x.insn.inames x.numbers (λ u. pos 0) v

-- where its expressions stand
abbrev pub scene_of : Kernel → Arguments → Instance → Scene
scene_of K a x = record { scope = x.insn.inames; env = given x.insn.inames x.numbers (params_at K a) }

-- the domain rows that mention only the instruction's inames and parameters, and then its own
abbrev pub rows_of : Kernel → Insn → List QuasiRow
rows_of K A = filter (λ r. mentions_only (K.params ++ A.inames) r.form) K.rows ++ A.rows

-- An instance of the kernel under the arguments: every row of its instruction holds.
pub record IsInstance (K : Kernel) (a : Arguments) (x : Instance) : Type 0 where
  pub insn : Has K.insns x.insn
  pub numbers : length x.numbers ≡ length x.insn.inames
  pub rows : rows_hold (scene_of K a x).env (rows_of K x.insn) ≡ true

-- the second instruction depends on the first
abbrev pub depends_on : Insn → Insn → Bool
depends_on B A = list_any (bytes_eq A.id) B.deps

-- the instances agree on the inames that their instructions share
abbrev pub agree : Instance → Instance → Bool
agree x y = list_all (λ v. not (is_among y.insn.inames v) || int_eq (number_at x v) (number_at y v)) x.insn.inames

-- The direct order of instances.
abbrev pub directly_before : Kernel → Instance → Instance → Bool
directly_before K x y = depends_on y.insn x.insn && agree x y

-- A respecting order: all instances, each once, every directly ordered pair in that order.
pub record IsRespectingOrder (K : Kernel) (a : Arguments) (xs : List Instance) : Type 0 where
  pub once : Once xs
  pub all : (x : Instance) → IsInstance K a x → Has xs x
  pub only : (x : Instance) → Has xs x → IsInstance K a x
  pub respects : Respects (directly_before K) xs
