-- The kinds of the temporaries of a kernel.
use Rattle.std.specs.Prelude.{ℕ, zero, suc, ◌+◌, Bool, false, nat_eq, List, [], ◌∷◌, find, length, slice_get, Option, Some, None}
use Rattle.wrap_words.specs.declared.kind.Kind.{Kind}
use Rattle.expr_tree.specs.declared.tree.Cell.{Cell}
use Rattle.expr_tree.specs.declared.tree.Cell.TheVariants.{Array, Temp}
use Rattle.expr_tree.specs.Value.{first_of_two}
use Rattle.kernel_ir.specs.declared.kernel.Kernel.{Kernel}
use Rattle.kernel_ir.specs.declared.kernel.Insn.{Insn}
use Rattle.kernel_ir.specs.declared.kernel.Temp as temp
use Rattle.kernel_ir.specs.Kinds.{array_kind}
use Rattle.kind_faults.specs.declared.leads.Leading.{Leading}
use Rattle.kind_faults.specs.declared.leads.Leading.TheVariants as lead
use Rattle.type_infer.specs.Leads.{leading}

abbrev pub is_temp : ℕ → Cell → Bool
is_temp t (Array n) = false
is_temp t (Temp n) = nat_eq n t

-- what the value leads with that the first instruction stores to a temporary
abbrev pub value_leading : Kernel → Option Insn → Option Leading
value_leading K None = None
value_leading K (Some A) = leading K A.value

abbrev pub stored_leading : Kernel → ℕ → Option Leading
stored_leading K t = value_leading K (find (λ A. is_temp t A.cell) K.insns)

-- the kind of a read or cast, by the kinds of the temporaries
abbrev pub leading_kind : Kernel → (ℕ → Option Kind) → Option Leading → Option Kind
leading_kind K kind None = None
leading_kind K kind (Some (lead.Cast k)) = Some k
leading_kind K kind (Some (lead.Read (Array n))) = array_kind (slice_get K.arrays n)
leading_kind K kind (Some (lead.Read (Temp n))) = kind n

-- the kind that a temporary has, or else the other one; there is none where there is no such temporary
abbrev pub own_kind : Option temp.Temp → Option Kind → Option Kind
own_kind None other = None
own_kind (Some t) other = first_of_two t.kind other

-- The kind of a temporary: the one that it has, or that of what leads the first value stored to it, on a way of at most so many temporaries.
abbrev pub kind_to : Kernel → (ℕ → Option Leading) → ℕ → ℕ → Option Kind
kind_to K stored zero t = None
kind_to K stored (suc n) t = own_kind (slice_get K.temps t) (leading_kind K (kind_to K stored n) (stored t))

-- a way that is longer than there are temporaries comes back to one of them
abbrev pub kind_by : Kernel → (ℕ → Option Leading) → ℕ → Option Kind
kind_by K stored = kind_to K stored (length K.temps)

abbrev pub inferred_kind : Kernel → ℕ → Option Kind
inferred_kind K = kind_by K (stored_leading K)

abbrev pub with_kinds : (ℕ → Option Kind) → ℕ → List temp.Temp → List temp.Temp
with_kinds kind at [] = []
with_kinds kind at (t ∷ ts) = record t { kind = kind at } ∷ with_kinds kind (at + 1) ts

-- The kernel with the kinds of its temporaries, each as far as it has one.
abbrev pub inferred : Kernel → Kernel
inferred K = record K { temps = with_kinds (inferred_kind K) 0 K.temps }
