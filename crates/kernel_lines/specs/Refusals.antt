-- Which line of a file is refused, and by which rule.
use Rattle.std.specs.Prelude.{ℕ, ℤ, pos, List, [], ◌∷◌, Option, codes}
use Rattle.std.specs.Option.{option_or, option_map}
use Rattle.kernel_ir.specs.declared.fault.Site.TheVariants.{Kernel}
use Rattle.kernel_ir.specs.declared.fault.Refusal.{Refusal}
use Rattle.kernel_ir.specs.Refusals.{refusal, passed_limit, unknown_name, taken_name}
use Rattle.kernel_names.specs.declared.limit.Limit.{Limit}
use Rattle.kernel_names.specs.declared.limit.Limit.TheVariants as limit
use Rattle.kernel_names.specs.declared.limit.LineFaults.{LineFaults}

-- the word of a limit
abbrev pub limit_word : Limit → List ℕ
limit_word limit.Parameters = codes "parameters"
limit_word limit.Names = codes "names"
limit_word limit.Places = codes "places"
limit_word limit.Wide = codes "number"
limit_word limit.Number = codes "number"
limit_word limit.Cells = codes "cells"
limit_word limit.Depth = codes "depth"
limit_word limit.Form = codes "form"
limit_word limit.Inames = codes "inames"
limit_word limit.Instructions = codes "instructions"

-- what is allowed at most
abbrev pub limit_most : Limit → ℤ
limit_most limit.Parameters = pos 16
limit_most limit.Names = pos 65536
limit_most limit.Places = pos 8
limit_most limit.Wide = pos 18446744073709551615
limit_most limit.Number = pos 1048576
limit_most limit.Cells = pos 4096
limit_most limit.Depth = pos 64
limit_most limit.Form = pos 4611686018427387904
limit_most limit.Inames = pos 16
limit_most limit.Instructions = pos 64

abbrev pub limit_refusal : Limit → Refusal
limit_refusal l = passed_limit Kernel (limit_word l) (limit_most l)

-- rule 6: an array, a rule, or the word of what is no index expression
abbrev pub not_affine : List ℕ → Refusal
not_affine word = refusal Kernel 6 (word ∷ []) []

-- of one line rule 3 comes first, then rules 1, 2 and 6
abbrev pub faults_refusal : LineFaults → Option Refusal
faults_refusal f =
    option_or (option_map limit_refusal f.limit) (option_or (option_map (unknown_name Kernel) f.unknown)
    (option_or (option_map (taken_name Kernel) f.taken) (option_map not_affine f.shape)))

abbrev pub at_line : ℕ → Refusal → Refusal
at_line line r = record r { line = line }

abbrev pub line_refusal : ℕ → LineFaults → Option Refusal
line_refusal line f = option_map (at_line line) (faults_refusal f)
