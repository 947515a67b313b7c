-- Instructions.
use Rattle.std.specs.Prelude.{ℕ, ◌+◌, ◌*◌, ◌≤◌, min, nat_lt, Bool, ◌||◌, if◌then◌else◌, List, [], ◌∷◌, ◌++◌, map, flat_map, filter, length, take, slice_get, Option, Some, None, is_some, unwrap_or}
use Rattle.std.specs.Option.{option_or, option_map}
use Rattle.affine_rows.specs.declared.quasi.Quasi.{Quasi}
use Rattle.expr_tree.specs.declared.tree.Cell.{Cell}
use Rattle.expr_tree.specs.declared.tree.Cell.TheVariants.{Temp}
use Rattle.expr_tree.specs.declared.tree.Op.{Op}
use Rattle.expr_tree.specs.declared.row.QuasiRow.{QuasiRow}
use Rattle.expr_tree.specs.Scenes.{is_among}
use Rattle.kernel_grammar.specs.declared.step.Step.{Step}
use Rattle.kernel_grammar.specs.declared.item.InsnOption.{InsnOption}
use Rattle.kernel_grammar.specs.declared.item.Stored as stored
use Rattle.kernel_grammar.specs.declared.item.Stored.TheVariants.{Plain, Update}
use Rattle.kernel_ir.specs.declared.kernel.Insn.{Insn}
use Rattle.kernel_ir.specs.declared.kernel.Storing.{Storing}
use Rattle.kernel_ir.specs.declared.kernel.Storing.TheVariants as storing
use Rattle.kernel_names.specs.declared.declarations.Declarations.{Declarations}
use Rattle.kernel_names.specs.declared.limit.Limit.{Limit}
use Rattle.kernel_names.specs.declared.limit.Limit.TheVariants as limit
use Rattle.kernel_names.specs.declared.limit.LineFaults.{LineFaults}
use Rattle.kernel_names.specs.Lines.{no_faults, first_faults}
use Rattle.kernel_names.specs.Roles.{kernel_roles, inames_of, name_of}
use Rattle.untyped.specs.declared.tree.Term.TheVariants as term
use Rattle.untyped.specs.declared.tree.Untyped.{Untyped}
use Rattle.untyped.specs.Depths.{tree_depth}
use Rattle.untyped.specs.Exprs.{expr_of, test_of, folding_op}
use Rattle.untyped.specs.Readings.{tree_of, untyped_of}
use Rattle.untyped_parts.specs.Conjuncts.{split_of}
use Rattle.untyped_parts.specs.declared.trees.InsnTree.{InsnTree}
use Rattle.untyped_parts.specs.Mentions.{listed, mentions, bound}
use Rattle.kernel_files.specs.declared.options.Predicate.{Predicate}
use Rattle.kernel_files.specs.declared.insns.ReadInsn.{ReadInsn}
use Rattle.kernel_lines.specs.Places.{forms_of, forms_faults}
use Rattle.kernel_lines.specs.Values.{stored_faults}
use Rattle.kernel_lines.specs.Stores.{stored_cell, deps_of, is_automatic}
use Rattle.kernel_files.specs.Options.{unknown_only, options_of}

-- ---- what is written

-- where there is no cell that may be stored to, its name is unknown and a cell stands for it
abbrev pub cell_faults : Option Cell → List ℕ → LineFaults
cell_faults cell name = unknown_only (if is_some cell then None else Some name)

abbrev pub trees_in : Option Predicate → List Untyped
trees_in None = []
trees_in (Some p) = p.tree ∷ []

-- the store as if it were read, the value and the predicate
abbrev pub trees_of : Cell → List Quasi → Untyped → Option Predicate → List Untyped
trees_of cell place value predicate = record { term = term.Read cell place } ∷ value ∷ trees_in predicate

-- An instruction as it is written: its cell, subscripts, value and options, and what is wrong in these in the order of the text.
abbrev pub read_insn : Declarations → List (List ℕ) → List ℕ → List (List Step) → stored.Stored → List Step → List InsnOption → ReadInsn
read_insn D ids name place how value options =
    let roles = kernel_roles D in
    let cell = stored_cell D name (length place) in
    let v = untyped_of roles value in
    let o = options_of D ids options in
    record {
      cell = unwrap_or cell (Temp 0);
      place = forms_of roles place;
      value = tree_of v.part;
      predicate = o.predicate;
      named = o.named;
      faults = first_faults (cell_faults cell name) (first_faults (forms_faults roles name place) (first_faults (stored_faults how v) o.faults));
    }

-- ---- inames

abbrev pub trees : ReadInsn → List Untyped
trees r = trees_of r.cell r.place r.value r.predicate

-- the variables that are mentioned outside the reductions that bind them, and those of `inames=`
abbrev pub mentioned : ReadInsn → List ℕ
mentioned r = flat_map mentions (trees r) ++ r.named

-- the inames that reductions bind
abbrev pub bound_in : ReadInsn → List ℕ
bound_in r = flat_map bound (trees r)

-- over how many inames each reduction is
abbrev pub widths : Untyped → List ℕ
widths = listed (record { index = λ form. []; read = λ place. []; call = λ rule arguments. []; fold = λ inames inner. length inames ∷ inner })

-- inames of the kernel, in declared order
abbrev pub inames_among : Declarations → List ℕ → List ℕ
inames_among D vars = filter (is_among vars) (inames_of D)

-- the first iname of a reduction that occurs outside it, or that a reduction before binds
abbrev pub first_taken : List ℕ → List ℕ → List ℕ → Option ℕ
first_taken own before [] = None
first_taken own before (v ∷ vs) = if is_among own v || is_among before v then Some v else first_taken own (before ++ v ∷ []) vs

-- ---- the instruction

abbrev pub storing_of : stored.Stored → Storing
storing_of Plain = storing.Plain
storing_of (Update folding) = storing.Update (folding_op folding)

abbrev pub rows_of : Option Predicate → List QuasiRow
rows_of None = []
rows_of (Some p) = (split_of p.tree).rows

abbrev pub rest_in : Option Predicate → Option Untyped
rest_in None = None
rest_in (Some p) = (split_of p.tree).rest

abbrev pub insn_of : Declarations → List ℕ → ℕ → stored.Stored → ReadInsn → List InsnOption → Insn
insn_of D id line how r options = record {
  id = id;
  line = line;
  inames = inames_among D (mentioned r);
  rows = rows_of r.predicate;
  test = option_map test_of (rest_in r.predicate);
  cell = r.cell;
  place = r.place;
  storing = storing_of how;
  value = expr_of r.value;
  deps = deps_of options;
  auto = is_automatic options;
}

-- neither its value nor its data test is deeper than 64
abbrev pub IsShallowRest : Option Untyped → Type 0
IsShallowRest None = Unit {0}
IsShallowRest (Some e) = tree_depth e ≤ 64

pub record IsShallow (r : ReadInsn) : Type 0 where
  pub value : tree_depth r.value ≤ 64
  pub test : IsShallowRest (rest_in r.predicate)

-- the instruction before its kinds are asked
abbrev pub insn_tree : ℕ → ReadInsn → InsnTree
insn_tree line r = record { line = line; cell = r.cell; value = r.value; test = rest_in r.predicate }

-- ---- what is wrong with it as a whole

-- instructions, each reduction counting two more; 65 stands for all that is more
abbrev pub size_with : ℕ → ReadInsn → ℕ
size_with size r = min 65 (size + 1 + 2 * length (flat_map widths (trees r)))

abbrev pub whole_limit : ℕ → ℕ → Option Limit
whole_limit inames size =
    if nat_lt 16 inames then Some limit.Inames else
    if nat_lt 64 size then Some limit.Instructions else None

abbrev pub taken_in : Declarations → List ℕ → Bool → ReadInsn → Option (List ℕ)
taken_in D id taken r =
    option_or (option_map (name_of D) (first_taken (inames_among D (mentioned r)) [] (bound_in r))) (if taken then Some id else None)

-- the count of its inames, those of its reductions among them, and of the instructions so far; an iname or the id that is taken
abbrev pub whole_faults : Declarations → List ℕ → Bool → ℕ → ReadInsn → LineFaults
whole_faults D id taken size r = record no_faults {
  limit = whole_limit (length (inames_among D (mentioned r ++ bound_in r))) size;
  taken = taken_in D id taken r;
}
