-- The value and the predicate of an instruction are at most 64 deep.
use Rattle.std.proofs.Common.{◌≡◌, ◌≤◌, ℕ, ◌+◌, max, Bool, true, false, nat_le, List, [], ◌∷◌, Option, Some, None, refl, sym, ap, subst, arith, ◌∙◌}
use Rattle.std.specs.Prelude.{if◌then◌else◌}
use Rattle.kernel_grammar.specs.declared.item.InsnOption.{InsnOption}
use Rattle.kernel_grammar.specs.declared.item.InsnOption.TheVariants.{Id, Dep, Inames, If}
use Rattle.kernel_grammar.specs.declared.step.Infix.TheVariants.{And}
use Rattle.kernel_names.specs.declared.declarations.Declarations.{Declarations}
use Rattle.kernel_names.specs.Roles.{kernel_roles}
use Rattle.untyped.specs.declared.reading.Reading.{Reading}
use Rattle.untyped.specs.declared.tree.Untyped.{Untyped}
use Rattle.untyped.specs.Depths.{Measure, term_measure, tree_depth, IsMeasured}
use Rattle.untyped.specs.Readings.{untyped_of}
use Rattle.untyped.proofs.Depths.{measured}
use Rattle.untyped.proofs.Layers.{at-Infix}
use Rattle.untyped_parts.specs.Conjuncts.{split_of}
use Rattle.untyped_parts.proofs.SplitDepths.{rest_depth}
use Rattle.kernel_files.specs.declared.options.Predicate.{Predicate}
use Rattle.kernel_files.specs.declared.options.ReadOptions.{ReadOptions}
use Rattle.kernel_files.specs.Options.{no_options, predicate_of, conjunction, joined, with_option, options_behind, options_of}
use Rattle.kernel_files.specs.Insns.{rest_in, IsShallowRest}

-- a predicate is as deep as it is said to be, and at most 64 deep
record Fine (p : Predicate) : Type 0 where
  pub depth : p.depth ≡ tree_depth p.tree
  pub most : p.depth ≤ 64

abbrev FineIn : Option Predicate → Type 0
FineIn None = Unit {0}
FineIn (Some p) = Fine p

-- `and` of two that are less than 64 deep
joined_by : (b : Bool) (p q : Predicate) → nat_le 64 (max p.depth q.depth) ≡ b → Fine p → Fine q → Fine (if b then p else conjunction p q)
joined_by true p q is h k = h
joined_by false p q is h k = record {
  depth = omega (arith, ap (λ (m : Measure). m.depth) (at-Infix term_measure And p.tree q.tree), h.depth, k.depth);
  most = grind (arith, is);
}

joined_fine : (p : Option Predicate) (q : Predicate) → FineIn p → Fine q → Fine (joined p q)
joined_fine None q h k = k
joined_fine (Some p) q h k = joined_by (nat_le 64 (max p.depth q.depth)) p q refl h k

read_fine : (r : Reading) → IsMeasured r → Fine (predicate_of r)
read_fine r h = record { depth = h.depth; most = h.most }

module _ (D : Declarations) (ids : List (List ℕ)) where
  option_fine : (s : ReadOptions) (o : InsnOption) → FineIn s.predicate → FineIn (with_option D ids s o).predicate
  option_fine s (Id name) h = h
  option_fine s (Dep automatic names) h = h
  option_fine s (Inames names) h = h
  option_fine s (If steps) h =
      let r = untyped_of (kernel_roles D) steps in
      joined_fine s.predicate (predicate_of r) h (read_fine r (measured (kernel_roles D) steps))

  options_fine : (s : ReadOptions) (os : List InsnOption) → FineIn s.predicate → FineIn (options_behind D ids s os).predicate
  options_fine s [] h = h
  options_fine s (o ∷ os) h = options_fine (with_option D ids s o) os (option_fine s o h)

shallow_rest : (rest : Option Untyped) → ((e : Untyped) → rest ≡ Some e → tree_depth e ≤ 64) → IsShallowRest rest
shallow_rest None h = tt
shallow_rest (Some e) h = h e refl

fine_rest : (p : Option Predicate) → FineIn p → IsShallowRest (rest_in p)
fine_rest None h = tt
fine_rest (Some p) h = shallow_rest (split_of p.tree).rest (λ e is. omega (arith, rest_depth p.tree e is, h.depth, h.most))

pub shallow_options : (D : Declarations) (ids : List (List ℕ)) (options : List InsnOption) (r : ReadOptions) → r ≡ options_of D ids options → IsShallowRest (rest_in r.predicate)
shallow_options D ids options r is =
    subst (λ (o : ReadOptions). IsShallowRest (rest_in o.predicate)) (sym is)
    (fine_rest (options_of D ids options).predicate (options_fine D ids no_options options tt))
