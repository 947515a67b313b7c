-- The first read or cast of an expression outside its inner tests.
use Rattle.std.specs.Prelude.{ℕ, Option, Some, None}
use Rattle.std.specs.Option.{option_or}
use Rattle.kernel_grammar.specs.declared.step.Prefix.{Prefix}
use Rattle.kernel_grammar.specs.declared.step.Prefix.TheVariants.{Not}
use Rattle.kernel_grammar.specs.declared.step.Infix.{Infix}
use Rattle.kernel_grammar.specs.declared.step.Infix.TheVariants.{Or, And, Compare, NotEqual}
use Rattle.kind_faults.specs.declared.leads.Leading.{Leading}
use Rattle.kind_faults.specs.declared.leads.Leading.TheVariants as lead
use Rattle.untyped.specs.declared.tree.Term.TheOpen.{Term-F, Untyped-F}
use Rattle.untyped.specs.declared.tree.Untyped.{Untyped, fold-Untyped}

-- a test has none
abbrev pub prefix_leads : Prefix → Option Leading → Option Leading
prefix_leads Not a = None
prefix_leads _ a = a

abbrev pub infix_leads : Infix → Option Leading → Option Leading → Option Leading
infix_leads Or a b = None
infix_leads And a b = None
infix_leads (Compare relation) a b = None
infix_leads NotEqual a b = None
infix_leads _ a b = option_or a b

-- One term, with what each part leads with in its place, and with what uses of rules lead with.
abbrev pub term_leads : (ℕ → Option Leading) → Term-F (Option Leading) (Option Leading) → Option Leading
term_leads call (Term-F.Index form constant) = None
term_leads call (Term-F.Literal n) = None
term_leads call (Term-F.Read cell place) = Some (lead.Read cell)
term_leads call (Term-F.Use rule arguments) = call rule
term_leads call (Term-F.Prefix op a) = prefix_leads op a
term_leads call (Term-F.Infix op a b) = infix_leads op a b
term_leads call (Term-F.ShiftLeft a by) = a
term_leads call (Term-F.ShiftRight a by) = a
term_leads call (Term-F.Cast to a) = Some (lead.Cast to)
term_leads call (Term-F.Choose t a b) = option_or a b
term_leads call (Term-F.Fold how inames a) = a

abbrev pub tree_leads : Untyped-F (Option Leading) (Option Leading) → Option Leading
tree_leads e = e.term

abbrev pub leading_of : (ℕ → Option Leading) → Untyped → Option Leading
leading_of call = fold-Untyped (Option Leading) (Option Leading) (term_leads call) tree_leads
