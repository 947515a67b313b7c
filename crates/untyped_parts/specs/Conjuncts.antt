-- Predicates as rows and the rest.
use Rattle.std.specs.Prelude.{false, ◌||◌, [], ◌∷◌, ◌++◌, Option, Some, None}
use Rattle.affine_rows.specs.declared.quasi.Quasi.{Quasi}
use Rattle.kernel_grammar.specs.declared.item.Relation.{Relation}
use Rattle.kernel_grammar.specs.declared.step.Infix.{Infix}
use Rattle.kernel_grammar.specs.declared.step.Infix.TheVariants.{And, Compare}
use Rattle.untyped.specs.declared.tree.Term.TheOpen.{Term-F, Untyped-F}
use Rattle.untyped.specs.declared.tree.Term.TheVariants as term
use Rattle.untyped.specs.declared.tree.Untyped.{Untyped, fold-Untyped}
use Rattle.untyped.specs.Exprs.{form_of}
use Rattle.untyped_parts.specs.declared.conjuncts.Link.{Link}
use Rattle.untyped_parts.specs.declared.conjuncts.Link.TheVariants.{Conjunction, Compared, Other}
use Rattle.untyped_parts.specs.declared.conjuncts.Split.{Split}
use Rattle.untyped_parts.specs.declared.rows.RowReading.{RowReading}
use Rattle.untyped_parts.specs.Rows.{row_of}

-- an expression, and it as a predicate
pub record Parted : Type 0 where
  pub tree : Untyped
  pub split : Split

abbrev pub link_of : Infix → Link
link_of And = Conjunction
link_of (Compare r) = Compared r
link_of _ = Other

abbrev pub whole : Untyped → Split
whole e = record { rows = []; over = false; rest = Some e }

abbrev pub row_alone : RowReading → Split
row_alone r = record { rows = r.row ∷ []; over = r.over; rest = None }

-- what is left of two predicates that both have to hold
abbrev pub both : Option Untyped → Option Untyped → Option Untyped
both None b = b
both (Some x) None = Some x
both (Some x) (Some y) = Some (record { term = term.Infix And x y })

abbrev pub joined : Split → Split → Split
joined a b = record { rows = a.rows ++ b.rows; over = a.over || b.over; rest = both a.rest b.rest }

abbrev pub compared : Relation → Option Quasi → Option Quasi → Untyped → Split
compared r (Some f) (Some g) e = row_alone (row_of r f g)
compared r (Some f) None e = whole e
compared r None g e = whole e

-- conjuncts are looked for through `and`; a comparison of two index expressions is a row
abbrev pub link_split : Link → Parted → Parted → Untyped → Split
link_split Conjunction a b e = joined a.split b.split
link_split (Compared r) a b e = compared r (form_of a.tree) (form_of b.tree) e
link_split Other a b e = whole e

abbrev pub parted : Untyped → Parted
parted e = record { tree = e; split = whole e }

-- One term, with what each part is in its place.
abbrev pub term_parted : Term-F Parted Parted → Parted
term_parted (Term-F.Index form constant) = parted (record { term = term.Index form constant })
term_parted (Term-F.Literal n) = parted (record { term = term.Literal n })
term_parted (Term-F.Read cell place) = parted (record { term = term.Read cell place })
term_parted (Term-F.Use rule arguments) = parted (record { term = term.Use rule arguments })
term_parted (Term-F.Prefix op a) = parted (record { term = term.Prefix op a.tree })
term_parted (Term-F.Infix op a b) = let e : Untyped = record { term = term.Infix op a.tree b.tree } in record (parted e) { split = link_split (link_of op) a b e }
term_parted (Term-F.ShiftLeft a by) = parted (record { term = term.ShiftLeft a.tree by })
term_parted (Term-F.ShiftRight a by) = parted (record { term = term.ShiftRight a.tree by })
term_parted (Term-F.Cast kind a) = parted (record { term = term.Cast kind a.tree })
term_parted (Term-F.Choose t a b) = parted (record { term = term.Choose t.tree a.tree b.tree })
term_parted (Term-F.Fold how inames a) = parted (record { term = term.Fold how inames a.tree })

abbrev pub tree_parted : Untyped-F Parted Parted → Parted
tree_parted e = e.term

abbrev pub parted_of : Untyped → Parted
parted_of = fold-Untyped Parted Parted term_parted tree_parted

-- A predicate as the rows of its conjuncts that compare two index expressions, and the tree of the others.
abbrev pub split_of : Untyped → Split
split_of e = (parted_of e).split
