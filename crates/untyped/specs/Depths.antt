-- How deep expressions are before kinds are asked.
use Rattle.std.specs.Prelude.{◌≡◌, ◌≤◌, ℕ, ◌+◌, max, Bool, true, false, ◌&&◌, if◌then◌else◌}
use Rattle.kernel_grammar.specs.declared.step.Infix.{Infix}
use Rattle.untyped.specs.declared.tree.Term.TheOpen.{Term-F, Untyped-F}
use Rattle.untyped.specs.declared.tree.Untyped.{Untyped, fold-Untyped}
use Rattle.untyped.specs.declared.reading.Reading.{Reading}
use Rattle.untyped.specs.Readings.{is_comparison, tree_of}

-- how deep an expression is, and whether it is an index expression
pub record Measure : Type 0 where
  pub depth : ℕ
  pub index : Bool

-- how deep the parts of an operation are; a comparison of index expressions has none
abbrev pub below : Infix → Measure → Measure → ℕ
below op a b = if is_comparison op && (a.index && b.index) then 0 else max a.depth b.depth

abbrev pub no_index : ℕ → Measure
no_index depth = record { depth = depth; index = false }

-- One term, with the measure of each part in its place.
abbrev pub term_measure : Term-F Measure Measure → Measure
term_measure (Term-F.Index form constant) = record { depth = 1; index = true }
term_measure (Term-F.Literal n) = no_index 1
term_measure (Term-F.Read cell place) = no_index 1
term_measure (Term-F.Use rule arguments) = no_index 1
term_measure (Term-F.Prefix op a) = no_index (a.depth + 1)
term_measure (Term-F.Infix op a b) = no_index (below op a b + 1)
term_measure (Term-F.ShiftLeft a by) = no_index (a.depth + 1)
term_measure (Term-F.ShiftRight a by) = no_index (a.depth + 1)
term_measure (Term-F.Cast kind a) = no_index (a.depth + 1)
term_measure (Term-F.Choose t a b) = no_index (max t.depth (max a.depth b.depth) + 1)
term_measure (Term-F.Fold how inames a) = no_index (a.depth + 1)

abbrev pub tree_measure : Untyped-F Measure Measure → Measure
tree_measure e = e.term

abbrev pub measure_of : Untyped → Measure
measure_of = fold-Untyped Measure Measure term_measure tree_measure

-- how deep an expression is: an index expression is 1 deep, and so is a comparison of two of them
abbrev pub tree_depth : Untyped → ℕ
tree_depth e = (measure_of e).depth

-- What is read has the depth that it is said to have, which is at most 64.
pub record IsMeasured (r : Reading) : Type 0 where
  pub depth : r.depth ≡ tree_depth (tree_of r.part)
  pub most : r.depth ≤ 64
