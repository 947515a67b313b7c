-- Comparisons of index expressions as rows.
use Rattle.std.specs.Prelude.{pos, neg_ℤ, Bool, true, false, ◌||◌}
use Rattle.affine_rows.specs.declared.quasi.Quasi.{Quasi}
use Rattle.kernel_grammar.specs.declared.item.Relation.{Relation}
use Rattle.kernel_grammar.specs.declared.item.Relation.TheVariants.{LessEqual, Less, GreaterEqual, Greater, Equal}
use Rattle.quasi_forms.specs.Collected.{sum_form}
use Rattle.untyped.specs.declared.index.Collected.{Collected}
use Rattle.untyped.specs.Indexes.{one, collected}
use Rattle.untyped_parts.specs.declared.rows.RowReading.{RowReading}

-- a - b
abbrev pub difference : Quasi → Quasi → Collected
difference a b = collected false (sum_form a (neg_ℤ (pos 1)) b)

-- a collected form less 1
abbrev pub less_one : Collected → Collected
less_one c = let d = collected false (sum_form c.form (neg_ℤ (pos 1)) one) in record d { over = c.over || d.over }

abbrev pub row_reading : Bool → Collected → RowReading
row_reading equal c = record { row = record { form = c.form; equal = equal }; over = c.over }

-- a <= b is b - a >= 0, a < b is b - a - 1 >= 0, a >= b and a > b are the same turned, and a = b is a - b = 0
abbrev pub row_of : Relation → Quasi → Quasi → RowReading
row_of LessEqual a b = row_reading false (difference b a)
row_of Less a b = row_reading false (less_one (difference b a))
row_of GreaterEqual a b = row_reading false (difference a b)
row_of Greater a b = row_reading false (less_one (difference a b))
row_of Equal a b = row_reading true (difference a b)
