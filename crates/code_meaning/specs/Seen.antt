-- What is seen on the way to an expression's value: overflow, the reads that are reached, and the value where there is one.
use Rattle.std.specs.Prelude.{ℕ, ◌-◌, ◌*◌, ◌/◌, ◌%◌, ◌^◌, ℤ, pos, ◌-ℤ◌, Bool, true, false, not, ◌||◌, List, [], ◌∷◌, ◌++◌, Option, Some, None, option_map, unwrap_or, slice_get, unsigned_abs}
use Rattle.wrap_words.specs.declared.kind.Kind.{Kind}
use Rattle.wrap_words.specs.declared.kind.Word.{Word}
use Rattle.wrap_words.specs.Words.{modulus_of, word_of, number_of}
use Rattle.affine_rows.specs.declared.quasi.Quasi.{Quasi, out-Quasi}
use Rattle.affine_rows.specs.Rows.{Env}
use Rattle.expr_tree.specs.declared.tree.Cell.{Cell}
use Rattle.expr_tree.specs.declared.tree.Node.TheOpen.{Node-F, Test-F, Expr-F}
use Rattle.expr_tree.specs.declared.tree.Test.{Test, fold-Test}
use Rattle.expr_tree.specs.declared.tree.Expr.{Expr, fold-Expr}
use Rattle.expr_tree.specs.Value.{apply, compares, first_of_two}
use Rattle.code_tree.specs.declared.code.Flat.{Flat}
use Rattle.code_meaning.specs.Exact.{both, exact_form, exact_flat}

-- one place of an array or a cell
pub record Touch : Type 0 where
  pub cell : Cell
  pub index : ℤ

-- what is seen on the way to a value: whether a number overflows, the reads that are reached, and the value where there is one
pub record Seen (A : Type 0) : Type 0 where
  pub overflow : Bool
  pub reads : List Touch
  pub value : Option A

-- the words of arrays and cells at each index, as an item sees them: None outside, and where a local cell was not written
abbrev pub Words : Type 0
Words = Cell → ℤ → Option Word

-- what an item sees: the numbers of variables, the subscripts of reads, and the kinds and words of cells
pub record Sights : Type 0 where
  pub env : Env
  pub flats : List Flat
  pub kind : Cell → Kind
  pub word : Words

-- a value that needs nothing
abbrev pub plain : {A : Type 0} → A → Seen A
plain a = record { overflow = false; reads = []; value = Some a }

-- overflow, and no value
abbrev pub overflowed : {A : Type 0} → Seen A
overflowed = record { overflow = true; reads = []; value = None }

-- nothing is looked at
abbrev pub nothing_seen : {A : Type 0} → Seen A
nothing_seen = record { overflow = false; reads = []; value = None }

-- a number that was worked out, or overflow
abbrev pub worked_out : {A : Type 0} → (ℤ → A) → Option ℤ → Seen A
worked_out f None = overflowed
worked_out f (Some z) = plain (f z)

-- the same sight of another value
abbrev pub then_by : {A B : Type 0} → (A → B) → Seen A → Seen B
then_by f a = record { overflow = a.overflow; reads = a.reads; value = option_map f a.value }

-- both, the first one before the second; a value where both have one
abbrev pub then_both : {A B C : Type 0} → (A → B → C) → Seen A → Seen B → Seen C
then_both f a b = record { overflow = a.overflow || b.overflow; reads = a.reads ++ b.reads; value = both f a.value b.value }

-- after a test: what it chooses, and nothing where the test has no value
abbrev pub after_test : {A : Type 0} → Option Bool → Seen A → Seen A → Seen A
after_test None one other = nothing_seen
after_test (Some true) one other = one
after_test (Some false) one other = other

-- the one and then the other, whose value counts
abbrev pub then_seen : {A B : Type 0} → Seen A → Seen B → Seen B
then_seen a b = record { overflow = a.overflow || b.overflow; reads = a.reads ++ b.reads; value = b.value }

-- a test and what it chooses
abbrev pub chooses : {A : Type 0} → Seen Bool → Seen A → Seen A → Seen A
chooses t one other = then_seen t (after_test t.value one other)

-- a read at an index
abbrev pub read_at : Sights → Cell → Option ℤ → Seen Word
read_at s cell None = overflowed
read_at s cell (Some i) = record { overflow = false; reads = record { cell = cell; index = i } ∷ []; value = s.word cell i }

-- the constant of the form that a read has for its subscript
abbrev pub flat_number : Quasi → ℕ
flat_number q = unsigned_abs (out-Quasi q).constant

-- the number of a subscript, if there is such a one
abbrev pub known_flat : Env → Option Flat → Option ℤ
known_flat env None = None
known_flat env (Some f) = exact_flat env f

-- the index of a read: 0 for a cell without a length, else the subscript of the code that the form's constant counts
abbrev pub read_index : Sights → List Quasi → Option ℤ
read_index s [] = Some (pos 0)
read_index s (q ∷ qs) = known_flat s.env (slice_get s.flats (flat_number q))

-- of an expression: the kind of its first read or cast outside inner tests, and what is seen where this kind is asked
pub record ExprSeen : Type 0 where
  pub first : Option Kind
  pub at : Kind → Seen Word

-- of a test, likewise
pub record TestSeen : Type 0 where
  pub at : Kind → Seen Bool

-- One node, with what is seen at each child in its place. No code has rule uses or reductions; to meet one counts as overflow.
abbrev pub node_seen : Sights → Node-F ExprSeen TestSeen ExprSeen → ExprSeen
node_seen s (Node-F.Literal n) = record { first = None; at = λ k. plain (word_of k (pos n)) }
node_seen s (Node-F.Leaf form) = record { first = None; at = λ k. worked_out (word_of k) (exact_form s.env form) }
node_seen s (Node-F.Read cell place) = record { first = Some (s.kind cell); at = λ k. read_at s cell (read_index s place) }
node_seen s (Node-F.Call rule arguments) = record { first = None; at = λ k. overflowed }
node_seen s (Node-F.Neg a) = record { first = a.first; at = λ k. then_by (λ w. word_of k (pos 0 -ℤ number_of k w)) (a.at k) }
node_seen s (Node-F.Inv a) = record { first = a.first; at = λ k. then_by (λ w. record { bits = modulus_of k - 1 - w.bits }) (a.at k) }
node_seen s (Node-F.Shl a by) = record { first = a.first; at = λ k. then_by (λ w. record { bits = w.bits * 2 ^ by % modulus_of k }) (a.at k) }
node_seen s (Node-F.Shr a by) = record { first = a.first; at = λ k. then_by (λ w. record { bits = w.bits / 2 ^ by }) (a.at k) }
node_seen s (Node-F.Bin op a b) = record { first = first_of_two a.first b.first; at = λ k. then_both (apply op k) (a.at k) (b.at k) }
node_seen s (Node-F.Pick test a b) = record { first = first_of_two a.first b.first; at = λ k. chooses (test.at k) (a.at k) (b.at k) }
node_seen s (Node-F.Cast to a) = record {
  first = Some to;
  at = λ k. then_by (λ w. word_of to (number_of (unwrap_or a.first to) w)) (a.at (unwrap_or a.first to));
}
node_seen s (Node-F.Fold op inames a) = record { first = a.first; at = λ k. overflowed }

-- the kind of the two sides of a comparison of words
abbrev pub side_kind : ExprSeen → ExprSeen → Kind → Kind
side_kind a b k = unwrap_or (first_of_two a.first b.first) k

-- One test, likewise. The second part is looked at only where it counts.
abbrev pub test_seen : Sights → Test-F ExprSeen TestSeen ExprSeen → TestSeen
test_seen s (Test-F.Words rel a b) = record {
  at = λ k. let side = side_kind a b k in then_both (λ v w. compares rel (number_of side v) (number_of side w)) (a.at side) (b.at side);
}
test_seen s (Test-F.Index rel a b) =
    record { at = λ k. then_both (compares rel) (worked_out (λ z. z) (exact_form s.env a)) (worked_out (λ z. z) (exact_form s.env b)) }
test_seen s (Test-F.All p q) = record { at = λ k. chooses (p.at k) (q.at k) (plain false) }
test_seen s (Test-F.Any p q) = record { at = λ k. chooses (p.at k) (plain true) (q.at k) }
test_seen s (Test-F.Not p) = record { at = λ k. then_by not (p.at k) }

-- an expression is its node
abbrev pub expr_seen : Expr-F ExprSeen TestSeen ExprSeen → ExprSeen
expr_seen e = e.node

-- what is seen on the way to the value of an expression
abbrev pub seen_in : Sights → Expr → ExprSeen
seen_in s = fold-Expr ExprSeen TestSeen ExprSeen (node_seen s) (test_seen s) expr_seen

-- what is seen on the way to the value of a test
abbrev pub seen_in_test : Sights → Test → TestSeen
seen_in_test s = fold-Test ExprSeen TestSeen ExprSeen (node_seen s) (test_seen s) expr_seen
