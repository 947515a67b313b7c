-- The equations of the folds, one line a variant.
use Rattle.std.proofs.Common.{◌≡◌, ℕ, ℤ, List, [], map, Option, unsigned_abs, refl}
use Rattle.wrap_words.specs.declared.kind.Kind.{Kind}
use Rattle.affine_rows.specs.Rows.{Env}
use Rattle.affine_rows.specs.declared.quasi.Quasi.{Quasi, fold-roll-Quasi, out-roll-Quasi}
use Rattle.affine_rows.specs.Forms.{affine}
use Rattle.expr_tree.specs.declared.tree.Op.{Op}
use Rattle.expr_tree.specs.declared.tree.Rel.{Rel}
use Rattle.expr_tree.specs.declared.tree.Cell.{Cell}
use Rattle.expr_tree.specs.declared.tree.Node.{Node, fold_out-Node}
use Rattle.expr_tree.specs.declared.tree.Node.TheVariants as node
use Rattle.expr_tree.specs.declared.tree.Node.TheOpen.{Node-F, Test-F}
use Rattle.expr_tree.specs.declared.tree.Test.{Test, fold_out-Test}
use Rattle.expr_tree.specs.declared.tree.Test.TheVariants as test
use Rattle.expr_tree.specs.declared.tree.Expr.{Expr, fold_out-Expr}
use Rattle.expr_tree.specs.declared.row.QuasiRow.{QuasiRow}
use Rattle.code_tree.specs.declared.code.Bound.{Bound, fold_out-Bound}
use Rattle.code_tree.specs.declared.code.Bound.TheVariants as bound
use Rattle.code_tree.specs.declared.code.Bound.TheOpen.{Bound-F}
use Rattle.code_tree.specs.declared.code.Flat.{Flat}
use Rattle.code_tree.specs.declared.code.CodeCell.{CodeCell}
use Rattle.code_tree.specs.declared.code.Block.{Block, roll-Block, fold-roll-Block}
use Rattle.code_tree.specs.declared.code.Stmt.{Stmt, fold_out-Stmt}
use Rattle.code_tree.specs.declared.code.Stmt.TheVariants as stmt
use Rattle.code_tree.specs.declared.code.Stmt.TheOpen.{Stmt-F}
use Rattle.code_meaning.specs.Exact.{exact_form, exact_bound, form_parts, bound_step}
use Rattle.code_meaning.specs.Ranges.{Range, form_range, range_form, bound_range, range_bound}
use Rattle.code_meaning.specs.Seen.{Sights, seen_in, seen_in_test, node_seen, test_seen, flat_number}
use Rattle.code_meaning.specs.Plan.{Setting, numbered, numbered_stmt, stmt_step, block_step}
use Rattle.code_meaning.specs.Counts.{tally_of, tally_of_stmt, stmt_tally, tallies}

abbrev of_node : Node → Expr
of_node n = record { node = n }

abbrev block_of : List CodeCell → List Stmt → Block
block_of cells children = roll-Block (record { cells = cells; children = children })

-- Forms and bounds.

pub exact_affine : (env : Env) (c : ℤ) (ts : List (ℕ × ℤ)) → exact_form env (affine c ts) ≡ form_parts env (record { constant = c; terms = ts; floors = [] })
exact_affine env c ts = simp fold-roll-Quasi refl

pub range_affine : (of : ℕ → Range) (c : ℤ) (ts : List (ℕ × ℤ)) → form_range of (affine c ts) ≡ range_form of (record { constant = c; terms = ts; floors = [] })
range_affine of c ts = simp fold-roll-Quasi refl

pub exact_bound_form : (env : Env) (q : Quasi) → exact_bound env (bound.Form q) ≡ exact_form env q
exact_bound_form env q = simp (fold_out-Bound, bound.outs-Form) refl

pub exact_bound_floor : (env : Env) (q : Quasi) (by : ℤ) → exact_bound env (bound.FloorOf q by) ≡ bound_step env (Bound-F.FloorOf q by)
exact_bound_floor env q by = simp (fold_out-Bound, bound.outs-FloorOf) refl

pub exact_bound_minus : (env : Env) (q : Quasi) (by : ℤ) → exact_bound env (bound.MinusFloorOf q by) ≡ bound_step env (Bound-F.MinusFloorOf q by)
exact_bound_minus env q by = simp (fold_out-Bound, bound.outs-MinusFloorOf) refl

pub exact_bound_least : (env : Env) (bs : List Bound) → exact_bound env (bound.Least bs) ≡ bound_step env (Bound-F.Least (map (exact_bound env) bs))
exact_bound_least env bs = simp (fold_out-Bound, bound.outs-Least) refl

pub exact_bound_greatest : (env : Env) (bs : List Bound) → exact_bound env (bound.Greatest bs) ≡ bound_step env (Bound-F.Greatest (map (exact_bound env) bs))
exact_bound_greatest env bs = simp (fold_out-Bound, bound.outs-Greatest) refl

pub range_bound_form : (of : ℕ → Range) (q : Quasi) → bound_range of (bound.Form q) ≡ form_range of q
range_bound_form of q = simp (fold_out-Bound, bound.outs-Form) refl

pub range_bound_floor : (of : ℕ → Range) (q : Quasi) (by : ℤ) → bound_range of (bound.FloorOf q by) ≡ range_bound of (Bound-F.FloorOf q by)
range_bound_floor of q by = simp (fold_out-Bound, bound.outs-FloorOf) refl

pub range_bound_minus : (of : ℕ → Range) (q : Quasi) (by : ℤ) → bound_range of (bound.MinusFloorOf q by) ≡ range_bound of (Bound-F.MinusFloorOf q by)
range_bound_minus of q by = simp (fold_out-Bound, bound.outs-MinusFloorOf) refl

pub range_bound_least : (of : ℕ → Range) (bs : List Bound) → bound_range of (bound.Least bs) ≡ range_bound of (Bound-F.Least (map (bound_range of) bs))
range_bound_least of bs = simp (fold_out-Bound, bound.outs-Least) refl

pub range_bound_greatest : (of : ℕ → Range) (bs : List Bound) → bound_range of (bound.Greatest bs) ≡ range_bound of (Bound-F.Greatest (map (bound_range of) bs))
range_bound_greatest of bs = simp (fold_out-Bound, bound.outs-Greatest) refl

-- the constant that a read has for its subscript
pub flat_number_affine : (c : ℤ) (ts : List (ℕ × ℤ)) → flat_number (affine c ts) ≡ unsigned_abs c
flat_number_affine c ts = simp out-roll-Quasi refl

-- Statements.

pub numbered_block : (s : Setting) (cells : List CodeCell) (children : List Stmt) → numbered s (block_of cells children) ≡ block_step (record { cells = cells; children = map (numbered_stmt s) children })
numbered_block s cells children = simp fold-roll-Block refl

pub numbered_loop : (s : Setting) (var : ℕ) (lower upper : Bound) (body : Block) → numbered_stmt s (stmt.Loop var lower upper body) ≡ stmt_step s (Stmt-F.Loop var lower upper (numbered s body))
numbered_loop s var lower upper body = simp (fold_out-Stmt, stmt.outs-Loop) refl

pub numbered_when : (s : Setting) (rows : List QuasiRow) (body : Block) → numbered_stmt s (stmt.When rows body) ≡ stmt_step s (Stmt-F.When rows (numbered s body))
numbered_when s rows body = simp (fold_out-Stmt, stmt.outs-When) refl

pub numbered_check : (s : Setting) (t : Test) (body : Block) → numbered_stmt s (stmt.Check t body) ≡ stmt_step s (Stmt-F.Check t (numbered s body))
numbered_check s t body = simp (fold_out-Stmt, stmt.outs-Check) refl

pub numbered_set : (s : Setting) (target : Cell) (subscript : Option Flat) (value : Expr) → numbered_stmt s (stmt.Set target subscript value) ≡ stmt_step s (Stmt-F.Set target subscript value)
numbered_set s target subscript value = simp (fold_out-Stmt, stmt.outs-Set) refl

pub numbered_barrier : (s : Setting) → numbered_stmt s stmt.Barrier ≡ stmt_step s Stmt-F.Barrier
numbered_barrier s = simp (fold_out-Stmt, stmt.outs-Barrier) refl

pub tally_block : (cells : List CodeCell) (children : List Stmt) → tally_of (block_of cells children) ≡ tallies (map tally_of_stmt children)
tally_block cells children = simp fold-roll-Block refl

pub tally_loop : (var : ℕ) (lower upper : Bound) (body : Block) → tally_of_stmt (stmt.Loop var lower upper body) ≡ stmt_tally (Stmt-F.Loop var lower upper (tally_of body))
tally_loop var lower upper body = simp (fold_out-Stmt, stmt.outs-Loop) refl

pub tally_when : (rows : List QuasiRow) (body : Block) → tally_of_stmt (stmt.When rows body) ≡ stmt_tally (Stmt-F.When rows (tally_of body))
tally_when rows body = simp (fold_out-Stmt, stmt.outs-When) refl

pub tally_check : (t : Test) (body : Block) → tally_of_stmt (stmt.Check t body) ≡ stmt_tally (Stmt-F.Check t (tally_of body))
tally_check t body = simp (fold_out-Stmt, stmt.outs-Check) refl

pub tally_set : (target : Cell) (subscript : Option Flat) (value : Expr) → tally_of_stmt (stmt.Set target subscript value) ≡ stmt_tally (Stmt-F.Set target subscript value)
tally_set target subscript value = simp (fold_out-Stmt, stmt.outs-Set) refl

pub tally_barrier : tally_of_stmt stmt.Barrier ≡ stmt_tally Stmt-F.Barrier
tally_barrier = simp (fold_out-Stmt, stmt.outs-Barrier) refl

-- Values.

pub seen_literal : (s : Sights) (n : ℕ) → seen_in s (of_node (node.Literal n)) ≡ node_seen s (Node-F.Literal n)
seen_literal s n = simp (fold_out-Expr, fold_out-Node, node.outs-Literal) refl

pub seen_leaf : (s : Sights) (q : Quasi) → seen_in s (of_node (node.Leaf q)) ≡ node_seen s (Node-F.Leaf q)
seen_leaf s q = simp (fold_out-Expr, fold_out-Node, node.outs-Leaf) refl

pub seen_read : (s : Sights) (cell : Cell) (place : List Quasi) → seen_in s (of_node (node.Read cell place)) ≡ node_seen s (Node-F.Read cell place)
seen_read s cell place = simp (fold_out-Expr, fold_out-Node, node.outs-Read) refl

pub seen_neg : (s : Sights) (a : Expr) → seen_in s (of_node (node.Neg a)) ≡ node_seen s (Node-F.Neg (seen_in s a))
seen_neg s a = simp (fold_out-Expr, fold_out-Node, node.outs-Neg) refl

pub seen_inv : (s : Sights) (a : Expr) → seen_in s (of_node (node.Inv a)) ≡ node_seen s (Node-F.Inv (seen_in s a))
seen_inv s a = simp (fold_out-Expr, fold_out-Node, node.outs-Inv) refl

pub seen_shl : (s : Sights) (a : Expr) (by : ℕ) → seen_in s (of_node (node.Shl a by)) ≡ node_seen s (Node-F.Shl (seen_in s a) by)
seen_shl s a by = simp (fold_out-Expr, fold_out-Node, node.outs-Shl) refl

pub seen_shr : (s : Sights) (a : Expr) (by : ℕ) → seen_in s (of_node (node.Shr a by)) ≡ node_seen s (Node-F.Shr (seen_in s a) by)
seen_shr s a by = simp (fold_out-Expr, fold_out-Node, node.outs-Shr) refl

pub seen_bin : (s : Sights) (op : Op) (a b : Expr) → seen_in s (of_node (node.Bin op a b)) ≡ node_seen s (Node-F.Bin op (seen_in s a) (seen_in s b))
seen_bin s op a b = simp (fold_out-Expr, fold_out-Node, node.outs-Bin) refl

pub seen_pick : (s : Sights) (t : Test) (a b : Expr) → seen_in s (of_node (node.Pick t a b)) ≡ node_seen s (Node-F.Pick (seen_in_test s t) (seen_in s a) (seen_in s b))
seen_pick s t a b = simp (fold_out-Expr, fold_out-Node, node.outs-Pick) refl

pub seen_cast : (s : Sights) (kind : Kind) (a : Expr) → seen_in s (of_node (node.Cast kind a)) ≡ node_seen s (Node-F.Cast kind (seen_in s a))
seen_cast s kind a = simp (fold_out-Expr, fold_out-Node, node.outs-Cast) refl

pub seen_words : (s : Sights) (rel : Rel) (a b : Expr) → seen_in_test s (test.Words rel a b) ≡ test_seen s (Test-F.Words rel (seen_in s a) (seen_in s b))
seen_words s rel a b = simp (fold_out-Test, test.outs-Words) refl

pub seen_index : (s : Sights) (rel : Rel) (a b : Quasi) → seen_in_test s (test.Index rel a b) ≡ test_seen s (Test-F.Index rel a b)
seen_index s rel a b = simp (fold_out-Test, test.outs-Index) refl

pub seen_all : (s : Sights) (p q : Test) → seen_in_test s (test.All p q) ≡ test_seen s (Test-F.All (seen_in_test s p) (seen_in_test s q))
seen_all s p q = simp (fold_out-Test, test.outs-All) refl

pub seen_any : (s : Sights) (p q : Test) → seen_in_test s (test.Any p q) ≡ test_seen s (Test-F.Any (seen_in_test s p) (seen_in_test s q))
seen_any s p q = simp (fold_out-Test, test.outs-Any) refl

pub seen_not : (s : Sights) (p : Test) → seen_in_test s (test.Not p) ≡ test_seen s (Test-F.Not (seen_in_test s p))
seen_not s p = simp (fold_out-Test, test.outs-Not) refl
