-- The lines of each sort of statement.
use Rattle.std.specs.Prelude.{◌≡◌, ℕ, ◌++◌, ◌<◌, ◌^◌, List, Option, length, codes}
use Rattle.std.proofs.Common.{rules, arith, ap, length-append}
use Rattle.expr_tree.specs.declared.tree.Cell.{Cell}
use Rattle.expr_tree.specs.declared.tree.Expr.{Expr}
use Rattle.expr_tree.specs.declared.tree.Test.{Test}
use Rattle.expr_tree.specs.declared.row.QuasiRow.{QuasiRow}
use Rattle.code_tree.specs.declared.code.Flat.{Flat}
use Rattle.code_tree.specs.declared.code.Block.{Block}
use Rattle.code_tree.specs.declared.code.Code.{Code}
use Rattle.code_tree.specs.declared.code.Stmt.{the_lemmas}
use Rattle.code_tree.specs.declared.code.Stmt.TheVariants as stmt
use Rattle.text_writer.specs.Bytes.{Bytes}
use Rattle.code_text.specs.StatementText.{lines_of, lines_of_stmt, blanks, inside_text, guard_text, check_text, set_text, asked_kind, barrier_text}
use Rattle.text_writer.proofs.Lists.{length-repeated}

pub lines-When : (code : Code) (rows : List QuasiRow) (body : Block) (depth : ℕ)
    → (lines_of_stmt code (stmt.When rows body)).at depth ≡ blanks depth ++ guard_text code rows ++ inside_text (lines_of code body).at depth
lines-When code rows body depth = search (rules, the_lemmas)

pub lines-Check : (code : Code) (test : Test) (body : Block) (depth : ℕ)
    → (lines_of_stmt code (stmt.Check test body)).at depth ≡ blanks depth ++ check_text code (asked_kind code (lines_of code body).first) test ++ inside_text (lines_of code body).at depth
lines-Check code test body depth = search (rules, the_lemmas)

pub lines-Set : (code : Code) (target : Cell) (flat : Option Flat) (value : Expr) (depth : ℕ)
    → (lines_of_stmt code (stmt.Set target flat value)).at depth ≡ blanks depth ++ set_text code target flat value ++ codes "\n"
lines-Set code target flat value depth = search (rules, the_lemmas)

pub lines-Barrier : (code : Code) (depth : ℕ) → (lines_of_stmt code stmt.Barrier).at depth ≡ blanks depth ++ barrier_text ++ codes "\n"
lines-Barrier code depth = search (rules, the_lemmas)

-- blanks that stand in a text are fewer than its bytes
pub few_blanks : (o p : Bytes) (depth : ℕ) → p ≡ o ++ blanks depth → length p < 2 ^ 64 → depth < 2 ^ 63
few_blanks o p depth e l = omega (arith, ap (λ (t : Bytes). length t) e, length-append o (blanks depth), length-repeated (codes "  ") depth)
