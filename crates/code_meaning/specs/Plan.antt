-- The statements of a code, numbered in text order, with the cells that each block declares and with what each number, test and value is.
use Rattle.std.specs.Prelude.{ℕ, ◌+◌, ℤ, pos, Bool, List, [], ◌∷◌, length, map, Option, Some, None, unwrap_or, option_map}
use Rattle.std.specs.Option.{option_or}
use Rattle.wrap_words.specs.declared.kind.Kind.{Kind}
use Rattle.wrap_words.specs.declared.kind.Kind.TheVariants.{I32}
use Rattle.wrap_words.specs.declared.kind.Word.{Word}
use Rattle.affine_rows.specs.Rows.{Env}
use Rattle.expr_tree.specs.declared.tree.Cell.{Cell}
use Rattle.code_tree.specs.declared.code.Flat.{Flat}
use Rattle.code_tree.specs.declared.code.CodeCell.{CodeCell}
use Rattle.code_tree.specs.declared.code.Code.{Code}
use Rattle.code_tree.specs.declared.code.Stmt.{Stmt, fold-Stmt}
use Rattle.code_tree.specs.declared.code.Block.{Block, fold-Block}
use Rattle.code_tree.specs.declared.code.Stmt.TheOpen.{Block-F, Stmt-F}
use Rattle.code_tree.specs.Cells.{kind_in}
use Rattle.code_meaning.specs.Exact.{exact_bound, exact_flat, exact_rows}
use Rattle.code_meaning.specs.Seen.{Words, Seen, Sights, seen_in, seen_in_test}

-- cells that a block declares: the first one's place among the private cells, and the lengths
pub record Fresh : Type 0 where
  pub first : ℕ
  pub lengths : List ℕ

-- A statement with its number: a loop from the lower to the upper bound, a guard of rows, a data test, an assignment at an index, or a barrier.
mutual
  pub data Act : Type 0 where
    loop : (number var : ℕ) (lower upper : Env → Option ℤ) (fresh : Fresh) (body : Acts) → Act
    guard : (number : ℕ) (holds : Env → Option Bool) (fresh : Fresh) (body : Acts) → Act
    check : (number : ℕ) (test : Env → Words → Seen Bool) (fresh : Fresh) (body : Acts) → Act
    set : (number : ℕ) (target : Cell) (index : Env → Option ℤ) (value : Env → Words → Seen Word) → Act
    barrier : (number : ℕ) → Act

  pub data Acts : Type 0 where
    none : Acts
    next : (act : Act) (rest : Acts) → Acts

-- what a code says of its cells: their kinds, and the subscripts of reads
pub record Setting : Type 0 where
  pub kind : Cell → Kind
  pub flats : List Flat

-- what an item sees, by the numbers of variables and the words
abbrev pub sights : Setting → Env → Words → Sights
sights s env word = record { env = env; flats = s.flats; kind = s.kind; word = word }

-- the index of an assignment, 0 for a cell without a length
abbrev pub set_index : Option Flat → Env → Option ℤ
set_index None env = Some (pos 0)
set_index (Some f) env = exact_flat env f

-- the kind that is asked of a data test: that of the first assignment's target
abbrev pub asked_kind : Setting → Option Cell → Kind
asked_kind s first = unwrap_or (option_map s.kind first) I32

-- A statement: how many statements and cells it holds, the target of its first assignment, and its numbered form from these numbers on.
pub record Numbered (A : Type 0) : Type 0 where
  pub size : ℕ
  pub cells : ℕ
  pub first : Option Cell
  pub from : (number cell : ℕ) → A

-- no statements
abbrev pub no_acts : Numbered Acts
no_acts = record { size = 0; cells = 0; first = None; from = λ number cell. none }

-- a statement before others
abbrev pub before : Numbered Act → Numbered Acts → Numbered Acts
before a rest = record {
  size = a.size + rest.size;
  cells = a.cells + rest.cells;
  first = option_or a.first rest.first;
  from = λ number cell. next (a.from number cell) (rest.from (number + a.size) (cell + a.cells));
}

-- statements one after the other
abbrev pub in_order : List (Numbered Act) → Numbered Acts
in_order [] = no_acts
in_order (a ∷ rest) = before a (in_order rest)

-- one place where no length is said
abbrev pub lengths_of : List CodeCell → List ℕ
lengths_of cells = map (λ c. unwrap_or c.length 1) cells

-- a block: its own cells, then those inside it
abbrev pub block_step : Block-F (Numbered Act) (Numbered (Fresh × Acts)) → Numbered (Fresh × Acts)
block_step b = let inside = in_order b.children in record {
  size = inside.size;
  cells = length b.cells + inside.cells;
  first = inside.first;
  from = λ number cell. (record { first = cell; lengths = lengths_of b.cells }, inside.from number (cell + length b.cells));
}

-- a statement round a body, which is numbered after it
abbrev pub round_body : (ℕ → Fresh → Acts → Act) → Numbered (Fresh × Acts) → Numbered Act
round_body act body = record {
  size = 1 + body.size;
  cells = body.cells;
  first = body.first;
  from = λ number cell. let inside = body.from (1 + number) cell in act number inside.0 inside.1;
}

-- a statement without a body
abbrev pub alone : Option Cell → (ℕ → Act) → Numbered Act
alone first act = record { size = 1; cells = 0; first = first; from = λ number cell. act number }

-- one statement, with its body numbered
abbrev pub stmt_step : Setting → Stmt-F (Numbered Act) (Numbered (Fresh × Acts)) → Numbered Act
stmt_step s (Stmt-F.Loop var lower upper body) =
    round_body (λ number. loop number var (λ env. exact_bound env lower) (λ env. exact_bound env upper)) body
stmt_step s (Stmt-F.When rows body) = round_body (λ number. guard number (λ env. exact_rows env rows)) body
stmt_step s (Stmt-F.Check test body) =
    round_body (λ number. check number (λ env word. (seen_in_test (sights s env word) test).at (asked_kind s body.first))) body
stmt_step s (Stmt-F.Set target subscript value) =
    alone (Some target) (λ number. set number target (set_index subscript) (λ env word. (seen_in (sights s env word) value).at (s.kind target)))
stmt_step s Stmt-F.Barrier = alone None (λ number. barrier number)

-- a statement, numbered
abbrev pub numbered_stmt : Setting → Stmt → Numbered Act
numbered_stmt s = fold-Stmt (Numbered Act) (Numbered (Fresh × Acts)) (stmt_step s) block_step

-- a block, numbered
abbrev pub numbered : Setting → Block → Numbered (Fresh × Acts)
numbered s = fold-Block (Numbered Act) (Numbered (Fresh × Acts)) (stmt_step s) block_step

-- a code's cells
abbrev pub setting_of : Code → Setting
setting_of code = record { kind = kind_in code; flats = code.flats }

-- the whole body; private cells are counted from 0
abbrev pub plan_of : Code → Fresh × Acts
plan_of code = (numbered (setting_of code) code.body).from 0 0
