-- The step count, read off a code and its parameters.
use Rattle.std.specs.Prelude.{ℕ, ◌+◌, ◌*◌, ◌/◌, max, ℤ, pos, negsuc, ◌+ℤ◌, ◌-ℤ◌, ◌==◌, if◌then◌else◌, List, [], ◌∷◌, ◌++◌, slice_index_or}
use Rattle.code_tree.specs.declared.code.Code.{Code}
use Rattle.code_tree.specs.declared.code.Target.{Target}
use Rattle.code_tree.specs.declared.code.Target.TheVariants.{C, OpenCl}
use Rattle.code_tree.specs.declared.code.Block.{Block, fold-Block}
use Rattle.code_tree.specs.declared.code.Stmt.{Stmt, fold-Stmt}
use Rattle.code_tree.specs.declared.code.Stmt.TheOpen.{Block-F, Stmt-F}
use Rattle.code_meaning.specs.Exact.{greater}
use Rattle.code_meaning.specs.Ranges.{Range, bound_range}
use Rattle.code_meaning.specs.Launch.{group_size, group_count, launch_number}

-- What the count asks of a body: assignments, all statements that are no loops, loops, and the product of turns plus one over its loops, by the ranges of the variables round it.
pub record Tally : Type 0 where
  pub sets : ℕ
  pub plain : ℕ
  pub loops : ℕ
  pub turns : (ℕ → Range) → ℕ

-- nothing at all
abbrev pub no_tally : Tally
no_tally = record { sets = 0; plain = 0; loops = 0; turns = λ of. 1 }

-- two bodies, one after the other
abbrev pub with_tally : Tally → Tally → Tally
with_tally a b = record {
  sets = a.sets + b.sets;
  plain = a.plain + b.plain;
  loops = a.loops + b.loops;
  turns = λ of. a.turns of * b.turns of;
}

-- a list of statements
abbrev pub tallies : List Tally → Tally
tallies [] = no_tally
tallies (a ∷ more) = with_tally a (tallies more)

-- the number, or 0 where it is negative
abbrev pub nat_of : ℤ → ℕ
nat_of (pos n) = n
nat_of (negsuc n) = 0

-- how many numbers there are from the least to the greatest
abbrev pub span : Range → ℕ
span r = nat_of ((r.1 -ℤ r.0) +ℤ pos 1)

-- a loop variable's range: from the least value of its lower bound to the greatest one of its upper bound
abbrev pub loop_range : Range → Range → Range
loop_range lower upper = (lower.0, upper.1)

-- inside the loop its variable has this range, and is the least value alone where the range is empty
abbrev pub with_range : ℕ → Range → (ℕ → Range) → ℕ → Range
with_range var r of v = if v == var then (r.0, greater r.0 r.1) else of v

-- a loop's turns plus one, times those inside it
abbrev pub loop_turns : ℕ → Range → ((ℕ → Range) → ℕ) → (ℕ → Range) → ℕ
loop_turns var r turns of = (span r + 1) * turns (with_range var r of)

-- one statement, with the tally of its body in its place
abbrev pub stmt_tally : Stmt-F Tally Tally → Tally
stmt_tally (Stmt-F.Loop var lower upper body) =
    record body { loops = 1 + body.loops; turns = λ of. loop_turns var (loop_range (bound_range of lower) (bound_range of upper)) body.turns of }
stmt_tally (Stmt-F.When rows body) = record body { plain = 1 + body.plain }
stmt_tally (Stmt-F.Check test body) = record body { plain = 1 + body.plain }
stmt_tally (Stmt-F.Set target subscript value) = record no_tally { sets = 1; plain = 1 }
stmt_tally Stmt-F.Barrier = record no_tally { plain = 1 }

-- a block, with the tallies of its statements
abbrev pub block_tally : Block-F Tally Tally → Tally
block_tally b = tallies b.children

-- the tally of a statement
abbrev pub tally_of_stmt : Stmt → Tally
tally_of_stmt = fold-Stmt Tally Tally stmt_tally block_tally

-- the tally of a body
abbrev pub tally_of : Block → Tally
tally_of = fold-Block Tally Tally stmt_tally block_tally

-- a quarter, rounded up
abbrev pub quarter : ℕ → ℕ
quarter n = (n + 3) / 4

-- how many steps so many items may make
abbrev pub count_of : ℕ → Tally → (ℕ → Range) → ℕ
count_of items t of = items * (1 + 4 * (max t.sets (quarter t.plain) + t.loops) * t.turns of)

-- the greatest numbers of the axes
abbrev pub highest : ℕ → ℤ
highest n = pos n -ℤ pos 1

-- the greatest numbers of all axes
abbrev pub highest_axes : Target → Code → List ℤ → List ℤ
highest_axes C code params = []
highest_axes OpenCl code params =
    highest (launch_number params code.g0) ∷ highest (launch_number params code.g1) ∷ highest (launch_number params code.g2)
    ∷ highest code.l0 ∷ highest code.l1 ∷ highest code.l2 ∷ []

-- a parameter is its number, and an axis runs from 0 to its highest number
abbrev pub opening_range : List ℤ → List ℤ → ℕ → Range
opening_range params axes v = (slice_index_or params v (pos 0), slice_index_or (params ++ axes) v (pos 0))

-- how many steps a run of the code may have
abbrev pub step_count : Code → List ℤ → ℕ
step_count code params = count_of (group_count code params * group_size code) (tally_of code.body) (opening_range params (highest_axes code.target code params))
