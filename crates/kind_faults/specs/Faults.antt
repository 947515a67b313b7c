-- Places where another kind stands than is asked.
use Rattle.std.specs.Prelude.{ℕ, Bool, if◌then◌else◌, Option, Some, None, unwrap_or}
use Rattle.wrap_words.specs.declared.kind.Kind.{Kind}
use Rattle.expr_tree.specs.declared.tree.Cell.{Cell}
use Rattle.expr_tree.specs.Value.{same_kind, first_of_two}
use Rattle.kind_faults.specs.declared.faults.Mismatch.{Mismatch}

-- The kind of an expression's first read or cast outside inner tests that has one, and its first fault in text order at each kind.
pub record Judged : Type 0 where
  pub first : Option Kind
  pub fault : Kind → Option Mismatch

-- the kinds of cells, and what uses of rules are
pub record Known (Use : Type 0) : Type 0 where
  pub cell : Cell → Option Kind
  pub call : ℕ → Use

-- this kind is asked, and what stands there is no read and no cast
abbrev pub misplaced : Kind → Option Mismatch
misplaced k = Some (record { wanted = k; found = None })

-- that fault where the answer is no
abbrev pub unless : Bool → Kind → Option Mismatch
unless fine k = if fine then None else misplaced k

-- a read or cast of one kind stands where another one is asked
abbrev pub kind_fault : Kind → Kind → Option Mismatch
kind_fault found k = if same_kind found k then None else Some (record { wanted = k; found = Some found })

-- where a cell has no kind there is no fault: its kind is refused where it should be given
abbrev pub read_fault : Option Kind → Kind → Option Mismatch
read_fault None k = None
read_fault (Some found) k = kind_fault found k

-- the kind of the two sides of a comparison of words
abbrev pub side_kind : Judged → Judged → Kind → Kind
side_kind a b k = unwrap_or (first_of_two a.first b.first) k
