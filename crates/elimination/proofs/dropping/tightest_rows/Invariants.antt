use Rattle.std.proofs.Common.{◌≡◌, ◌++◌, length, drop, take}
use Rattle.std.specs.Vec.Iter.{into_iter_items, into_iter_len}
use Rattle.elimination.specs.Stages.{staying, tightest_rows}
use Rattle.elimination.proofs.dropping.tightest_rows.Given as goal

abbrev pub invariant-loop-row : goal.invariant-loop-row
invariant-loop-row l = record {
  next : (goal.iterator-loop-row).can_next l.row-iterator;
  finite : (goal.iterator-loop-row).is_finite l.row-iterator;
  size : into_iter_len l.row-iterator ≡ length (into_iter_items l.row-iterator);
  left : into_iter_items l.row-iterator ≡ drop l.place l.fn.rows.items;
  rows : l.kept.items ++ staying (take l.place l.fn.rows.items) (drop l.place l.fn.rows.items) ≡ tightest_rows l.fn.rows.items;
}
