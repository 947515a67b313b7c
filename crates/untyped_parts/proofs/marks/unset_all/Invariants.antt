use Rattle.std.proofs.Common.{◌≡◌, ℕ, ◌&&◌, not, take}
use Rattle.expr_tree.specs.Scenes.{is_among}
use Rattle.untyped_parts.specs.Marked.{is_set}
use Rattle.untyped_parts.proofs.marks.unset_all.Given as goal

abbrev pub invariant-vars : goal.invariant-vars
invariant-vars l = (v : ℕ) → is_set l.marks v ≡ (not (is_among (take l.var-index l.vars) v) && is_set l.fn.marks v)
