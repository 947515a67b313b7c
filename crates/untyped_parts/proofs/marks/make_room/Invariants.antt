use Rattle.std.proofs.Common.{◌≡◌, ℕ, ◌+◌, ◌-◌}
use Rattle.untyped_parts.specs.Marked.{is_set}
use Rattle.untyped_parts.proofs.marks.make_room.Given as goal

abbrev pub invariant-room : goal.invariant-room
invariant-room l = (v : ℕ) → is_set l.marks.items v ≡ is_set l.fn.marks.items v

abbrev pub decreases-room : goal.decreases-room
decreases-room l = l.var + 1 - l.marks.len
