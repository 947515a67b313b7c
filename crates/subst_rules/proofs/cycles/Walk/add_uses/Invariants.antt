use Rattle.std.proofs.Common.{◌≡◌, length, drop}
use Rattle.subst_rules.specs.Walks.{IsWalk, with_uses}
use Rattle.subst_rules.proofs.cycles.Walk.add_uses.Given as goal

abbrev pub invariant-loop-used : goal.invariant-loop-used
invariant-loop-used l = record {
  walk : IsWalk l.self.marks.items l.self.work.items;
  count : length l.self.marks.items ≡ length l.initial.self.marks.items;
  work : with_uses (length l.initial.self.marks.items) l.self.work.items (drop l.used-index l.uses) ≡ with_uses (length l.initial.self.marks.items) l.initial.self.work.items l.uses;
}
