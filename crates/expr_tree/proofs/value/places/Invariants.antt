use Rattle.std.proofs.Common.{◌≡◌, length, map, take}
use Rattle.affine_rows.specs.Forms.{form_at}
use Rattle.expr_tree.proofs.value.places.Given as goal

abbrev pub invariant-loop-i : goal.invariant-loop-i
invariant-loop-i g l = record {
  long : length l.place ≡ 8;
  made : take l.i l.place ≡ map (form_at (g.V.Vars.number l.vars)) (take l.i l.forms);
}
