use Rattle.std.proofs.Common.{◌≡◌, ◌∙◌, ℕ, List, All, Option, Some, ap, sym, subst}
use Rattle.std.specs.Prelude.{IfSome}
use Rattle.std.proofs.lemmas.List.Elements.{All-pop}
use Rattle.affine_rows.specs.declared.row.Row.{Row}
use Rattle.affine_rows.specs.declared.row.System.{System}
use Rattle.affine_rows.specs.Rows.{IsRow}
use Rattle.loop_bounds.proofs.queries.asked_row.Goals as goal

pub returns-in-Some : goal.returns-in-Some
returns-in-Some c =
    let width : c.kept_system-system.result.width ≡ c.args.width = ap (λ (s : System). s.width) c.kept_system-system.ensures.kept in
    let all : All (IsRow c.kept_system-system.result.width) c.into_vec.result.items = subst (All (IsRow c.kept_system-system.result.width)) (sym c.into_vec.ensures) c.kept_system-system.ensures.queried.rows in
    let popped : IfSome c.pop.result (IsRow c.kept_system-system.result.width) = (All-pop (IsRow c.kept_system-system.result.width) c.into_vec.result.items _ c.pop.result c.pop.ensures.items all).1 in
    let own : IfSome (Some c.in-Some.row) (IsRow c.kept_system-system.result.width) = subst (λ (r : Option Row). IfSome r (IsRow c.kept_system-system.result.width)) c.in-Some.is popped in
    subst (λ (w : ℕ). IsRow w c.in-Some.row) width own
