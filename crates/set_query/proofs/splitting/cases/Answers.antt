use Rattle.std.proofs.Common.{sym, ap, ◌∙◌, subst, ℕ, List, All}
use Rattle.affine_rows.specs.declared.row.System.{System}
use Rattle.elimination.specs.Stages.{IsSystem}
use Rattle.set_query.specs.Cases.{AreVariables, cases_among}
use Rattle.set_query.specs.declared.pair.Differ.{Differ}
use Rattle.set_query.specs.declared.pair.Differ.TheVariants.{Among}
use Rattle.set_query.proofs.Covering.{are_covered}
use Rattle.set_query.proofs.CaseSystems.{cases_are}
use Rattle.set_query.proofs.splitting.cases.Goals as goal

pub returns-in_err-copied_system-in-Free-clause-covered : goal.returns-in_err-copied_system-in-Free-clause-covered
returns-in_err-copied_system-in-Free-clause-covered c = are_covered

pub returns-in_err-push-in-Free-clause-covered : goal.returns-in_err-push-in-Free-clause-covered
returns-in_err-push-in-Free-clause-covered c = are_covered

pub returns-in_err-cases_among-in-Among-clause-covered : goal.returns-in_err-cases_among-in-Among-clause-covered
returns-in_err-cases_among-in-Among-clause-covered c = are_covered

pub returns-in_ok-push-in-Free-clause-covered : goal.returns-in_ok-push-in-Free-clause-covered
returns-in_ok-push-in-Free-clause-covered c = are_covered

pub returns-in_ok-cases_among-in-Among-clause-covered : goal.returns-in_ok-cases_among-in-Among-clause-covered
returns-in_ok-cases_among-in-Among-clause-covered c = are_covered

pub returns-in_ok-cases_among-in-Among-clause-systems : goal.returns-in_ok-cases_among-in-Among-clause-systems
returns-in_ok-cases_among-in-Among-clause-systems c =
    subst (λ (systems : List System). All IsSystem systems) (sym (c.in_ok-cases_among-in-Among.ensures ∙ ap (λ (pairs : List (ℕ × ℕ)). cases_among c.args.pair.now.system pairs) c.as_slice.ensures))
    (cases_are c.args.pair.now.system (Among c.in-Among.pairs) c.requires.system (subst (λ (d : Differ). AreVariables c.args.pair.now.system.width d) c.in-Among.is c.requires.variables))
