use Rattle.std.proofs.Common.{List, Option, Some, None, Result, Ok, Err, IfOk, ◌≡◌, ◌≢◌, ◌∙◌, sym, ap, subst}
use Rattle.std.specs.Result.{IfErr}
use Rattle.affine_rows.specs.declared.quasi.Quasi.{Quasi}
use Rattle.expr_tree.specs.declared.build.ExprFault.{ExprFault}
use Rattle.expr_tree.specs.declared.build.ExprFault.TheVariants.{OutOfMemory}
use Rattle.expr_tree.specs.declared.tree.Expr.{Expr}
use Rattle.subst_rules.specs.Replaced.{body_with}
use Rattle.subst_rules.proofs.Replacing.{use_is}
use Rattle.subst_rules.proofs.replace.ReplacingRewriting.leaf.Goals as goal

pub returns-in-None-clause-answer : goal.returns-in-None-clause-answer
returns-in-None-clause-answer c = use_is c.args.self.now.rules.now c.args.node.now c.in-Call.rule c.in-Call.arguments None c.in-Call.is c.in-None.ensures

pub returns-in-Some-clause-answer : goal.returns-in-Some-clause-answer
returns-in-Some-clause-answer c =
    let put = use_is c.args.self.now.rules.now c.args.node.now c.in-Call.rule c.in-Call.arguments (Some c.in-Some.rule.now) c.in-Call.is c.in-Some.ensures
    ∙ ap (λ (qs : List Quasi). body_with (Some c.in-Some.rule.now) qs) (sym c.as_slice.ensures) in
    subst (λ (x : Result (Option Expr) ExprFault). IfOk c.body_with.result (λ put. x ≡ Ok put)) (sym put) c.body_with.ensures.answer

pub returns-in-Some-clause-refusal : goal.returns-in-Some-clause-refusal
returns-in-Some-clause-refusal c =
    let put = use_is c.args.self.now.rules.now c.args.node.now c.in-Call.rule c.in-Call.arguments (Some c.in-Some.rule.now) c.in-Call.is c.in-Some.ensures
    ∙ ap (λ (qs : List Quasi). body_with (Some c.in-Some.rule.now) qs) (sym c.as_slice.ensures) in
    subst (λ (x : Result (Option Expr) ExprFault). IfErr c.body_with.result (λ f. f ≢ OutOfMemory → x ≡ Err f)) (sym put) c.body_with.ensures.refusal
