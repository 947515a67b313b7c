use Rattle.std.proofs.Common.{◌≡◌, None, map, rules, subst, ◌∙◌}
use Rattle.kernel_ir.specs.Refusals.{IsFault}
use Rattle.subst_rules.specs.Refused.{RefusesAs}
use Rattle.kernel_kinds.specs.Calls.{calls_of, rules_in, uses_of}
use Rattle.kernel_kinds.specs.Refused.{IsCycleRefusal, arity_refusal}
use Rattle.kernel_kinds.proofs.Refusing.{accepted, refused_first, refused_later}
use Rattle.kernel_kinds.proofs.check.check_calls.Goals as goal

pub returns-in_err-check_arities-clause-refused : goal.returns-in_err-check_arities-clause-refused
returns-in_err-check_arities-clause-refused c =
    let K = c.args.kernel.now in
    let fault = subst (λ bodies. IsFault (arity_refusal K bodies c.args.insns.now) c.in_err-check_arities.field-0.0)
    (c.as_slice.ensures ∙ c.in_ok-bodies.ensures) c.in_err-check_arities.ensures in
    let h = refused_first (arity_refusal K (calls_of c.args.rules.now) c.args.insns.now) (IsCycleRefusal K (uses_of c.args.rules.now))
    (Unit {0}) c.in_err-check_arities.field-0.0 fault in
    search (rules, h)

pub returns-clause-refused : goal.returns-clause-refused
returns-clause-refused c =
    let K = c.args.kernel.now in
    refused_later (arity_refusal K (calls_of c.args.rules.now) c.args.insns.now) (IsCycleRefusal K (uses_of c.args.rules.now)) c.check_cycles.result
    (subst (λ bodies. arity_refusal K bodies c.args.insns.now ≡ None) (c.as_slice.ensures ∙ c.in_ok-bodies.ensures) c.in_ok-check_arities.ensures)
    (subst (λ bodies. RefusesAs (IsCycleRefusal K (map rules_in bodies)) c.check_cycles.result)
    (c.as_slice-2.ensures ∙ c.in_ok-bodies.ensures) c.check_cycles.ensures)

pub returns-clause-acyclic : goal.returns-clause-acyclic
returns-clause-acyclic c =
    accepted c.args.kernel.now (uses_of c.args.rules.now) c.check_cycles.result
    (subst (λ bodies. RefusesAs (IsCycleRefusal c.args.kernel.now (map rules_in bodies)) c.check_cycles.result)
    (c.as_slice-2.ensures ∙ c.in_ok-bodies.ensures) c.check_cycles.ensures)
