use Rattle.std.proofs.Common.{◌≡◌, ◌∙◌, ◌++◌, ◌∷◌, nat_le, length, sym, ap, subst, codes, Bool, List, None}
use Rattle.affine_rows.specs.declared.quasi.Quasi.{Quasi}
use Rattle.expr_tree.specs.declared.tree.Cell.{Cell}
use Rattle.quasi_forms.specs.Alike.{distinct}
use Rattle.kernel_ir.specs.declared.kernel.Insn.{Insn}
use Rattle.kernel_ir.specs.Mentions.{listed, listed_in, reads}
use Rattle.kernel_ir.specs.Limits.{accesses_of, same_access}
use Rattle.kernel_ir.specs.Refusals.{Refuses}
use Rattle.kernel_limits.specs.Asked.{asked, counted}
use Rattle.kernel_limits.proofs.Outcomes.{on_ok_known}
use Rattle.kernel_limits.proofs.Steps.{later}
use Rattle.kernel_limits.proofs.insns.check_uses.Goals as goal

pub returns-clause-refused : goal.returns-clause-refused
returns-clause-refused c =
    let listed_reads = c.as_slice.ensures ∙ (c.in_ok-found.ensures.reads ∙ ap (λ (B : Insn). (B.cell, B.place) ∷ (listed_in reads B.test ++ listed reads B.value)) c.requires.plain) in
    let few : c.in_ok-few.few ≡ nat_le (length (accesses_of c.args.kernel.now c.args.insn.now)) 64 = c.in_ok-few.ensures ∙ ap (λ (xs : List (Cell × List Quasi)). nat_le (length (distinct same_access xs)) 64) listed_reads in
    let first : counted (length (accesses_of c.args.kernel.now c.args.insn.now)) c.args.insn.now.line (codes "accesses") 64 ≡ None = ap (λ (b : Bool). asked b c.args.insn.now.line (codes "accesses") 64) (sym few) ∙ c.in_ok-ask.ensures in
    later _ _ c.ask-2.result first (subst (λ (b : Bool). Refuses (asked b c.args.insn.now.line (codes "floors") 32) c.ask-2.result) c.in_ok-few-2.ensures.few c.ask-2.ensures)

pub returns-clause-forms : goal.returns-clause-forms
returns-clause-forms c = on_ok_known c.ask-2.result c.in_ok-few-2.ensures.forms
