use Rattle.std.proofs.Common.{◌≡◌, ℕ, suc, ◌+◌, ◌-◌, ◌<◌, length, sym, subst, ◌∙◌, arith, Option}
use Rattle.wrap_words.specs.declared.kind.Kind.{Kind}
use Rattle.kernel_ir.specs.declared.kernel.Kernel.{Kernel}
use Rattle.kind_faults.specs.declared.leads.Leading.{Leading}
use Rattle.kind_faults.specs.Leads.{leading_at}
use Rattle.type_infer.specs.Inferred.{kind_by, kind_to}
use Rattle.type_infer.proofs.temps.temp_kind.Goals as goal

-- one turn less is left
one_less : (K : Kernel) (stored : ℕ → Option Leading) (n i at : ℕ) (kind : Option Kind) → i < n → kind_to K stored (n - i) at ≡ kind → kind_to K stored (suc (n - (i + 1))) at ≡ kind
one_less K stored n i at kind h e = let is : n - i ≡ suc (n - (i + 1)) = omega arith in subst (λ m. kind_to K stored m at ≡ kind) is e

pub returns-in-Ends : goal.returns-in-Ends
returns-in-Ends c =
    let K = c.args.kernel.now in
    sym (c.in-Ends.ensures (length K.temps - (c.loop-turn._turn + 1)))
    ∙ one_less K (leading_at c.args.stored.now) (length K.temps) c.loop-turn._turn c.loop-turn.at (kind_by K (leading_at c.args.stored.now) c.args.temp) (omega arith) c.loop-turn.invariant

pub loop-turn-preserved : goal.loop-turn-preserved
loop-turn-preserved c =
    let K = c.args.kernel.now in
    sym (c.in-Leads.ensures (length K.temps - (c.loop-turn._turn + 1)))
    ∙ one_less K (leading_at c.args.stored.now) (length K.temps) c.loop-turn._turn c.loop-turn.at (kind_by K (leading_at c.args.stored.now) c.args.temp) (omega arith) c.loop-turn.invariant
