use Rattle.std.proofs.Common.{◌∙◌, sym, ap, List, map}
use Rattle.subst_rules.specs.declared.sizes.Size.{Size}
use Rattle.subst_rules.specs.Sizes.{size_in, size_with}
use Rattle.subst_rules.proofs.SizeLaws.{settled}
use Rattle.subst_rules.proofs.sizes.sizes_of.Goals as goal

pub returns-then-settled : goal.returns-then-settled
returns-then-settled c = settled c.args.rules.now c.loop-round._round c.loop-round.sizes.items c.loop-round.invariant
    (sym c.as_slice-in-loop-round.ensures.value ∙ (c.same_sizes-settled.ensures c.if-settled.true ∙ (c.as_slice-in-loop-round-2.ensures.value ∙ (c.in_ok-next.ensures
    ∙ ap (λ (s : List Size). map (λ r. size_with (size_in s) r.body) c.args.rules.now) c.as_slice.ensures.value))))
    c.loop-round-test.true
