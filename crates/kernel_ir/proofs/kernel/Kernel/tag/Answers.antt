use Rattle.std.proofs.Common.{◌∙◌, ap, nat_eq, find, List}
use Rattle.kernel_ir.specs.declared.kernel.Iname.{Iname}
use Rattle.kernel_ir.proofs.Lookups.{known_found, tag_found}
use Rattle.kernel_ir.proofs.kernel.Kernel.tag.Goals as goal

pub unwrap-requires : goal.unwrap-requires
unwrap-requires c =
    known_found (λ i. i.now) c.first_with.result c.args.self.now.inames c.args.var
    (c.first_with.ensures ∙ ap (λ (is : List Iname). find (λ i. nat_eq i.var c.args.var) is) c.as_slice.ensures) c.requires.iname

pub returns : goal.returns
returns c =
    tag_found (λ i. i.now) c.first_with.result c.unwrap.result c.args.self.now.inames c.args.var
    (c.first_with.ensures ∙ ap (λ (is : List Iname). find (λ i. nat_eq i.var c.args.var) is) c.as_slice.ensures) c.unwrap.ensures
