use Rattle.std.proofs.Common.{◌≡◌, ◌∙◌, ◌++◌, ◌+ℤ◌, ◌*ℤ◌, ap, rules, List, ℕ, ℤ, FitsSigned}
use Rattle.std.specs.Int.{w64, w128}
use Rattle.std.proofs.lemmas.Int.{to_z-of_z}
use Rattle.affine_rows.specs.declared.quasi.Quasi.{out-Quasi}
use Rattle.affine_rows.specs.declared.quasi.Floor.{Floor}
use Rattle.quasi_forms.specs.Collected.{scaled_terms, scaled_floors}
use Rattle.quasi_forms.proofs.Errors.{on_ok}
use Rattle.quasi_forms.proofs.PartSums.{room-constant, sum_more}
use Rattle.quasi_forms.proofs.sums.Sum.add.Goals as goal

pub plus_product-self-requires : goal.plus_product-self-requires
plus_product-self-requires c =
    let by_fits : FitsSigned w64 c.args.by = c.ranges.by in
    let own_fits : FitsSigned w128 c.args.self.now.constant = search rules in
    let fits : FitsSigned w64 (out-Quasi c.args.form.now).constant = search rules in
    simp to_z-of_z (room-constant _ c.args.self.now.constant c.args.self.now.terms.items c.args.self.now.floors.items c.args.form.now c.requires.room c.requires.part)

pub returns : goal.returns
returns c =
    let by_fits : FitsSigned w64 c.args.by = c.ranges.by in
    let own_fits : FitsSigned w128 c.args.self.now.constant = search rules in
    let made_fits : FitsSigned w128 c.plus_product-self.result = search rules in
    let fits : FitsSigned w64 (out-Quasi c.args.form.now).constant = search rules in
    let constant : c.plus_product-self.result ≡ c.args.self.now.constant +ℤ c.args.by *ℤ (out-Quasi c.args.form.now).constant = simp to_z-of_z at c.plus_product-self.ensures in
    let terms : c.add_scaled.new.made.items ≡ c.args.self.now.terms.items ++ scaled_terms c.args.by (out-Quasi c.args.form.now).terms = (simp to_z-of_z at c.in_ok-add_scaled.ensures) ∙ ap (λ (ts : List (ℕ × ℤ)). c.args.self.now.terms.items ++ scaled_terms c.args.by ts) c.as_slice.ensures in
    simp to_z-of_z
    (on_ok c.add_multiples.result _ _
    (λ floors. sum_more c.args.by c.args.form.now c.args.self.now.constant c.plus_product-self.result c.args.self.now.terms.items c.add_scaled.new.made.items c.args.self.now.floors.items c.add_multiples.new.made.items c.requires.part constant terms
    (floors ∙ ap (λ (fs : List Floor). c.args.self.now.floors.items ++ scaled_floors c.args.by fs) c.as_slice-2.ensures))
    (simp to_z-of_z at c.add_multiples.ensures))
