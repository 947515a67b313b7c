use Rattle.std.proofs.Common.{rules, ◌≡◌, ◌∙◌, ◌++◌, ◌∷◌, [], sym, ap, subst, true, pos, FitsSigned, unsigned_abs, length, false, Err}
use Rattle.std.specs.Int.{w64}
use Rattle.std.proofs.lemmas.Int.{to_z-of_z}
use Rattle.affine_rows.specs.declared.row.Row.{Row}
use Rattle.affine_rows.specs.Rows.{IsEntry}
use Rattle.affine_rows.specs.Reduced.{fits_row, mixed_row, reduced_row}
use Rattle.affine_rows.proofs.Combining.{factor_entry}
use Rattle.elimination.specs.Stages.{substituted}
use Rattle.elimination.proofs.Substituting.{turned, substituted-is}
use Rattle.affine_rows.specs.declared.fault.RowFault.TheVariants.{Wide}
use Rattle.elimination.specs.Refusals.{IsRowFault, fault_of}
use Rattle.elimination.proofs.Refusing.{one_fault}
use Rattle.elimination.proofs.substitution.add_sum.Goals as goal

pub size-requires : goal.size-requires
size-requires c =
    let fits : FitsSigned w64 c.factor_in-own.result = search rules in
    simp to_z-of_z (subst IsEntry (sym c.factor_in-own.ensures) (factor_entry c.requires.equality.0 c.args.var c.args.equality.now c.requires.equality.1))

pub times-requires : goal.times-requires
times-requires c =
    let fits : FitsSigned w64 c.factor_in-other.result = search rules in
    simp to_z-of_z (subst IsEntry (sym c.factor_in-other.ensures) (factor_entry c.requires.row.0 c.args.var c.args.row.now c.requires.row.1))

pub returns-in_ok-push-in-Ok-clause-row : goal.returns-in_ok-push-in-Ok-clause-row
returns-in_ok-push-in-Ok-clause-row c =
    let own_fits : FitsSigned w64 c.factor_in-own.result = search rules in
    let other_fits : FitsSigned w64 c.factor_in-other.result = search rules in
    let size_fits : FitsSigned w64 c.size.result = search rules in
    let times_fits : FitsSigned w64 c.times.result = search rules in
    let p : c.size.result ≡ pos (unsigned_abs c.factor_in-own.result) = simp to_z-of_z at c.size.ensures.value in
    let q : c.times.result ≡ turned c.factor_in-own.result c.factor_in-other.result = simp to_z-of_z at c.times.ensures.value in
    let same : mixed_row c.size.result c.args.row.now c.times.result c.args.equality.now ≡ substituted c.args.var c.args.equality.now c.args.row.now = substituted-is c.args.var c.args.equality.now c.args.row.now c.factor_in-own.result c.factor_in-other.result c.size.result c.times.result c.factor_in-own.ensures c.factor_in-other.ensures p q in
    let value : c.in-Ok.row ≡ reduced_row (mixed_row c.size.result c.args.row.now c.times.result c.args.equality.now) = simp to_z-of_z at c.in-Ok.ensures.value in
    c.in_ok-push-in-Ok.ensures.items ∙ ap (λ (r : Row). c.args.made.now.items ++ r ∷ []) (value ∙ ap reduced_row same)

pub returns-in_ok-push-in-Ok-clause-fits : goal.returns-in_ok-push-in-Ok-clause-fits
returns-in_ok-push-in-Ok-clause-fits c =
    let own_fits : FitsSigned w64 c.factor_in-own.result = search rules in
    let other_fits : FitsSigned w64 c.factor_in-other.result = search rules in
    let size_fits : FitsSigned w64 c.size.result = search rules in
    let times_fits : FitsSigned w64 c.times.result = search rules in
    let p : c.size.result ≡ pos (unsigned_abs c.factor_in-own.result) = simp to_z-of_z at c.size.ensures.value in
    let q : c.times.result ≡ turned c.factor_in-own.result c.factor_in-other.result = simp to_z-of_z at c.times.ensures.value in
    let same : mixed_row c.size.result c.args.row.now c.times.result c.args.equality.now ≡ substituted c.args.var c.args.equality.now c.args.row.now = substituted-is c.args.var c.args.equality.now c.args.row.now c.factor_in-own.result c.factor_in-other.result c.size.result c.times.result c.factor_in-own.ensures c.factor_in-other.ensures p q in
    let fits : fits_row (reduced_row (mixed_row c.size.result c.args.row.now c.times.result c.args.equality.now)) ≡ true = simp to_z-of_z at c.in-Ok.ensures.fits in
    ap (λ (r : Row). fits_row (reduced_row r)) (sym same) ∙ fits

pub returns-in-Err-clause-fault : goal.returns-in-Err-clause-fault
returns-in-Err-clause-fault c =
    let own_fits : FitsSigned w64 c.factor_in-own.result = search rules in
    let other_fits : FitsSigned w64 c.factor_in-other.result = search rules in
    let size_fits : FitsSigned w64 c.size.result = search rules in
    let times_fits : FitsSigned w64 c.times.result = search rules in
    let p : c.size.result ≡ pos (unsigned_abs c.factor_in-own.result) = simp to_z-of_z at c.size.ensures.value in
    let q : c.times.result ≡ turned c.factor_in-own.result c.factor_in-other.result = simp to_z-of_z at c.times.ensures.value in
    let same : mixed_row c.size.result c.args.row.now c.times.result c.args.equality.now ≡ substituted c.args.var c.args.equality.now c.args.row.now = substituted-is c.args.var c.args.equality.now c.args.row.now c.factor_in-own.result c.factor_in-other.result c.size.result c.times.result c.factor_in-own.ensures c.factor_in-other.ensures p q in
    let wide : Err c.in-Err.fault ≡ Err Wide → fits_row (reduced_row (mixed_row c.size.result c.args.row.now c.times.result c.args.equality.now)) ≡ false = simp to_z-of_z at c.in-Err.ensures.wide in
    let fails : c.in-Err.fault ≡ Wide → fits_row (reduced_row (substituted c.args.var c.args.equality.now c.args.row.now)) ≡ false = (λ e. ap (λ (r : Row). fits_row (reduced_row r)) (sym same) ∙ wide (ap Err e)) in
    let len : c.len.result ≡ length c.args.made.now.items = search rules in
    subst (IsRowFault c.args.number (length c.args.made.now.items) (reduced_row (substituted c.args.var c.args.equality.now c.args.row.now) ∷ [])) (sym (c.fault_of.ensures ∙ ap (fault_of c.in-Err.fault c.args.number) len))
    (one_fault c.args.number (length c.args.made.now.items) (reduced_row (substituted c.args.var c.args.equality.now c.args.row.now)) c.in-Err.fault fails)
