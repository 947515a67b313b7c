use Rattle.std.proofs.Common.{◌≡◌, ◌∙◌, ◌∷◌, [], ◌&&◌, true, false, Bool, Option, Some, IfSome, List, length, sym, ap, subst, rules}
use Rattle.std.specs.List.{list_all}
use Rattle.std.specs.Option.{is_some}
use Rattle.std.proofs.lemmas.Result.{IfOk-weaker}
use Rattle.std.proofs.lemmas.Option.{IfSome_then}
use Rattle.std.proofs.lemmas.List.{nil_from_length}
use Rattle.affine_rows.specs.declared.quasi.Quasi.{Quasi}
use Rattle.quasi_forms.specs.Fits.{fits_form}
use Rattle.quasi_forms.specs.Affine.{Part, is_constant}
use Rattle.kernel_ir.specs.Limits.{size_forms, size_from}
use Rattle.kernel_limits.specs.Sizes.{IsSize, joins}
use Rattle.kernel_limits.specs.SizeForms.{size_form}
use Rattle.kernel_limits.proofs.Outcomes.{match_none, match_some}
use Rattle.kernel_limits.proofs.SizeSteps.{decides_row, decides_fail, decides_next, row_is, row_next}
use Rattle.kernel_limits.proofs.sizes.+row_from.Goals as goal

pub returns-in-None-clause-fits : goal.returns-in-None-clause-fits
returns-in-None-clause-fits t c =
    let empty : length c.args.entries.now ≡ 0 = search rules in
    let none : c.args.entries.now ≡ [] = nil_from_length c.args.entries.now empty in
    IfOk-weaker c.moved.result _ _
    (λ made fits p h.
    subst (λ (qs : List Quasi). is_some made ≡ list_all fits_form (size_forms (size_from (Some p) qs))) (sym none) (decides_row p c.args.size.now c.args.constant (is_some made) h fits))
    c.moved.ensures.fits

pub returns-in-None-clause-row : goal.returns-in-None-clause-row
returns-in-None-clause-row t c =
    let empty : length c.args.entries.now ≡ 0 = search rules in
    let none : c.args.entries.now ≡ [] = nil_from_length c.args.entries.now empty in
    IfOk-weaker c.moved.result _ _
    (λ made form.
    IfSome_then made form
    (λ f is p h. ap (λ (q : Quasi). Some q) is ∙ (row_is p c.args.size.now c.args.constant h ∙ ap (λ (qs : List Quasi). size_form (size_from (Some p) qs)) (sym none))))
    c.moved.ensures.form

pub returns-in-None-2-clause-fits : goal.returns-in-None-2-clause-fits
returns-in-None-2-clause-fits t c = λ p h.
    let cons : c.args.entries.now ≡ c.in-Some.entry.now ∷ c.in-Some.others.now = search rules in
    let join : joins c.args.constant (c.in-Some.entry.now ∷ c.in-Some.others.now) ≡ true = ap (joins c.args.constant) (sym cons) ∙ c.requires in
    let fails = match_none c.in_ok-times_entry-in-Some.field-0 _ _ c.in_ok-times_entry-in-Some.ensures c.in-None-2.is in
    subst (λ (qs : List Quasi). false ≡ list_all fits_form (size_forms (size_from (Some p) qs))) (sym cons) (decides_fail p c.in-Some.entry.now c.args.size.now c.in-Some.others.now c.args.constant h join fails)

pub returns-in-Some-2-clause-fits : goal.returns-in-Some-2-clause-fits
returns-in-Some-2-clause-fits t c =
    let cons : c.args.entries.now ≡ c.in-Some.entry.now ∷ c.in-Some.others.now = search rules in
    let join : joins c.args.constant (c.in-Some.entry.now ∷ c.in-Some.others.now) ≡ true = ap (joins c.args.constant) (sym cons) ∙ c.requires in
    let made = match_some c.in_ok-times_entry-in-Some.field-0 c.in-Some-2.next _ _ c.in_ok-times_entry-in-Some.ensures c.in-Some-2.is in
    let written : c.both.result ≡ (c.args.constant && is_constant c.in-Some.entry.now) = c.both.ensures ∙ ap (λ (b : Bool). c.args.constant && b) (c.is_constant-own.ensures ∙ ap is_constant c.quasi.ensures.same) in
    IfOk-weaker c.row_from.result _ _
    (λ m decided p h.
    subst (λ (qs : List Quasi). is_some m ≡ list_all fits_form (size_forms (size_from (Some p) qs))) (sym cons)
    (decides_next p c.in-Some.entry.now c.args.size.now c.in-Some-2.next c.in-Some.others.now c.args.constant (is_some m) h join c.quasi.ensures.form made.0 made.1
    (λ r k. decided r (subst (λ (d : Bool). IsSize r c.in-Some-2.next d) (sym written) k))))
    c.row_from.ensures.fits

pub returns-in-Some-2-clause-row : goal.returns-in-Some-2-clause-row
returns-in-Some-2-clause-row t c =
    let cons : c.args.entries.now ≡ c.in-Some.entry.now ∷ c.in-Some.others.now = search rules in
    let join : joins c.args.constant (c.in-Some.entry.now ∷ c.in-Some.others.now) ≡ true = ap (joins c.args.constant) (sym cons) ∙ c.requires in
    let made = match_some c.in_ok-times_entry-in-Some.field-0 c.in-Some-2.next _ _ c.in_ok-times_entry-in-Some.ensures c.in-Some-2.is in
    let written : c.both.result ≡ (c.args.constant && is_constant c.in-Some.entry.now) = c.both.ensures ∙ ap (λ (b : Bool). c.args.constant && b) (c.is_constant-own.ensures ∙ ap is_constant c.quasi.ensures.same) in
    IfOk-weaker c.row_from.result _ _
    (λ m decided.
    IfSome_then m decided
    (λ f row p h.
    subst (λ (qs : List Quasi). Some f ≡ size_form (size_from (Some p) qs)) (sym cons)
    (row_next p c.in-Some.entry.now c.args.size.now c.in-Some-2.next f c.in-Some.others.now c.args.constant h join c.quasi.ensures.form made.0 made.1
    (λ r k. row r (subst (λ (d : Bool). IsSize r c.in-Some-2.next d) (sym written) k)))))
    c.row_from.ensures.row
