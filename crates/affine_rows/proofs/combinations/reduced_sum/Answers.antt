use Rattle.std.proofs.Common.{rules, ◌≡◌, ◌∙◌, ◌&&◌, to_z, of_z, sym, ap, refl, true, false, FitsSigned, pos, ◌+ℤ◌, ◌*ℤ◌, ℕ, unsigned_abs, map, Bool, Err}
use Rattle.std.specs.Int.{w64, w128, int_div_euclid}
use Rattle.std.specs.List.{list_all}
use Rattle.std.proofs.lemmas.Int.{to_z-of_z}
use Rattle.affine_rows.specs.declared.fault.RowFault.TheVariants.{Wide}
use Rattle.affine_rows.specs.Reduced.{common_divisor, divided_term, mixed_terms, fits_entry}
use Rattle.affine_rows.proofs.Combining.{reduced_sum-is, reduced_sum-fits, and_false}
use Rattle.affine_rows.proofs.combinations.reduced_sum.Goals as goal
use Rattle.affine_rows.proofs.combinations.reduced_sum.Goals.{then-left, else-left}

pub returns-in_default-clause-wide : goal.returns-in_default-clause-wide
returns-in_default-clause-wide c is =
    let p_fits : FitsSigned w64 c.args.p = c.ranges.p in
    let q_fits : FitsSigned w64 c.args.q = c.ranges.q in
    let l_fits : FitsSigned w64 c.args.left.now.constant = search rules in
    let r_fits : FitsSigned w64 c.args.right.now.constant = search rules in
    let k_fits : FitsSigned w128 c.products-constant.result = search rules in
    let n_fits : FitsSigned w128 c.quotient.result = search rules in
    let k : c.products-constant.result ≡ c.args.p *ℤ c.args.left.now.constant +ℤ c.args.q *ℤ c.args.right.now.constant = simp to_z-of_z at c.products-constant.ensures.value in
    let wide : c.in_ok-terms.terms.items ≡ mixed_terms c.args.p c.args.left.now.terms c.args.q c.args.right.now.terms = simp (to_z-of_z, c.as_slice.ensures, c.as_slice-2.ensures) at c.in_ok-terms.ensures.value in
    let size : c.unsigned_abs.result ≡ unsigned_abs c.products-constant.result = simp to_z-of_z at c.unsigned_abs.ensures.value in
    let by : c.wide_divisor-by.result ≡ common_divisor (unsigned_abs c.products-constant.result) c.in_ok-terms.terms.items = c.wide_divisor-by.ensures.value ∙ (ap (λ (n : ℕ). common_divisor n c.deref.result.now) size ∙ ap (common_divisor (unsigned_abs c.products-constant.result)) c.deref.ensures.value) in
    let n : c.quotient.result ≡ int_div_euclid c.products-constant.result (pos c.wide_divisor-by.result) = simp to_z-of_z at c.quotient.ensures.value in
    let fits : false ≡ fits_entry c.quotient.result = simp to_z-of_z at c.in_default.ensures.fits in
    reduced_sum-fits c.args.p c.args.left.now c.args.q c.args.right.now c.products-constant.result c.wide_divisor-by.result c.in_ok-terms.terms.items false _ k wide by (ap fits_entry (sym n) ∙ sym fits) refl

pub returns-in_err-terms-2-clause-wide : goal.returns-in_err-terms-2-clause-wide
returns-in_err-terms-2-clause-wide c is =
    let p_fits : FitsSigned w64 c.args.p = c.ranges.p in
    let q_fits : FitsSigned w64 c.args.q = c.ranges.q in
    let l_fits : FitsSigned w64 c.args.left.now.constant = search rules in
    let r_fits : FitsSigned w64 c.args.right.now.constant = search rules in
    let k_fits : FitsSigned w128 c.products-constant.result = search rules in
    let n_fits : FitsSigned w128 c.quotient.result = search rules in
    let k : c.products-constant.result ≡ c.args.p *ℤ c.args.left.now.constant +ℤ c.args.q *ℤ c.args.right.now.constant = simp to_z-of_z at c.products-constant.ensures.value in
    let wide : c.in_ok-terms.terms.items ≡ mixed_terms c.args.p c.args.left.now.terms c.args.q c.args.right.now.terms = simp (to_z-of_z, c.as_slice.ensures, c.as_slice-2.ensures) at c.in_ok-terms.ensures.value in
    let size : c.unsigned_abs.result ≡ unsigned_abs c.products-constant.result = simp to_z-of_z at c.unsigned_abs.ensures.value in
    let by : c.wide_divisor-by.result ≡ common_divisor (unsigned_abs c.products-constant.result) c.in_ok-terms.terms.items = c.wide_divisor-by.ensures.value ∙ (ap (λ (n : ℕ). common_divisor n c.deref.result.now) size ∙ ap (common_divisor (unsigned_abs c.products-constant.result)) c.deref.ensures.value) in
    let n : c.quotient.result ≡ int_div_euclid c.products-constant.result (pos c.wide_divisor-by.result) = simp to_z-of_z at c.quotient.ensures.value in
    let items : c.deref-2.result.now ≡ c.in_ok-terms.terms.items = c.deref-2.ensures.value in
    let fault : c.in_err-terms-2.field-0.0 ≡ Wide = search rules in
    let fits : list_all (λ t. fits_entry (divided_term c.wide_divisor-by.result t).1) c.in_ok-terms.terms.items ≡ false = rw (← items) (c.in_err-terms-2.ensures.wide (ap Err fault)) in
    reduced_sum-fits c.args.p c.args.left.now c.args.q c.args.right.now c.products-constant.result c.wide_divisor-by.result c.in_ok-terms.terms.items _ false k wide by refl fits ∙ and_false (fits_entry (int_div_euclid c.products-constant.result (pos c.wide_divisor-by.result)))

pub returns-clause-value : goal.returns-clause-value
returns-clause-value c =
    let p_fits : FitsSigned w64 c.args.p = c.ranges.p in
    let q_fits : FitsSigned w64 c.args.q = c.ranges.q in
    let l_fits : FitsSigned w64 c.args.left.now.constant = search rules in
    let r_fits : FitsSigned w64 c.args.right.now.constant = search rules in
    let k_fits : FitsSigned w128 c.products-constant.result = search rules in
    let n_fits : FitsSigned w128 c.quotient.result = search rules in
    let k : c.products-constant.result ≡ c.args.p *ℤ c.args.left.now.constant +ℤ c.args.q *ℤ c.args.right.now.constant = simp to_z-of_z at c.products-constant.ensures.value in
    let wide : c.in_ok-terms.terms.items ≡ mixed_terms c.args.p c.args.left.now.terms c.args.q c.args.right.now.terms = simp (to_z-of_z, c.as_slice.ensures, c.as_slice-2.ensures) at c.in_ok-terms.ensures.value in
    let size : c.unsigned_abs.result ≡ unsigned_abs c.products-constant.result = simp to_z-of_z at c.unsigned_abs.ensures.value in
    let by : c.wide_divisor-by.result ≡ common_divisor (unsigned_abs c.products-constant.result) c.in_ok-terms.terms.items = c.wide_divisor-by.ensures.value ∙ (ap (λ (n : ℕ). common_divisor n c.deref.result.now) size ∙ ap (common_divisor (unsigned_abs c.products-constant.result)) c.deref.ensures.value) in
    let n : c.quotient.result ≡ int_div_euclid c.products-constant.result (pos c.wide_divisor-by.result) = simp to_z-of_z at c.quotient.ensures.value in
    let c_fits : FitsSigned w64 c.in-Some.constant = search rules in
    let constant : c.in-Some.constant ≡ c.quotient.result = simp to_z-of_z at c.in-Some.ensures.same in
    let terms : c.in_ok-terms-2.terms ≡ map (divided_term c.wide_divisor-by.result) c.in_ok-terms.terms.items = c.in_ok-terms-2.ensures.same ∙ ap (map (divided_term c.wide_divisor-by.result)) c.deref-2.ensures.value in
    let equal : c.if-left.result ≡ (c.args.left.now.equal && c.args.right.now.equal) = elim c.if-left.branch [ then-left w ↦ search (rules, w) | else-left w ↦ search (rules, w) ] in
    ap (λ (e : Bool). record { constant = to_z w64 (of_z w64 c.in-Some.constant); terms = c.in_ok-terms-2.terms; equal = e }) equal
    ∙ reduced_sum-is c.args.p c.args.left.now c.args.q c.args.right.now c.products-constant.result c.wide_divisor-by.result (to_z w64 (of_z w64 c.in-Some.constant)) c.in_ok-terms-2.terms c.in_ok-terms.terms.items k wide by (to_z-of_z w64 c.in-Some.constant c_fits ∙ (constant ∙ n)) terms

pub returns-clause-fits : goal.returns-clause-fits
returns-clause-fits c =
    let p_fits : FitsSigned w64 c.args.p = c.ranges.p in
    let q_fits : FitsSigned w64 c.args.q = c.ranges.q in
    let l_fits : FitsSigned w64 c.args.left.now.constant = search rules in
    let r_fits : FitsSigned w64 c.args.right.now.constant = search rules in
    let k_fits : FitsSigned w128 c.products-constant.result = search rules in
    let n_fits : FitsSigned w128 c.quotient.result = search rules in
    let k : c.products-constant.result ≡ c.args.p *ℤ c.args.left.now.constant +ℤ c.args.q *ℤ c.args.right.now.constant = simp to_z-of_z at c.products-constant.ensures.value in
    let wide : c.in_ok-terms.terms.items ≡ mixed_terms c.args.p c.args.left.now.terms c.args.q c.args.right.now.terms = simp (to_z-of_z, c.as_slice.ensures, c.as_slice-2.ensures) at c.in_ok-terms.ensures.value in
    let size : c.unsigned_abs.result ≡ unsigned_abs c.products-constant.result = simp to_z-of_z at c.unsigned_abs.ensures.value in
    let by : c.wide_divisor-by.result ≡ common_divisor (unsigned_abs c.products-constant.result) c.in_ok-terms.terms.items = c.wide_divisor-by.ensures.value ∙ (ap (λ (n : ℕ). common_divisor n c.deref.result.now) size ∙ ap (common_divisor (unsigned_abs c.products-constant.result)) c.deref.ensures.value) in
    let n : c.quotient.result ≡ int_div_euclid c.products-constant.result (pos c.wide_divisor-by.result) = simp to_z-of_z at c.quotient.ensures.value in
    let entry : true ≡ fits_entry c.quotient.result = simp to_z-of_z at c.in-Some.ensures.fits in
    let fits : list_all (λ t. fits_entry (divided_term c.wide_divisor-by.result t).1) c.in_ok-terms.terms.items ≡ true = rw (← c.deref-2.ensures.value) c.in_ok-terms-2.ensures.fits in
    reduced_sum-fits c.args.p c.args.left.now c.args.q c.args.right.now c.products-constant.result c.wide_divisor-by.result c.in_ok-terms.terms.items true true k wide by (ap fits_entry (sym n) ∙ sym entry) fits
