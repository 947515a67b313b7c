-- The product of shape entries, one entry after the other.
use Rattle.std.proofs.Common.{◌≡◌, ◌∙◌, ◌^◌, ◌-◌, pos, neg_ℤ, Bool, true, false, ◌&&◌, ◌||◌, cond, List, [], ◌∷◌, ◌++◌, refl, sym, ap, subst, Option, Some, None, IfSome}
use Rattle.std.specs.List.{AllByRecursion, list_all}
use Rattle.std.specs.Option.{is_some}
use Rattle.affine_rows.specs.declared.quasi.Quasi.{Quasi}
use Rattle.affine_rows.specs.Forms.{IsForm}
use Rattle.quasi_forms.specs.Affine.{Part, is_constant, times_form, multiple_part, product_of_parts}
use Rattle.quasi_forms.proofs.Likeness.{both, and_true}
use Rattle.quasi_forms.proofs.Recursion.{recursion-append}
use Rattle.kernel_ir.specs.Limits.{entry_part, size_from, size_forms, size_part}
use Rattle.quasi_forms.specs.Fits.{fits_form}
use Rattle.kernel_limits.specs.Asked.{fits_size}
use Rattle.kernel_limits.specs.SizeForms.{size_form, form_where, small_size_form}
use Rattle.kernel_limits.specs.Sizes.{joins, moved, IsSize, product_form}
use Rattle.quasi_forms.proofs.Deciding.{form_fits}

-- ---- lists of forms

and_assoc : (a b c : Bool) → (a && (b && c)) ≡ ((a && b) && c)
and_assoc true b c = refl
and_assoc false b c = refl

and_end : (b : Bool) → (true && (b && true)) ≡ b
and_end true = refl
and_end false = refl

fit_append : (xs ys : List Quasi) → list_all fits_form (xs ++ ys) ≡ (list_all fits_form xs && list_all fits_form ys)
fit_append [] ys = refl
fit_append (x ∷ xs) ys = ap (λ (b : Bool). fits_form x && b) (fit_append xs ys) ∙ and_assoc (fits_form x) (list_all fits_form xs) (list_all fits_form ys)

all_fit : (xs : List Quasi) → AllByRecursion IsForm xs → list_all fits_form xs ≡ true
all_fit [] all = refl
all_fit (x ∷ xs) all = and_true (fits_form x) (list_all fits_form xs) (form_fits x all.0) (all_fit xs all.1)

fails_left : (xs ys : List Quasi) → list_all fits_form xs ≡ false → list_all fits_form (xs ++ ys) ≡ false
fails_left xs ys h = fit_append xs ys ∙ ap (λ (b : Bool). b && list_all fits_form ys) h

and_false : (a : Bool) → (a && false) ≡ false
and_false true = refl
and_false false = refl

fails_right : (xs ys : List Quasi) → list_all fits_form ys ≡ false → list_all fits_form (xs ++ ys) ≡ false
fails_right xs ys h = fit_append xs ys ∙ (ap (λ (b : Bool). list_all fits_form xs && b) h ∙ and_false (list_all fits_form xs))

last_fit : (xs : List Quasi) (x : Quasi) (b : Bool) → AllByRecursion IsForm xs → b ≡ fits_form x → b ≡ list_all fits_form (xs ++ x ∷ [])
last_fit xs x b all h = h ∙ sym (fit_append xs (x ∷ []) ∙ (ap (λ (c : Bool). c && (fits_form x && true)) (all_fit xs all) ∙ and_end (fits_form x)))

-- ---- one entry more

pub next_part : Bool → Part → Quasi → Part
next_part true p q = multiple_part p (entry_part q)
next_part false p q = multiple_part (entry_part q) p

next_is : (c : Bool) (p : Part) (q : Quasi) → p.constant ≡ c → (c || is_constant q) ≡ true → product_of_parts (Some p) (Some (entry_part q)) ≡ Some (next_part c p q)
unfolding next_part
next_is true p q e h = ap (λ (b : Bool). cond b (Some (multiple_part p (entry_part q))) (cond (is_constant q) (Some (multiple_part (entry_part q) p)) None)) e
next_is false p q e h =
    ap (λ (b : Bool). cond b (Some (multiple_part p (entry_part q))) (cond (is_constant q) (Some (multiple_part (entry_part q) p)) None)) e
    ∙ ap (λ (b : Bool). cond b (Some (multiple_part (entry_part q) p)) None) h

next_form : (c : Bool) (p : Part) (q size : Quasi) → p.form ≡ size → (next_part c p q).form ≡ product_form c size q
unfolding next_part
next_form true p q size e = ap (λ (f : Quasi). times_form f q) e
next_form false p q size e = ap (λ (f : Quasi). times_form q f) e

next_constant : (c : Bool) (p : Part) (q : Quasi) → p.constant ≡ c → (next_part c p q).constant ≡ (c && is_constant q)
unfolding next_part
next_constant true p q e = ap (λ (b : Bool). b && is_constant q) e
next_constant false p q e = ap (λ (b : Bool). is_constant q && b) e ∙ and_false (is_constant q)

before : Bool → Part → Quasi → List Quasi
before true p q = p.steps ++ (entry_part q).steps
before false p q = (entry_part q).steps ++ p.steps

next_steps : (c : Bool) (p : Part) (q : Quasi) → (next_part c p q).steps ≡ before c p q ++ (next_part c p q).form ∷ []
unfolding next_part before
next_steps true p q = refl
next_steps false p q = refl

before_forms : (c : Bool) (p : Part) (q : Quasi) → AllByRecursion IsForm p.steps → IsForm q → AllByRecursion IsForm (before c p q)
unfolding before
before_forms true p q all form = recursion-append IsForm p.steps (q ∷ []) all (form, tt)
before_forms false p q all form = recursion-append IsForm (q ∷ []) p.steps (form, tt) all

before_fails : (c : Bool) (p : Part) (q : Quasi) → list_all fits_form p.steps ≡ false → list_all fits_form (before c p q) ≡ false
unfolding before
before_fails true p q h = fails_left p.steps (q ∷ []) h
before_fails false p q h = fails_right (q ∷ []) p.steps h

pub next_size : (c : Bool) (p : Part) (q size f : Quasi) → IsSize p size c → IsForm q → f ≡ product_form c size q → IsForm f → IsSize (next_part c p q) f (c && is_constant q)
next_size c p q size f h form is made = record {
  form = next_form c p q size h.form ∙ sym is;
  written = next_constant c p q h.written;
  steps =
      subst (AllByRecursion IsForm) (sym (next_steps c p q))
      (recursion-append IsForm (before c p q) ((next_part c p q).form ∷ []) (before_forms c p q h.steps form) (subst IsForm (is ∙ sym (next_form c p q size h.form)) made, tt));
}

from_next : (c : Bool) (p : Part) (q : Quasi) (qs : List Quasi) → p.constant ≡ c → (c || is_constant q) ≡ true → size_from (Some p) (q ∷ qs) ≡ size_from (Some (next_part c p q)) qs
from_next c p q qs e h = ap (λ (s : Option Part). size_from s qs) (next_is c p q e h)

-- ---- a step that does not fit

steps_fail : (qs : List Quasi) (c : Bool) (p : Part) → p.constant ≡ c → joins c qs ≡ true → list_all fits_form p.steps ≡ false → list_all fits_form (size_forms (size_from (Some p) qs)) ≡ false
steps_fail [] c p e h fails = fails_left p.steps _ fails
steps_fail (q ∷ qs) c p e h fails =
    let parts = both (c || is_constant q) (joins (c && is_constant q) qs) h in
    ap (λ (s : Option Part). list_all fits_form (size_forms s)) (from_next c p q qs e parts.0)
    ∙ steps_fail qs (c && is_constant q) (next_part c p q) (next_constant c p q e) parts.1
    (ap (list_all fits_form) (next_steps c p q) ∙ fails_left (before c p q) ((next_part c p q).form ∷ []) (before_fails c p q fails))

-- ---- what is decided

pub decides_row : (p : Part) (size : Quasi) (c b : Bool) → IsSize p size c → b ≡ fits_form (moved (pos (2 ^ 31 - 1)) (neg_ℤ (pos 1)) size) → b ≡ list_all fits_form (size_forms (size_from (Some p) []))
decides_row p size c b h fits = last_fit p.steps (moved (pos (2 ^ 31 - 1)) (neg_ℤ (pos 1)) p.form) b h.steps (fits ∙ ap fits_form (sym (ap (moved (pos (2 ^ 31 - 1)) (neg_ℤ (pos 1))) h.form)))

pub decides_fail : (p : Part) (q size : Quasi) (qs : List Quasi) (c : Bool) → IsSize p size c → joins c (q ∷ qs) ≡ true → fits_form (product_form c size q) ≡ false → false ≡ list_all fits_form (size_forms (size_from (Some p) (q ∷ qs)))
decides_fail p q size qs c h join fails =
    let parts = both (c || is_constant q) (joins (c && is_constant q) qs) join in
    let made : fits_form (next_part c p q).form ≡ false = ap fits_form (next_form c p q size h.form) ∙ fails in
    let steps : list_all fits_form (next_part c p q).steps ≡ false = ap (list_all fits_form) (next_steps c p q) ∙ fails_right (before c p q) ((next_part c p q).form ∷ []) (ap (λ (b : Bool). b && true) made) in
    sym (ap (λ (s : Option Part). list_all fits_form (size_forms s)) (from_next c p q qs h.written parts.0) ∙ steps_fail qs (c && is_constant q) (next_part c p q) (next_constant c p q h.written) parts.1 steps)

pub decides_next : (p : Part) (q size f : Quasi) (qs : List Quasi) (c b : Bool) → IsSize p size c → joins c (q ∷ qs) ≡ true → IsForm q → f ≡ product_form c size q → IsForm f →
    ((r : Part) → IsSize r f (c && is_constant q) → b ≡ list_all fits_form (size_forms (size_from (Some r) qs))) → b ≡ list_all fits_form (size_forms (size_from (Some p) (q ∷ qs)))
decides_next p q size f qs c b h join form is made rest =
    let parts = both (c || is_constant q) (joins (c && is_constant q) qs) join in
    rest (next_part c p q) (next_size c p q size f h form is made) ∙ ap (λ (s : Option Part). list_all fits_form (size_forms s)) (sym (from_next c p q qs h.written parts.0))

-- ---- the row itself

pub row_is : (p : Part) (size : Quasi) (c : Bool) → IsSize p size c → Some (moved (pos (2 ^ 31 - 1)) (neg_ℤ (pos 1)) size) ≡ size_form (size_from (Some p) [])
row_is p size c h = ap (λ (f : Quasi). Some (moved (pos (2 ^ 31 - 1)) (neg_ℤ (pos 1)) f)) (sym h.form)

pub row_next : (p : Part) (q size f row : Quasi) (qs : List Quasi) (c : Bool) → IsSize p size c → joins c (q ∷ qs) ≡ true → IsForm q → f ≡ product_form c size q → IsForm f →
    ((r : Part) → IsSize r f (c && is_constant q) → Some row ≡ size_form (size_from (Some r) qs)) → Some row ≡ size_form (size_from (Some p) (q ∷ qs))
row_next p q size f row qs c h join form is made rest =
    let parts = both (c || is_constant q) (joins (c && is_constant q) qs) join in
    rest (next_part c p q) (next_size c p q size f h form is made) ∙ ap size_form (sym (from_next c p q qs h.written parts.0))

-- ---- more than one entry with variables

none_from : (qs : List Quasi) → size_from None qs ≡ None
none_from [] = refl
none_from (q ∷ qs) = none_from qs

none_next : (c : Bool) (p : Part) (q : Quasi) → p.constant ≡ c → (c || is_constant q) ≡ false → product_of_parts (Some p) (Some (entry_part q)) ≡ None
none_next true p q e h = absurd (let clash : true ≡ false = h in cc)
none_next false p q e h =
    ap (λ (b : Bool). cond b (Some (multiple_part p (entry_part q))) (cond (is_constant q) (Some (multiple_part (entry_part q) p)) None)) e
    ∙ ap (λ (b : Bool). cond b (Some (multiple_part (entry_part q) p)) None) h

joins_case : (qs : List Quasi) (c d : Bool) (p : Part) (q : Quasi) → p.constant ≡ c → (c || is_constant q) ≡ d → (d && joins (c && is_constant q) qs) ≡ false →
    ((r : Part) → r.constant ≡ (c && is_constant q) → joins (c && is_constant q) qs ≡ false → size_from (Some r) qs ≡ None) → size_from (Some p) (q ∷ qs) ≡ None
joins_case qs c true p q e d h rest = from_next c p q qs e d ∙ rest (next_part c p q) (next_constant c p q e) h
joins_case qs c false p q e d h rest = ap (λ (s : Option Part). size_from s qs) (none_next c p q e d) ∙ none_from qs

not_joined : (qs : List Quasi) (c : Bool) (p : Part) → p.constant ≡ c → joins c qs ≡ false → size_from (Some p) qs ≡ None
not_joined [] c p e h = absurd (let clash : true ≡ false = h in cc)
not_joined (q ∷ qs) c p e h = joins_case qs c (c || is_constant q) p q e refl h (λ r f g. not_joined qs (c && is_constant q) r f g)

pub no_part : (q : Quasi) (qs : List Quasi) → joins (is_constant q) qs ≡ false → size_from (Some (entry_part q)) qs ≡ None
no_part q qs h = not_joined qs (is_constant q) (entry_part q) refl h

pub decides_none : (q : Quasi) (qs : List Quasi) → joins (is_constant q) qs ≡ false → true ≡ fits_size (q ∷ qs)
decides_none q qs h = ap (λ (s : Option Part). list_all fits_form (size_forms s)) (sym (no_part q qs h))

pub first_size : (q : Quasi) → IsForm q → IsSize (entry_part q) q (is_constant q)
first_size q form = record { form = refl; written = refl; steps = (form, tt) }

-- ---- the row of a shape

pub no_row : (q : Quasi) (qs : List Quasi) → joins (is_constant q) qs ≡ false → None ≡ small_size_form (q ∷ qs)
no_row q qs h = ap (λ (s : Option Part). form_where (list_all fits_form (size_forms s)) (size_form s)) (sym (no_part q qs h))

-- what comes of the entries is the row where all forms fit
pub row_made : (q : Quasi) (qs : List Quasi) (made : Option Quasi) → is_some made ≡ fits_size (q ∷ qs) → IfSome made (λ f. Some f ≡ size_form (size_part (q ∷ qs))) → made ≡ small_size_form (q ∷ qs)
row_made q qs None fits row = ap (λ (b : Bool). form_where b (size_form (size_part (q ∷ qs)))) fits
row_made q qs (Some f) fits row = row ∙ ap (λ (b : Bool). form_where b (size_form (size_part (q ∷ qs)))) fits
