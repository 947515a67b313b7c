-- The first row that does not fit.
use Rattle.std.specs.Prelude.{◌≡◌, ℕ, suc, ◌+◌, ◌-◌, ◌^◌, ◌<◌, ◌≤◌, min, List, [], ◌∷◌, ◌++◌, Bool, true, false, cond, ◌&&◌, not, map, filter, flat_map, length}
use Rattle.std.specs.List.{list_all}
use Rattle.std.proofs.Common.{refl, sym, ap, ◌∙◌, arith, get_or, take, drop, drop-cons, length-append}
use Rattle.std.proofs.lemmas.List.{map-append, take-append-drop}
use Rattle.std.proofs.lemmas.List.Elements.{filter-append}
use Rattle.std.proofs.lemmas.List.Concat.{flat_map-append}
use Rattle.affine_rows.specs.declared.row.Row.{Row}
use Rattle.affine_rows.specs.declared.fault.RowFault.{RowFault}
use Rattle.affine_rows.specs.declared.fault.RowFault.TheVariants as row_fault
use Rattle.elimination.specs.declared.fault.SetFault.{SetFault}
use Rattle.elimination.specs.declared.fault.SetFault.TheVariants.{OutOfMemory, TooWide, TooManyRows}
use Rattle.affine_rows.specs.Reduced.{fits_row}
use Rattle.elimination.specs.Refusals.{first_wide, fault_of, IsRowFault, IsStageFault}

-- one row more in front
fit_first : (r : Row) (rows : List Row) → fits_row r ≡ true → first_wide (r ∷ rows) ≡ 1 + first_wide rows
fit_first r rows e = ap (λ (b : Bool). cond (not (not b)) (1 + first_wide rows) 0) e

wide_first : (r : Row) (rows : List Row) → fits_row r ≡ false → first_wide (r ∷ rows) ≡ 0
wide_first r rows e = ap (λ (b : Bool). cond (not (not b)) (1 + first_wide rows) 0) e

and_parts : (a b : Bool) → (a && b) ≡ true → (a ≡ true) × (b ≡ true)
and_parts true b h = (refl, h)
and_parts false b h = absurd (let no : false ≡ true = h in cc)

after_all : (xs ys : List Row) → list_all fits_row xs ≡ true → first_wide (xs ++ ys) ≡ length xs + first_wide ys
after_all [] ys h = omega arith
after_all (x ∷ xs) ys h = let parts = and_parts (fits_row x) (list_all fits_row xs) h in omega (arith, fit_first x (xs ++ ys) parts.0, after_all xs ys parts.1)

before_rest_step : (y : Row) (ys zs : List Row) (test : Bool) → fits_row y ≡ test → (first_wide ys < length ys → first_wide (ys ++ zs) ≡ first_wide ys) → first_wide (y ∷ ys) < length (y ∷ ys) → first_wide (y ∷ (ys ++ zs)) ≡ first_wide (y ∷ ys)
before_rest_step y ys zs true e f h = fit_first y (ys ++ zs) e ∙ (ap (λ (n : ℕ). 1 + n) (f (let g = fit_first y ys e in omega (arith, g))) ∙ sym (fit_first y ys e))
before_rest_step y ys zs false e f h = wide_first y (ys ++ zs) e ∙ sym (wide_first y ys e)

before_rest : (ys zs : List Row) → first_wide ys < length ys → first_wide (ys ++ zs) ≡ first_wide ys
before_rest [] zs h = absurd (omega arith)
before_rest (y ∷ ys) zs h = before_rest_step y ys zs (fits_row y) refl (before_rest ys zs) h

-- a fault in the middle of rows of which those before fit
pub later : (number before now : ℕ) (xs ys zs all : List Row) (fault : SetFault) → all ≡ xs ++ (ys ++ zs) → list_all fits_row xs ≡ true → now ≡ before + length xs → IsRowFault number now ys fault → IsRowFault number before all fault
later number before now xs ys zs all OutOfMemory same fit n h = tt
later number before now xs ys zs all (TooManyRows s) same fit n h = h
later number before now xs ys zs all (TooWide s r) same fit n h =
    let place : first_wide all ≡ length xs + first_wide ys = ap first_wide same ∙ (after_all xs (ys ++ zs) fit ∙ ap (λ (k : ℕ). length xs + k) (before_rest ys zs h.1)) in
    let size : length all ≡ length xs + (length ys + length zs) = ap length same ∙ (length-append xs (ys ++ zs) ∙ ap (λ (k : ℕ). length xs + k) (length-append ys zs)) in
    (h.0, omega (arith, place, size, h.1), h.2 ∙ ap (λ (k : ℕ). min k (2 ^ 32 - 1)) (let e : now + first_wide ys ≡ before + first_wide all = omega (arith, place, n) in e))

-- one row
pub one_fault : (number before : ℕ) (row : Row) (fault : RowFault) → (fault ≡ row_fault.Wide → fits_row row ≡ false) → IsRowFault number before (row ∷ []) (fault_of fault number before)
one_fault number before row row_fault.OutOfMemory h = tt
one_fault number before row row_fault.Wide h =
    let place : first_wide (row ∷ []) ≡ 0 = wide_first row [] (h refl) in
    (refl, omega (arith, place), ap (λ (k : ℕ). min k (2 ^ 32 - 1)) (let e : before ≡ before + first_wide (row ∷ []) = omega (arith, place) in e))

-- all rows of a stage
pub stage_fault : (number before : ℕ) (rows : List Row) (fault : SetFault) → before ≡ 0 → length rows ≤ 65536 → IsRowFault number before rows fault → IsStageFault number rows fault
stage_fault number before rows OutOfMemory zero_before few h = tt
stage_fault number before rows (TooManyRows s) zero_before few h = absurd h
stage_fault number before rows (TooWide s r) zero_before few h = (few, h.0, h.1, h.2 ∙ omega (arith, h.1))

-- ---- the rows round one element

parted : (rows : List Row) (i : ℕ) (row : Row) → i < length rows → row ≡ get_or rows i row → rows ≡ take i rows ++ (row ∷ drop (i + 1) rows)
parted rows i row within is =
    sym (take-append-drop i rows) ∙ ap (λ (xs : List Row). take i rows ++ xs) (drop-cons rows i row within ∙ (ap (λ (x : Row). x ∷ drop (suc i) rows) (sym is) ∙ ap (λ (n : ℕ). row ∷ drop n rows) (let e : suc i ≡ i + 1 = omega arith in e)))

pub mapped : (f : Row → Row) (rows : List Row) (i : ℕ) (row : Row) → i < length rows → row ≡ get_or rows i row → map f rows ≡ map f (take i rows) ++ (f row ∷ [] ++ map f (drop (i + 1) rows))
mapped f rows i row within is = ap (map f) (parted rows i row within is) ∙ map-append f (take i rows) (row ∷ drop (i + 1) rows)

filter_test : (p : Row → Bool) (row : Row) (rows : List Row) → p row ≡ true → filter p (row ∷ rows) ≡ row ∷ filter p rows
filter_test p row rows e = ap (λ (b : Bool). cond b (row ∷ filter p rows) (filter p rows)) e

filter_parted : (p : Row → Bool) (rows : List Row) (i : ℕ) (row : Row) → i < length rows → row ≡ get_or rows i row → p row ≡ true → filter p rows ≡ filter p (take i rows) ++ (row ∷ filter p (drop (i + 1) rows))
filter_parted p rows i row within is e =
    ap (filter p) (parted rows i row within is) ∙ (filter-append p (take i rows) (row ∷ drop (i + 1) rows) ∙ ap (λ (xs : List Row). filter p (take i rows) ++ xs) (filter_test p row (drop (i + 1) rows) e))

pub filtered : (f : Row → Row) (p : Row → Bool) (rows : List Row) (i : ℕ) (row : Row) → i < length rows → row ≡ get_or rows i row → p row ≡ true → map f (filter p rows) ≡ map f (filter p (take i rows)) ++ (f row ∷ [] ++ map f (filter p (drop (i + 1) rows)))
filtered f p rows i row within is e = ap (map f) (filter_parted p rows i row within is e) ∙ map-append f (filter p (take i rows)) (row ∷ filter p (drop (i + 1) rows))

pub flat : (g : Row → List Row) (p : Row → Bool) (rows : List Row) (i : ℕ) (row : Row) → i < length rows → row ≡ get_or rows i row → p row ≡ true → flat_map g (filter p rows) ≡ flat_map g (filter p (take i rows)) ++ (g row ++ flat_map g (filter p (drop (i + 1) rows)))
flat g p rows i row within is e = ap (flat_map g) (filter_parted p rows i row within is e) ∙ flat_map-append g (filter p (take i rows)) (row ∷ filter p (drop (i + 1) rows))
