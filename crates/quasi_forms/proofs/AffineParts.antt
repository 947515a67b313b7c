-- The forms of index expressions, and numbers among them.
use Rattle.std.proofs.Common.{◌≡◌, ℕ, ◌^◌, ◌<◌, ◌≤◌, ℤ, pos, neg_ℤ, Bool, true, false, cond, ◌&&◌, List, [], ◌∷◌, ◌++◌, map, sum, sum_by, length, arith, refl, sym, ap, ap₂, ◌∙◌, subst, rules, ◌⊎◌, inl, inr, unsigned_abs, All}
use Rattle.std.specs.Prelude.{Option, Some, None, flat_map}
use Rattle.std.specs.List.{list_all, AllByRecursion}
use Rattle.std.specs.Int.{int_div_euclid}
use Rattle.std.proofs.lemmas.Int.{ints, unsigned_abs-mul}
use Rattle.std.proofs.lemmas.List.Sums.{sum-map, sum_by-cons}
use Rattle.std.proofs.Math.Nat.{mul-le-mul_left, div-eq_of_lt-le}
use Rattle.std.proofs.lemmas.List.Elements.{All-nil, All-head, All-tail}
use Rattle.affine_rows.specs.declared.quasi.Quasi.{Quasi, Quasi-F, roll-Quasi, out-Quasi, out-roll-Quasi, fold_out-Quasi, ind-Quasi}
use Rattle.affine_rows.specs.declared.quasi.Floor.{Floor, Floor-F, roll-Floor, out-Floor, out-roll-Floor, fold-Floor, fold_out-Floor}
use Rattle.affine_rows.specs.Rows.{Env, terms_at}
use Rattle.affine_rows.specs.Forms.{total, form_at, floor_at, ceil_div, constant_count, IsForm, IsFloor}
use Rattle.affine_rows.specs.Reach.{floor_sum, floor_constant}
use Rattle.affine_rows.proofs.Quotients.{quotient_small, ceil_div-reach}
use Rattle.affine_rows.proofs.FormEquations.{form_at-out, floor_at-out, IsForm-small, IsForm-floors, IsFloor-inner, IsFloor-by}
use Rattle.expr_tree.specs.declared.tree.Op.{Op}
use Rattle.expr_tree.specs.declared.tree.Op.TheVariants.{Add, Mul, Min, Max, Sub, And, Or, Xor}
use Rattle.expr_tree.specs.declared.tree.Expr.{Expr}
use Rattle.expr_tree.specs.declared.tree.Node.{the_lemmas}
use Rattle.expr_tree.specs.declared.tree.Node.TheVariants.{Neg, Bin}
use Rattle.expr_tree.specs.Trees.{node_of}
use Rattle.quasi_forms.specs.Collected.{constant_form, sum_form}
use Rattle.quasi_forms.specs.Alike.{same_floor, distinct}
use Rattle.quasi_forms.specs.Limits.{floors_within, IsWithin}
use Rattle.quasi_forms.specs.Affine.{Part, is_constant, number_of_form, times_form, number_part, sum_part, sum_of_parts, multiple_part, product_of_parts, operation_part, affine_part, IsMade, IsMadeOf, CannotBeMade}
use Rattle.quasi_forms.proofs.Recursion.{recursion-left, recursion-right}
use Rattle.quasi_forms.proofs.FormLimits.{sum_count-out, constant_count-out, floor_constant-out, floors_in-out, form_made}

-- ---- forms without variables

none_pass : (ts : List (ℕ × ℤ)) → ts ≡ [] → list_all (λ (t : ℕ × ℤ). false) ts ≡ true
none_pass ts e = ap (list_all (λ (t : ℕ × ℤ). false)) e

some_fails : (ts : List (ℕ × ℤ)) → (ts ≡ [] → ⊥) → list_all (λ (t : ℕ × ℤ). false) ts ≡ false
some_fails [] h = absurd (h refl)
some_fails (t ∷ ts) h = refl

floor_is_constant : Floor → Bool
floor_is_constant = fold-Floor Bool Bool (λ f. f.inner) (λ q. list_all (λ t. false) q.terms && list_all (λ b. b) q.floors)

floor_constant-is : (f : Floor) → floor_is_constant f ≡ is_constant (out-Floor f).inner
unfolding floor_is_constant
floor_constant-is = fold_out-Floor Bool Bool (λ f. f.inner) (λ q. list_all (λ t. false) q.terms && list_all (λ b. b) q.floors)

floors_constant : (fs : List Floor) → list_all (λ b. b) (map floor_is_constant fs) ≡ list_all (λ f. is_constant (out-Floor f).inner) fs
floors_constant [] = refl
floors_constant (f ∷ fs) = ap₂ (λ (a b : Bool). a && b) (floor_constant-is f) (floors_constant fs)

pub constant-is : (q : Quasi) → is_constant q ≡ (list_all (λ (t : ℕ × ℤ). false) (out-Quasi q).terms && list_all (λ f. is_constant (out-Floor f).inner) (out-Quasi q).floors)
unfolding floor_is_constant
constant-is q =
    fold_out-Quasi Bool Bool (λ f. f.inner) (λ q. list_all (λ t. false) q.terms && list_all (λ b. b) q.floors) q
    ∙ ap (λ (b : Bool). list_all (λ (t : ℕ × ℤ). false) (out-Quasi q).terms && b) (floors_constant (out-Quasi q).floors)

pub no_terms : (q : Quasi) (b : Bool) → (out-Quasi q).terms ≡ [] → b ≡ list_all (λ f. is_constant (out-Floor f).inner) (out-Quasi q).floors → b ≡ is_constant q
no_terms q b e h = h ∙ sym (constant-is q ∙ ap (λ (a : Bool). a && list_all (λ f. is_constant (out-Floor f).inner) (out-Quasi q).floors) (none_pass (out-Quasi q).terms e))

pub some_terms : (q : Quasi) → ((out-Quasi q).terms ≡ [] → ⊥) → false ≡ is_constant q
some_terms q h = sym (constant-is q ∙ ap (λ (a : Bool). a && list_all (λ f. is_constant (out-Floor f).inner) (out-Quasi q).floors) (some_fails (out-Quasi q).terms h))

-- ---- the number of a form is an entry

zeros : Env
zeros v = pos 0

no_value : (ts : List (ℕ × ℤ)) → terms_at zeros ts ≡ pos 0
unfolding zeros
no_value [] = refl
no_value (t ∷ ts) = omega (arith, ints, no_value ts)

no_ceil : (n : ℕ) → 0 < n → ceil_div 0 n ≡ 0
no_ceil n positive = div-eq_of_lt-le n (omega arith) (omega (arith, positive))

abbrev FloorSmall : Floor → Type 0
FloorSmall f = IsFloor f → unsigned_abs (floor_at zeros f) ≤ floor_constant f

abbrev FormSmall : Quasi → Type 0
FormSmall q = IsForm q → unsigned_abs (form_at zeros q) ≤ constant_count q

floor_small : (f : Floor) → FormSmall (out-Floor f).inner → FloorSmall f
floor_small f inner h =
    let e : ℤ = form_at zeros (out-Floor f).inner in
    let n : ℕ = unsigned_abs (out-Floor f).by in
    let small = inner (IsFloor-inner f h) in
    let quotient = quotient_small e (out-Floor f).by (IsFloor-by f h) in
    let more : ceil_div (unsigned_abs e) n ≤ ceil_div (constant_count (out-Floor f).inner) n = (let above : 0 < n = (let p = IsFloor-by f h in omega (arith, ints, p)) in let all = ceil_div-reach (unsigned_abs e) (constant_count (out-Floor f).inner) 0 n above (omega (arith, small)) in omega (arith, all, no_ceil n above)) in
    let size = ap unsigned_abs (floor_at-out zeros f) ∙ unsigned_abs-mul (out-Floor f).times (int_div_euclid e (out-Floor f).by) in
    let below : unsigned_abs (int_div_euclid e (out-Floor f).by) ≤ ceil_div (constant_count (out-Floor f).inner) n = omega (arith, quotient, more) in
    omega (arith, size, mul-le-mul_left (unsigned_abs (out-Floor f).times) below, floor_constant-out f)

floors_small : (es : List ((f : Floor) × FloorSmall f)) → All IsFloor (map (λ e. e.0) es) → unsigned_abs (total (map (floor_at zeros) (map (λ e. e.0) es))) ≤ sum (map floor_constant (map (λ e. e.0) es))
floors_small [] h = omega arith
floors_small (e ∷ es) h =
    let here = e.1 (All-head IsFloor e.0 (map (λ e. e.0) es) h) in
    let rest = floors_small es (All-tail IsFloor e.0 (map (λ e. e.0) es) h) in
    let whole = sum_by-cons floor_constant e.0 (map (λ e. e.0) es) in
    let first = sum-map floor_constant (e.0 ∷ map (λ e. e.0) es) in
    let others = sum-map floor_constant (map (λ e. e.0) es) in
    omega (arith, ints, here, rest, whole, first, others)

form_small : (y : Quasi-F ((f : Floor) × FloorSmall f) ((q : Quasi) × FormSmall q)) → FormSmall (roll-Quasi (record { constant = y.constant; terms = y.terms; floors = map (λ e. e.0) y.floors }))
form_small y h =
    let l : Quasi-F Floor Quasi = record { constant = y.constant; terms = y.terms; floors = map (λ e. e.0) y.floors } in
    let q : Quasi = roll-Quasi l in
    let floors : map (λ e. e.0) y.floors ≡ (out-Quasi q).floors = sym (ap (λ (l : Quasi-F Floor Quasi). l.floors) (out-roll-Quasi l)) in
    let small : unsigned_abs (total (map (floor_at zeros) (out-Quasi q).floors)) ≤ sum (map floor_constant (out-Quasi q).floors) =
    subst (λ (fs : List Floor). unsigned_abs (total (map (floor_at zeros) fs)) ≤ sum (map floor_constant fs)) floors (floors_small y.floors (subst (All IsFloor) (sym floors) (IsForm-floors q h))) in
    let value = form_at-out zeros q in
    omega (arith, ints, value, no_value (out-Quasi q).terms, small, constant_count-out q)

pub number_small : (q : Quasi) → IsForm q → unsigned_abs (number_of_form q) ≤ 2 ^ 62
unfolding zeros
number_small q h =
    let small = ind-Quasi FloorSmall FormSmall
    (λ x y is. subst (λ z. FloorSmall (roll-Floor z)) is
    (floor_small (roll-Floor (record { times = y.times; inner = y.inner.0; by = y.by })) (subst (λ (l : Floor-F Floor Quasi). FormSmall l.inner) (sym (out-roll-Floor (record { times = y.times; inner = y.inner.0; by = y.by }))) y.inner.1)))
    (λ x y is. subst (λ z. FormSmall (roll-Quasi z)) is (form_small y)) q h in
    omega (arith, small, (IsForm-small q h).constant)

-- ---- numbers

pub number_made : (n : ℕ) (q : Quasi) → n ≤ 1048576 → q ≡ constant_form (pos n) → IsMade (number_part (pos n)) true q
number_made n q small is =
    let f : Quasi = constant_form (pos n) in
    let none : (out-Quasi f).floors ≡ [] = simp out-roll-Quasi refl in
    let terms : (out-Quasi f).terms ≡ [] = simp out-roll-Quasi refl in
    let own : (out-Quasi f).constant ≡ pos n = simp out-roll-Quasi refl in
    let sums = ap (λ (fs : List Floor). sum (map floor_sum fs)) none in
    let constants = ap (λ (fs : List Floor). sum (map floor_constant fs)) none in
    let size = ap unsigned_abs own in
    let all = ap (sum_by (λ (t : ℕ × ℤ). unsigned_abs t.1)) terms in
    let factors = ap (sum_by (λ (f : Floor). unsigned_abs (out-Floor f).times)) none in
    let count = ap (λ (fs : List Floor). length (distinct same_floor fs)) (floors_in-out f ∙ ap (flat_map floors_within) none) in
    record {
      form = is;
      written = refl;
      within = (
        record {
          form = form_made f (subst (All IsFloor) (sym none) (All-nil IsFloor)) (record { sum = omega (arith, sum_count-out f, all, sums); constant = omega (arith, constant_count-out f, size, constants, small); factors = omega (arith, factors) });
          floors = omega (arith, count);
        },
        tt,
      );
    }

-- ---- operations

-- where one side cannot be made, the operation cannot
abbrev StepsFail : Part → Type 0
StepsFail p = AllByRecursion IsWithin p.steps → ⊥

sum_left : (a b : Part) (t : ℤ) → StepsFail a → StepsFail (sum_part a t b)
sum_left a b t h all = h (recursion-left IsWithin a.steps b.steps (recursion-left IsWithin (a.steps ++ b.steps) (sum_form a.form t b.form ∷ []) all))

sum_right : (a b : Part) (t : ℤ) → StepsFail b → StepsFail (sum_part a t b)
sum_right a b t h all = h (recursion-right IsWithin a.steps b.steps (recursion-left IsWithin (a.steps ++ b.steps) (sum_form a.form t b.form ∷ []) all))

multiple_left : (a b : Part) → StepsFail a → StepsFail (multiple_part a b)
multiple_left a b h all = h (recursion-left IsWithin a.steps b.steps (recursion-left IsWithin (a.steps ++ b.steps) (times_form a.form b.form ∷ []) all))

multiple_right : (a b : Part) → StepsFail b → StepsFail (multiple_part a b)
multiple_right a b h all = h (recursion-right IsWithin a.steps b.steps (recursion-left IsWithin (a.steps ++ b.steps) (times_form a.form b.form ∷ []) all))

product_fails : (c d : Bool) (a b : Part) → StepsFail (multiple_part a b) → StepsFail (multiple_part b a) → CannotBeMade (cond c (Some (multiple_part a b)) (cond d (Some (multiple_part b a)) None))
product_fails true d a b h k = h
product_fails false true a b h k = k
product_fails false false a b h k = tt

sum_fails : (a b : Option Part) (t : ℤ) → (CannotBeMade a ⊎ CannotBeMade b) → CannotBeMade (sum_of_parts a t b)
sum_fails None b t h = tt
sum_fails (Some a) None t h = tt
sum_fails (Some a) (Some b) t (inl h) = sum_left a b t h
sum_fails (Some a) (Some b) t (inr h) = sum_right a b t h

products_fail : (a b : Option Part) → (CannotBeMade a ⊎ CannotBeMade b) → CannotBeMade (product_of_parts a b)
products_fail None b h = tt
products_fail (Some a) None h = tt
products_fail (Some a) (Some b) (inl h) = product_fails a.constant b.constant a b (multiple_left a b h) (multiple_right b a h)
products_fail (Some a) (Some b) (inr h) = product_fails a.constant b.constant a b (multiple_right a b h) (multiple_left b a h)

pub operation_fails : (op : Op) (a b : Option Part) → (CannotBeMade a ⊎ CannotBeMade b) → CannotBeMade (operation_part op a b)
operation_fails Add a b h = sum_fails a b (pos 1) h
operation_fails Sub a b h = sum_fails a b (neg_ℤ (pos 1)) h
operation_fails Mul a b h = products_fail a b h
operation_fails Min a b h = tt
operation_fails Max a b h = tt
operation_fails And a b h = tt
operation_fails Or a b h = tt
operation_fails Xor a b h = tt

-- ---- trees

pub affine-Neg : (e a : Expr) → node_of e ≡ Neg a → affine_part e ≡ operation_part Sub (Some (number_part (pos 0))) (affine_part a)
affine-Neg e a is = search (rules, the_lemmas, is)

pub affine-Bin : (e : Expr) (op : Op) (a b : Expr) → node_of e ≡ Bin op a b → affine_part e ≡ operation_part op (affine_part a) (affine_part b)
affine-Bin e op a b is = search (rules, the_lemmas, is)

-- what holds of an index expression that is made holds of the tree's
pub of_made : (part : Option Part) (c : Bool) (f : Quasi) (P : Option Part → Type 0) → IsMadeOf part c f → ((p : Part) → IsMade p c f → P (Some p)) → P part
of_made None c f P h k = absurd h
of_made (Some p) c f P h k = k p h
