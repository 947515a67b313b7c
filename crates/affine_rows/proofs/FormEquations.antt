-- The equations of a form's value and of its bound.
use Rattle.std.proofs.Common.{◌≡◌, ℕ, ◌+◌, ◌*◌, ◌^◌, ◌≤◌, ◌<◌, ℤ, pos, ◌+ℤ◌, ◌*ℤ◌, ◌≤ℤ◌, List, [], ◌∷◌, map, sum, sum_by, unsigned_abs, arith, subst, length, get_or, All}
use Rattle.std.specs.Int.{int_div_euclid}
use Rattle.std.proofs.lemmas.Int.{ints}
use Rattle.std.proofs.lemmas.List.Sums.{sum-map, sum_by-cons, get_or-le-sum_by}
use Rattle.std.proofs.lemmas.List.Elements.{All-nil, All-cons}
use Rattle.affine_rows.specs.declared.quasi.Quasi.{Quasi, roll-Quasi, out-Quasi, roll-out-Quasi, fold_out-Quasi, every_here-Quasi, every_held-Quasi}
use Rattle.affine_rows.specs.declared.quasi.Floor.{Floor, out-Floor, fold_out-Floor, every-Floor, every_here-Floor, every_held-Floor}
use Rattle.affine_rows.specs.Rows.{Env, terms_at}
use Rattle.affine_rows.specs.Forms.{total, floor_step, form_step, form_at, floor_at, ceil_div, floor_count, sum_step, constant_step, sum_count, constant_count, IsSmall, IsQuotient, IsForm, IsFloor}
use Rattle.affine_rows.specs.Reach.{floor_sum, floor_constant, reach, reach_of_floor}
use Rattle.affine_rows.proofs.Quotients.{ceil_div-reach, product_reach}

pub form_at-out : (env : Env) (q : Quasi) → form_at env q ≡ (out-Quasi q).constant +ℤ (terms_at env (out-Quasi q).terms +ℤ total (map (floor_at env) (out-Quasi q).floors))
form_at-out env = fold_out-Quasi ℤ ℤ floor_step (form_step env)

pub floor_at-out : (env : Env) (f : Floor) → floor_at env f ≡ (out-Floor f).times *ℤ int_div_euclid (form_at env (out-Floor f).inner) (out-Floor f).by
floor_at-out env = fold_out-Floor ℤ ℤ floor_step (form_step env)

sum_count-out : (q : Quasi) → sum_count q ≡ sum_by (λ t. unsigned_abs t.1) (out-Quasi q).terms + sum (map floor_sum (out-Quasi q).floors)
sum_count-out = fold_out-Quasi ℕ ℕ floor_count sum_step

constant_count-out : (q : Quasi) → constant_count q ≡ unsigned_abs (out-Quasi q).constant + sum (map floor_constant (out-Quasi q).floors)
constant_count-out = fold_out-Quasi ℕ ℕ floor_count constant_step

floor_sum-out : (f : Floor) → floor_sum f ≡ unsigned_abs (out-Floor f).times * ceil_div (sum_count (out-Floor f).inner) (unsigned_abs (out-Floor f).by)
floor_sum-out = fold_out-Floor ℕ ℕ floor_count sum_step

floor_constant-out : (f : Floor) → floor_constant f ≡ unsigned_abs (out-Floor f).times * ceil_div (constant_count (out-Floor f).inner) (unsigned_abs (out-Floor f).by)
floor_constant-out = fold_out-Floor ℕ ℕ floor_count constant_step

-- the bounds of floors added up
reaches : (fs : List Floor) → sum_by reach_of_floor fs ≡ sum_by floor_constant fs + 2 ^ 63 * sum_by floor_sum fs
reaches [] = omega arith
reaches (f ∷ fs) = omega (arith, reaches fs, sum_by-cons reach_of_floor f fs, sum_by-cons floor_constant f fs, sum_by-cons floor_sum f fs)

floors_reach : (fs : List Floor) → sum (map reach_of_floor fs) ≡ sum (map floor_constant fs) + 2 ^ 63 * sum (map floor_sum fs)
floors_reach fs = omega (arith, reaches fs, sum-map reach_of_floor fs, sum-map floor_constant fs, sum-map floor_sum fs)

pub form_reach_is : (q : Quasi) → unsigned_abs (out-Quasi q).constant + (2 ^ 63 * sum_by (λ t. unsigned_abs t.1) (out-Quasi q).terms + sum (map reach_of_floor (out-Quasi q).floors)) ≡ reach q
form_reach_is q = omega (arith, sum_count-out q, constant_count-out q, floors_reach (out-Quasi q).floors)

-- a product with a floor's factor does not pass the floor's bound, where the quotient does not pass that of the inner form
pub floor_reach_is : (f : Floor) (n : ℕ) → n ≤ ceil_div (constant_count (out-Floor f).inner) (unsigned_abs (out-Floor f).by) + 2 ^ 63 * ceil_div (sum_count (out-Floor f).inner) (unsigned_abs (out-Floor f).by) → unsigned_abs (out-Floor f).times * n ≤ reach_of_floor f
floor_reach_is f n h =
    let all = product_reach (unsigned_abs (out-Floor f).times) n _ _ h in
    omega (arith, all, floor_sum-out f, floor_constant-out f)

abbrev EveryFloor : Floor → Type 0
EveryFloor = every-Floor (λ f. IsQuotient f.times f.by) (λ layer. IsSmall (roll-Quasi layer))

pub IsForm-small : (q : Quasi) → IsForm q → IsSmall q
IsForm-small q h = subst (λ z. IsSmall z) (roll-out-Quasi q) (every_here-Quasi _ _ q h.layers)

pub IsForm-reach : (q : Quasi) → IsForm q → reach q ≤ 2 ^ 126
IsForm-reach q h = let small = IsForm-small q h in omega (arith, small.sum, small.constant)

each : (fs : List ((f : Floor) × EveryFloor f)) → All IsFloor (map (λ e. e.0) fs)
each [] = All-nil IsFloor
each (e ∷ fs) = All-cons IsFloor e.0 (map (λ e. e.0) fs) (record { layers = e.1 }) (each fs)

pub IsForm-floors : (q : Quasi) → IsForm q → All IsFloor (out-Quasi q).floors
IsForm-floors q h =
    let held = every_held-Quasi (λ f. IsQuotient f.times f.by) (λ layer. IsSmall (roll-Quasi layer)) q h.layers in
    subst (λ z. All IsFloor z.floors) held.1 (each held.0.floors)

pub IsFloor-inner : (f : Floor) → IsFloor f → IsForm (out-Floor f).inner
IsFloor-inner f h =
    let held = every_held-Floor (λ f. IsQuotient f.times f.by) (λ layer. IsSmall (roll-Quasi layer)) f h.layers in
    subst (λ z. IsForm z.inner) held.1 (record { layers = held.0.inner.1 })

pub IsFloor-quotient : (f : Floor) → IsFloor f → IsQuotient (out-Floor f).times (out-Floor f).by
IsFloor-quotient f h = every_here-Floor (λ f. IsQuotient f.times f.by) (λ layer. IsSmall (roll-Quasi layer)) f h.layers

pub IsFloor-by : (f : Floor) → IsFloor f → pos 1 ≤ℤ (out-Floor f).by
IsFloor-by f h = (IsFloor-quotient f h).positive

pub form_terms : (q : Quasi) → IsForm q → sum_by (λ t. unsigned_abs t.1) (out-Quasi q).terms ≤ 2 ^ 62
form_terms q h = omega (arith, (IsForm-small q h).sum, sum_count-out q)

pub form_floors : (q : Quasi) → IsForm q → sum (map reach_of_floor (out-Quasi q).floors) ≤ 2 ^ 126
form_floors q h = omega (arith, IsForm-reach q h, form_reach_is q)

pub form_total : (env : Env) (q : Quasi) (plain terms floors value : ℤ) → plain ≡ (out-Quasi q).constant +ℤ terms → terms ≡ terms_at env (out-Quasi q).terms → floors ≡ total (map (floor_at env) (out-Quasi q).floors) → value ≡ plain +ℤ floors → value ≡ form_at env q
form_total env q plain terms floors value p t f v = omega (arith, ints, form_at-out env q)

-- no floor reaches further than all together
pub reach_in : (fs : List Floor) (i : ℕ) (d : Floor) → i < length fs → reach_of_floor (get_or fs i d) ≤ sum (map reach_of_floor fs)
reach_in fs i d h = rw (sum-map reach_of_floor fs) (get_or-le-sum_by reach_of_floor fs i d h)

pub times_small : (f : Floor) (inner quotient : ℤ) → pos 1 ≤ℤ (out-Floor f).by → unsigned_abs inner ≤ reach (out-Floor f).inner → unsigned_abs quotient ≤ ceil_div (unsigned_abs inner) (unsigned_abs (out-Floor f).by) → unsigned_abs (out-Floor f).times * unsigned_abs quotient ≤ reach_of_floor f
times_small f inner quotient p h q =
    let above : 0 < unsigned_abs (out-Floor f).by = omega (arith, ints) in
    floor_reach_is f (unsigned_abs quotient) (omega (arith, q, ceil_div-reach (unsigned_abs inner) (constant_count (out-Floor f).inner) (sum_count (out-Floor f).inner) (unsigned_abs (out-Floor f).by) above h))
