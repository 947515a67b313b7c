-- The rows of a stage are a shadow.
use Rattle.std.specs.Prelude.{◌≡◌, ◌≢◌, ℕ, ◌<◌, ◌≤◌, ℤ, pos, List, [], ◌∷◌, ◌++◌, Bool, true, false, cond, nat_lt, ◌&&◌, not, Option, Some, None, map}
use Rattle.std.specs.Ordering.{int_eq}
use Rattle.std.specs.List.{find, before_first, after_first, position_or_len}
use Rattle.std.proofs.Common.{refl, sym, ap, ◌∙◌, subst, arith, length, get_or}
use Rattle.std.proofs.lemmas.Bool.Decides.{Decides-int_eq, nat_tests}
use Rattle.std.proofs.lemmas.Option.{slice_get-get_or, slice_get_past}
use Rattle.std.proofs.lemmas.List.Sums.{split_at_first, passes_at_first}
use Rattle.std.proofs.lemmas.List.Folds.{find_at}
use Rattle.affine_rows.specs.declared.row.Row.{Row}
use Rattle.affine_rows.specs.Reduced.{factor_of, reduced_row}
use Rattle.elimination.specs.Stages.{determines, is_without, substituted, cancelled_by, cancelled_rows, stage_rows}
use Rattle.elimination.specs.Shadows.{Each, IsShadow}
use Rattle.elimination.proofs.Points.{Single}
use Rattle.elimination.proofs.Pairing.{paired_IsShadow}
use Rattle.elimination.proofs.Substituting.{substituted_IsShadow}
use Rattle.elimination.proofs.Covering.{tightest-holds}

-- ---- an equality that has the variable, or none

single_test : (test : Bool) (f : ℤ) → int_eq f (pos 0) ≡ test → (true && not test) ≡ false → f ≢ pos 0 → true ≡ false
single_test true f e h apart = absurd (apart ((Decides-int_eq f (pos 0)).0 e))
single_test false f e h apart = h

single_from : (var : ℕ) (equal : Bool) (f : ℤ) → (equal && not (int_eq f (pos 0))) ≡ false → f ≢ pos 0 → equal ≡ false
single_from var false f h apart = refl
single_from var true f h apart = single_test (int_eq f (pos 0)) f refl h apart

single_step : (var : ℕ) (row : Row) (rest : Option Row) (test : Bool) → determines var row ≡ test → cond test (Some row) rest ≡ None → Single var row × (rest ≡ None)
single_step var row rest true e h = absurd (let no : Some row ≡ None = h in cc)
single_step var row rest false e h = (single_from var row.equal (factor_of var row.terms) e, h)

none_single : (var : ℕ) (rows : List Row) → find (determines var) rows ≡ None → Each (Single var) rows
none_single var [] h = tt
none_single var (row ∷ rows) h = let parts = single_step var row (find (determines var) rows) (determines var row) refl h in (parts.0, none_single var rows parts.1)

pub record Found (p : Row → Bool) (rows : List Row) (e : Row) : Type 0 where
  pub passes : p e ≡ true
  pub split : rows ≡ before_first p rows ++ e ∷ after_first p rows

pub found : (p : Row → Bool) (rows : List Row) (e : Row) → find p rows ≡ Some e → Found p rows e
found p rows e h =
    elim (nat_lt (position_or_len p rows) (length rows)) as (λ b. nat_lt (position_or_len p rows) (length rows) ≡ b → Found p rows e) [
      | true ↦ (λ t.
          let within : position_or_len p rows < length rows = grind (arith, nat_tests, t) in
          let same : Some (get_or rows (position_or_len p rows) e) ≡ Some e = sym (slice_get-get_or rows (position_or_len p rows) e within) ∙ (sym (find_at p rows) ∙ h) in
          let is : get_or rows (position_or_len p rows) e ≡ e = cc in
          record {
            passes = ap p (sym is) ∙ passes_at_first p rows e within;
            split = split_at_first p rows e within ∙ ap (λ (r : Row). before_first p rows ++ r ∷ after_first p rows) is;
          })
      | false ↦ (λ t.
          let past : length rows ≤ position_or_len p rows = grind (arith, nat_tests, t) in
          absurd (let no : Some e ≡ None = sym h ∙ (find_at p rows ∙ slice_get_past rows (position_or_len p rows) past) in cc))
    ] refl

and_parts : (a b : Bool) → (a && b) ≡ true → (a ≡ true) × (b ≡ true)
and_parts true b h = (refl, h)
and_parts false b h = absurd (let no : false ≡ true = h in cc)

apart_from : (f : ℤ) → not (int_eq f (pos 0)) ≡ true → f ≢ pos 0
apart_from f h e = let yes = (Decides-int_eq f (pos 0)).1 e in (let no : not true ≡ true = sym (ap not yes) ∙ h in let bad : false ≡ true = no in cc)

cancelled_step : (var : ℕ) (rows : List Row) (first : Option Row) → find (determines var) rows ≡ first → IsShadow var rows (cancelled_by var rows first)
unfolding cancelled_by
cancelled_step var rows None h = paired_IsShadow var rows (none_single var rows h)
cancelled_step var rows (Some e) h =
    let at = found (determines var) rows e h in
    let tests = and_parts e.equal (not (is_without var e)) at.passes in
    let is = substituted_IsShadow var (before_first (determines var) rows) (after_first (determines var) rows) e (apart_from (factor_of var e.terms) tests.1) tests.0 in
    subst (λ (rs : List Row). IsShadow var rs (map (λ r. reduced_row (substituted var e r)) (before_first (determines var) rows ++ after_first (determines var) rows))) (sym at.split) is

pub cancelled_IsShadow : (var : ℕ) (rows : List Row) → IsShadow var rows (cancelled_rows var rows)
unfolding cancelled_rows
cancelled_IsShadow var rows = cancelled_step var rows (find (determines var) rows) refl

pub stage_IsShadow : (var : ℕ) (rows : List Row) → IsShadow var rows (stage_rows var rows)
unfolding stage_rows
stage_IsShadow var rows over at positive =
    let shadow = cancelled_IsShadow var rows over at positive in
    let tight = tightest-holds over at (cancelled_rows var rows) in
    ((λ has. tight.1 (shadow.0 has)), (λ holds. shadow.1 (tight.0 holds)))
