-- The first case that has a point.
use Rattle.std.specs.Prelude.{◌≡◌, ℕ, ◌+◌, ◌<◌, ◌≤◌, List, [], ◌∷◌, ◌++◌, map, length, take, slice_get, Some}
use Rattle.std.proofs.Common.{inr, sym, ap, ◌∙◌, subst, arith, get_or}
use Rattle.std.proofs.lemmas.Grind.{common_steps}
use Rattle.std.proofs.lemmas.Option.{slice_get-get_or}
use Rattle.std.proofs.lemmas.List.{take_all}
use Rattle.affine_rows.specs.declared.point.Point.{Point}
use Rattle.affine_rows.specs.declared.row.System.{System}
use Rattle.affine_rows.specs.Reduced.{reduced_row}
use Rattle.elimination.specs.declared.fault.SetFault.{SetFault}
use Rattle.elimination.specs.declared.finding.Found.{Found}
use Rattle.elimination.specs.declared.finding.Found.TheVariants as found
use Rattle.elimination.specs.Finding.{IsFound, IsTheChosen, IsWithinLimits}
use Rattle.elimination.specs.Points.{HasNone}
use Rattle.elimination.specs.Shadows.{Each}
use Rattle.set_query.specs.declared.pair.Differ.{Differ}
use Rattle.set_query.specs.declared.pair.Pair.{Pair}
use Rattle.set_query.specs.declared.verdict.Verdict.{Verdict}
use Rattle.set_query.specs.Cases.{cases_of}
use Rattle.set_query.specs.Verdicts.{Finds, IsOpenFault, IsVerdict, NeverMeet, Refuses, opened}
use Rattle.set_query.proofs.Covering.{are_covered}
use Rattle.set_query.proofs.Integers.{none_of}

pub at_place : (systems : List System) (at : ℕ) (s : System) → at < length systems → s ≡ get_or systems at s → slice_get systems at ≡ Some s
at_place systems at s inside is = slice_get-get_or systems at s inside ∙ ap Some (sym is)

pub Each-put : (P : System → Type 0) (xs : List System) (s : System) → Each P xs → P s → Each P (xs ++ s ∷ [])
Each-put P [] s h k = (k, tt)
Each-put P (x ∷ xs) s h k = (h.0, Each-put P xs s h.1 k)

pub take_place : (systems : List System) (at : ℕ) (s : System) → at < length systems → s ≡ get_or systems at s → take (at + 1) systems ≡ take at systems ++ s ∷ []
take_place systems at s inside is = grind (arith, common_steps, is)

-- what a search answered of a system
pub finds : (s : System) (f g : Found) → f ≡ g → IsFound s.width s.rows f → IsTheChosen s.width (map reduced_row s.rows) f → IsWithinLimits s.width (map reduced_row s.rows) → Finds g s
finds s f g is found chosen within = subst (λ (h : Found). Finds h s) is (record { found = found; chosen = chosen; within = within })

pub open_verdict : (differ : Differ) (systems cases : List System) (at : ℕ) (s : System) (p : Point) (v : Verdict) → systems ≡ cases → at < length systems → s ≡ get_or systems at s → Each (Finds found.Empty) (take at systems) → Finds (found.Point p) s → v ≡ opened differ at p → IsVerdict differ cases v
open_verdict differ systems cases at s p v same inside is before here names =
    subst (λ (list : List System). IsVerdict differ list v) same (inr (at, p, names, record { before = before; system = s; is = at_place systems at s inside is; holds = here }))

pub closed_more : (systems : List System) (at : ℕ) (s : System) → at < length systems → s ≡ get_or systems at s → Each (Finds found.Empty) (take at systems) → Finds found.Empty s → Each (Finds found.Empty) (take (at + 1) systems)
closed_more systems at s inside is before here =
    subst (λ (list : List System). Each (Finds found.Empty) list) (sym (take_place systems at s inside is)) (Each-put (Finds found.Empty) (take at systems) s before here)

pub refused : (systems cases : List System) (at : ℕ) (s : System) (fault : SetFault) → systems ≡ cases → at < length systems → s ≡ get_or systems at s → Each (Finds found.Empty) (take at systems) → Refuses fault s → IsOpenFault cases fault
refused systems cases at s fault same inside is before here =
    subst (λ (list : List System). IsOpenFault list fault) same (inr (at, record { before = before; system = s; is = at_place systems at s inside is; holds = here }))

pub all_closed : (systems cases : List System) (at : ℕ) → systems ≡ cases → length systems ≤ at → Each (Finds found.Empty) (take at systems) → Each (Finds found.Empty) cases
all_closed systems cases at same past h = subst (λ (list : List System). Each (Finds found.Empty) list) (take_all at systems past ∙ same) h

have_none : (systems : List System) → Each (Finds found.Empty) systems → Each (λ s. HasNone s.rows) systems
have_none [] h = tt
have_none (s ∷ systems) h = (h.0.found, have_none systems h.1)

pub never_meet : (pair : Pair) (v : Verdict) → Each (Finds found.Empty) (cases_of pair.system pair.differ) → NeverMeet pair v
never_meet pair v closed is at h differ =
    none_of at (cases_of pair.system pair.differ) (have_none (cases_of pair.system pair.differ) closed) ((are_covered pair.system pair.differ at).1 (h, differ))
