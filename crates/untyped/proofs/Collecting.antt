-- Forms that are collected, within the limits and past them.
use Rattle.std.proofs.Common.{◌≡◌, Bool, true, false, sym, ap, ◌∙◌}
use Rattle.std.specs.Prelude.{not, if◌then◌else◌}
use Rattle.affine_rows.specs.declared.quasi.Quasi.{Quasi}
use Rattle.quasi_forms.specs.Limits.{IsWithin}
use Rattle.untyped.specs.declared.index.Collected.{Collected}
use Rattle.untyped.specs.Indexes.{one, collected}
use Rattle.quasi_forms.proofs.WithinLaws.{passes, fails}

abbrev tested : Bool → Quasi → Bool → Collected
tested constant f fits = record { form = if fits then f else one; constant = constant; over = not fits }

pub kept : (constant : Bool) (f made : Quasi) → made ≡ f → IsWithin f → record { form = made; constant = constant; over = false } ≡ collected constant f
kept constant f made same fits =
    ap (λ (q : Quasi). tested constant q true) same ∙ ap (λ (b : Bool). tested constant f b) (sym (passes f fits))

pub refused : (constant : Bool) (f made : Quasi) → made ≡ one → (IsWithin f → ⊥) → record { form = made; constant = constant; over = true } ≡ collected constant f
refused constant f made same past =
    ap (λ (q : Quasi). let c : Collected = record { form = q; constant = constant; over = true } in c) same ∙ ap (λ (b : Bool). tested constant f b) (sym (fails f past))
