-- The uses of rules in the bodies of a kernel.
use Rattle.std.specs.Prelude.{◌≡◌, ℕ, Bool, true, ◌&&◌, List, [], ◌∷◌, flat_map, slice_get, Some, None, All}
use Rattle.std.specs.List.{list_all}
use Rattle.std.proofs.Common.{sym, ◌∙◌, subst, inl, inr}
use Rattle.std.proofs.lemmas.Option.{slice_get_cases}
use Rattle.std.proofs.lemmas.List.Folds.{list_all-append}
use Rattle.std.proofs.lemmas.List.Elements.{All-nil, All-cons}
use Rattle.kernel_ir.specs.declared.kernel.Kernel.{Kernel}
use Rattle.kernel_ir.specs.declared.kernel.SubstRule.{SubstRule}
use Rattle.kernel_ir.specs.Mentions.{listed, calls}
use Rattle.kernel_ir.specs.Valid.{HasArities, insn_calls}
use Rattle.subst_rules.proofs.Bools.{first_of_both, second_of_both}
use Rattle.expanded_values.proofs.Standing.{is_right}

-- what holds of all holds of the one at a place
pub at_place : {X : Type 0} (P : X → Type 0) (xs : List X) (i : ℕ) (x : X) → All P xs → slice_get xs i ≡ Some x → P x
at_place {X} P xs i x all is = elim (slice_get_cases xs i).1 [
  | inl found ↦ (let same : x ≡ found.0 = (let e : Some x ≡ Some found.0 = sym is ∙ found.2 in cc) in subst P (found.3 ∙ sym same) (all i found.0 found.1))
  | inr past ↦ absurd (let e : Some x ≡ None = sym is ∙ past.1 in cc)
]

pub each_body : (q : ℕ × ℕ → Bool) (rs : List SubstRule) → list_all q (flat_map (λ r. listed calls r.body) rs) ≡ true → All (λ r. list_all q (listed calls r.body) ≡ true) rs
each_body q [] h = All-nil (λ r. list_all q (listed calls r.body) ≡ true)
each_body q (r ∷ rs) h =
    let k : (list_all q (listed calls r.body) && list_all q (flat_map (λ r. listed calls r.body) rs)) ≡ true = sym (list_all-append q (listed calls r.body) (flat_map (λ r. listed calls r.body) rs)) ∙ h in
    All-cons (λ r. list_all q (listed calls r.body) ≡ true) r rs (first_of_both (list_all q (listed calls r.body)) (list_all q (flat_map (λ r. listed calls r.body) rs)) k)
    (each_body q rs (second_of_both (list_all q (listed calls r.body)) (list_all q (flat_map (λ r. listed calls r.body) rs)) k))

-- the uses in bodies and those in instructions
pub all_uses : (K : Kernel) → HasArities K → (list_all (is_right K) (flat_map (λ r. listed calls r.body) K.rules) && list_all (is_right K) (insn_calls K)) ≡ true
all_uses K arities = sym (list_all-append (is_right K) (flat_map (λ r. listed calls r.body) K.rules) (insn_calls K)) ∙ arities
