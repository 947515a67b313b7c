use Rattle.std.proofs.Common.{◌≡◌, ◌∙◌, ℕ, ℤ, not, List, ap}
use Rattle.std.specs.Prelude.{filter}
use Rattle.affine_rows.specs.declared.quasi.Quasi.{out-Quasi}
use Rattle.affine_rows.specs.declared.quasi.Floor.{Floor, out-Floor}
use Rattle.expr_tree.specs.Scenes.{is_among, mentions_one}
use Rattle.precompute.proofs.KeptParts.{kept_parts}
use Rattle.precompute.proofs.parts.base_of.Goals as goal

pub new-requires : goal.new-requires
new-requires c = kept_parts (λ t. not (is_among c.args.swept.now t.0)) (λ f. not (mentions_one c.args.swept.now (out-Floor f).inner))
    c.args.place.now c.in_ok-copied.copied _ _ c.quasi.ensures.form (c.in_ok-copied.ensures ∙ c.quasi.ensures.same)
    (c.from_vec.ensures ∙ c.keep_terms.ensures ∙ ap (λ (ts : List (ℕ × ℤ)). filter (λ t. not (is_among c.args.swept.now t.0)) ts) c.into_vec-terms.ensures)
    (c.from_vec-2.ensures ∙ c.keep_floors.ensures ∙ ap (λ (fs : List Floor). filter (λ f. not (mentions_one c.args.swept.now (out-Floor f).inner)) fs) c.into_vec-floors.ensures)
