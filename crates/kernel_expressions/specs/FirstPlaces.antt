-- What stands in the first place of `min` and `max`.
use Rattle.std.specs.Prelude.{◌≡◌, ℕ, List, [], ◌∷◌}
use Rattle.kernel_grammar.specs.declared.step.Extreme.{Extreme}
use Rattle.kernel_grammar.specs.declared.step.Infix.TheVariants as infixed
use Rattle.kernel_grammar.specs.declared.step.Step.{Step}
use Rattle.kernel_grammar.specs.Lexicals.{Lexical, word, sign}
use Rattle.kernel_grammar.specs.Steps.{extreme_steps, postfix}
use Rattle.kernel_expressions.specs.declared.first_place.FirstPlace.{FirstPlace}
use Rattle.kernel_expressions.specs.declared.first_place.FirstPlace.TheVariants.{Lone, Grouped, Other}

-- The text is one word between two signs.
pub record IsGrouped (w : List ℕ) (text : List Lexical) : Type 0 where
  pub before : List ℕ
  pub behind : List ℕ
  pub is : text ≡ sign before ∷ word w ∷ sign behind ∷ []

-- The text is no word, bare or between two signs.
pub record IsValue (text : List Lexical) : Type 0 where
  pub steps : (which : Extreme) (a b : List Step) → extreme_steps which text a b ≡ postfix a b (infixed.Extreme which)

-- The text is what stands in the first place.
abbrev pub HasPlace : FirstPlace → List Lexical → Type 0
HasPlace (Lone w) text = text ≡ word w.now ∷ []
HasPlace (Grouped w) text = IsGrouped w.now text
HasPlace Other text = IsValue text
