-- How tightly operators bind: 1 is loosest, 11 is the level of signs before operands and of what needs no operator.
use Rattle.std.specs.Prelude.{◌≡◌, ℕ, zero, suc, List}
use Rattle.kernel_grammar.specs.declared.item.Relation.{Relation}
use Rattle.kernel_grammar.specs.declared.step.Infix.{Infix}
use Rattle.kernel_grammar.specs.declared.step.Infix.TheVariants as infixed
use Rattle.kernel_grammar.specs.declared.step.Prefix.{Prefix}
use Rattle.kernel_grammar.specs.declared.step.Prefix.TheVariants as prefix
use Rattle.kernel_grammar.specs.declared.step.Step.{Step}
use Rattle.kernel_grammar.specs.Lexicals.{Lexical, key, mark}
use Rattle.kernel_grammar.specs.Trees.{Rel}
use Rattle.kernel_grammar.specs.Spelling.{rel_text, or_text, and_text, not_text, cmp_text, bor_text, bxor_text, band_text, shift_text, sum_text, prod_text, unary_text}
use Rattle.kernel_grammar.specs.Steps.{relation_of, or_steps, and_steps, not_steps, cmp_steps, bor_steps, bxor_steps, band_steps, shift_steps, sum_steps, prod_steps, unary_steps}
use Rattle.kernel_expressions.specs.Reads.{IsItem}

-- the level of an operator between operands
abbrev pub level : Infix → ℕ
level infixed.Or = 1
level infixed.And = 2
level (infixed.Compare relation) = 4
level infixed.NotEqual = 4
level infixed.BitOr = 5
level infixed.BitXor = 6
level infixed.BitAnd = 7
level infixed.Add = 9
level infixed.Subtract = 9
level infixed.Multiply = 10
level infixed.Divide = 10
level infixed.Remainder = 10
level (infixed.Extreme which) = 10

-- the level of its first operand
abbrev pub first_level : Infix → ℕ
first_level infixed.Or = 1
first_level infixed.And = 2
first_level (infixed.Compare relation) = 5
first_level infixed.NotEqual = 5
first_level infixed.BitOr = 5
first_level infixed.BitXor = 6
first_level infixed.BitAnd = 7
first_level infixed.Add = 9
first_level infixed.Subtract = 9
first_level infixed.Multiply = 10
first_level infixed.Divide = 10
first_level infixed.Remainder = 10
first_level (infixed.Extreme which) = 10

-- the level of an operator before its operand
abbrev pub prefix_level : Prefix → ℕ
prefix_level prefix.Not = 3
prefix_level prefix.Negate = 11
prefix_level prefix.Invert = 11

-- The token writes the comparison.
pub record IsRelation (relation : Relation) (x : Lexical) : Type 0 where
  pub rel : Rel
  pub spelled : rel_text rel ≡ x
  pub means : relation_of rel ≡ relation

-- The token writes the operator.
abbrev pub IsInfix : Infix → Lexical → Type 0
IsInfix infixed.Or x = key "or" ≡ x
IsInfix infixed.And x = key "and" ≡ x
IsInfix (infixed.Compare relation) x = IsRelation relation x
IsInfix infixed.NotEqual x = mark "!=" ≡ x
IsInfix infixed.BitOr x = mark "|" ≡ x
IsInfix infixed.BitXor x = mark "^" ≡ x
IsInfix infixed.BitAnd x = mark "&" ≡ x
IsInfix infixed.Add x = mark "+" ≡ x
IsInfix infixed.Subtract x = mark "-" ≡ x
IsInfix infixed.Multiply x = mark "*" ≡ x
IsInfix infixed.Divide x = mark "//" ≡ x
IsInfix infixed.Remainder x = mark "%" ≡ x
IsInfix (infixed.Extreme which) x = ⊥

-- The text is an expression of the level, and these are its steps.
abbrev pub Tree : Type 0 → ℕ → List Step → List Lexical → Type 0
Tree S zero = IsItem S or_text or_steps
Tree S (suc zero) = IsItem S or_text or_steps
Tree S (suc (suc zero)) = IsItem S and_text and_steps
Tree S (suc (suc (suc zero))) = IsItem S not_text not_steps
Tree S (suc (suc (suc (suc zero)))) = IsItem S cmp_text cmp_steps
Tree S (suc (suc (suc (suc (suc zero))))) = IsItem S bor_text bor_steps
Tree S (suc (suc (suc (suc (suc (suc zero)))))) = IsItem S bxor_text bxor_steps
Tree S (suc (suc (suc (suc (suc (suc (suc zero))))))) = IsItem S band_text band_steps
Tree S (suc (suc (suc (suc (suc (suc (suc (suc zero)))))))) = IsItem S shift_text shift_steps
Tree S (suc (suc (suc (suc (suc (suc (suc (suc (suc zero))))))))) = IsItem S sum_text sum_steps
Tree S (suc (suc (suc (suc (suc (suc (suc (suc (suc (suc zero)))))))))) = IsItem S prod_text prod_steps
Tree S (suc (suc (suc (suc (suc (suc (suc (suc (suc (suc (suc n))))))))))) = IsItem S unary_text unary_steps
