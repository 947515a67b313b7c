-- The kernel's side and the code's side together.
use Rattle.std.specs.Prelude.{◌≡◌, pos, List, [], ◌∷◌, map}
use Rattle.std.proofs.Common.{sym, subst}
use Rattle.inst_model.specs.Arguments.{Arguments, Meets}
use Rattle.code_meaning.specs.RightFor.{IsRightFor}
use Rattle.first_form.specs.declared.form.FirstForm.{FirstForm}
use Rattle.first_form.specs.Kernels.{kernel_of}
use Rattle.first_form.specs.Codes.{code_of}
use Rattle.first_right.specs.Product.{multiplied}
use Rattle.first_right.specs.Laws.{CodeIsRight}
use Rattle.first_right.proofs.CodeSide.{code_side}
use Rattle.first_right.proofs.Given.{Given, given_of, arguments_of}
use Rattle.first_right.proofs.Stored.{stores_products}
use Rattle.first_right.proofs.Order.{rising, rising_respects}

right_at : (f : FirstForm) (a : Arguments) → Given a → IsRightFor (code_of f) (kernel_of f) a
right_at f a g = subst (λ (b : Arguments). IsRightFor (code_of f) (kernel_of f) b) (sym g.are) (record {
  wanted = map (multiplied f.factor) g.words ∷ [];
  right = code_side f g.count g.words g.outs g.small g.input g.output;
  stores = λ order respects. stores_products f g.count g.words g.outs g.input order respects;
  order = rising f.factor 0 g.count;
  respects = rising_respects f g.count g.words g.outs;
})

pub code_is_right : CodeIsRight
code_is_right f a meets = right_at f a (given_of f a meets)
