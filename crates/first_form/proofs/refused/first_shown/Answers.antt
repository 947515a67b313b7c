use Rattle.std.proofs.Common.{not, rules, tests, ℕ, List}
use Rattle.std.proofs.lemmas.Iterator.Search.{find_from_yields_List}
use Rattle.std.proofs.lemmas.Iterator.Splits.{YieldsList-from_slice_split}
use Rattle.first_form.specs.Names.{is_word_byte}
use Rattle.first_form.specs.Refused.{is_shown, past_digits}
use Rattle.first_form.proofs.refused.first_shown.Goals as goal

pub returns : goal.returns
returns c =
    find_from_yields_List (λ (part : List ℕ). is_shown (past_digits part)) _ _ _ c.find.ensures.ran
    (YieldsList-from_slice_split _ (λ (b : ℕ). not (is_word_byte b)) c.args.line.now c.split.ensures.rest c.split.ensures.done c.split.ensures.closure (λ x b q k. search (rules, tests)))
    (λ x b q k. search (rules, tests))
