use Rattle.std.proofs.Common.{◌≡◌, ◌∙◌, sym, ap, subst, List, Option, Ok}
use Rattle.std.specs.List.{All}
use Rattle.text_reader.specs.declared.place.Place.{Place}
use Rattle.text_reader.specs.declared.token.Token.{Token}
use Rattle.text_reader.specs.Tokens.{IsWithin}
use Rattle.text_reader.specs.Spelling.{IsSpelledIn}
use Rattle.text_reader.proofs.Within.{read_within}
use Rattle.text_reader.proofs.SpelledTokens.{front_spelled}
use Rattle.text_reader.proofs.front.read_front.Goals as goal

pub returns-in_default-clause-within : goal.returns-in_default-clause-within
returns-in_default-clause-within c =
    let same : c.read_lexeme.new.tokens.items ≡ c.text.tokens.items = c.read_lexeme.ensures.same (c.in_ok-next.was ∙ ap (λ (o : Option Place). Ok o) c.in_default.is) in
    subst (λ (tokens : List Token). All (IsWithin c.args.bytes.now) tokens) (sym same) (read_within _ _ _ _ _ c.text.invariant.read)

pub returns-clause-within : goal.returns-clause-within
returns-clause-within c = read_within _ _ _ _ _ c.text.invariant.read

pub returns-in_default-clause-spelled : goal.returns-in_default-clause-spelled
returns-in_default-clause-spelled c =
    let same : c.read_lexeme.new.tokens.items ≡ c.text.tokens.items = c.read_lexeme.ensures.same (c.in_ok-next.was ∙ ap (λ (o : Option Place). Ok o) c.in_default.is) in
    subst (λ (tokens : List Token). All (IsSpelledIn c.args.form c.args.bytes.now) tokens) (sym same) (front_spelled _ _ _ _ _ c.text.invariant.read)

pub returns-clause-spelled : goal.returns-clause-spelled
returns-clause-spelled c = front_spelled _ _ _ _ _ c.text.invariant.read
