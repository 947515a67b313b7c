use Rattle.std.proofs.Common.{arith}
use Rattle.text_reader.proofs.ReadSteps.{few_lines}
use Rattle.text_reader.proofs.Within.{whole_within}
use Rattle.text_reader.proofs.scanner.scan.Goals as goal

pub end_line-requires-clause-line : goal.end_line-requires-clause-line
end_line-requires-clause-line c = omega (arith, few_lines _ _ _ _ _ c.in_ok-tokens.ensures.read, c.in_ok-tokens.ensures.inside)

pub returns-clause-within : goal.returns-clause-within
returns-clause-within c = whole_within c.args.form c.args.bytes.now c.in_ok-tokens.field-0.place c.in_ok-tokens.field-0.tokens.items c.end_line.new.tokens.items c.in_ok-tokens.ensures.read c.if-place-bytes.false c.in_ok-end_line.ensures
