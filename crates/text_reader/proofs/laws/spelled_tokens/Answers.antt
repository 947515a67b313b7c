use Rattle.text_reader.proofs.SpelledTokens as laws
use Rattle.text_reader.proofs.laws.spelled_tokens.Goals as goal

pub returns : goal.returns
returns c = laws.spelled_tokens
