use Rattle.text_reader.proofs.Within as laws
use Rattle.text_reader.proofs.laws.few_tokens.Goals as goal

pub returns : goal.returns
returns c = laws.few_tokens
