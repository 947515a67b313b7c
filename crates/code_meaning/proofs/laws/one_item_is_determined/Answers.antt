use Rattle.code_meaning.proofs.OneRun.{one_item}
use Rattle.code_meaning.proofs.laws.one_item_is_determined.Goals as goal

pub returns : goal.returns
returns c = one_item
