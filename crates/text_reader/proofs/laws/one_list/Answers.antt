use Rattle.text_reader.proofs.ReadOn as lists
use Rattle.text_reader.proofs.laws.one_list.Goals as goal

pub returns : goal.returns
returns c = lists.one_list
