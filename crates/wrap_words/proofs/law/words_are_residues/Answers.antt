use Rattle.wrap_words.proofs.Fitting.{words_are_residues}
use Rattle.wrap_words.proofs.law.words_are_residues.Goals as goal

pub returns : goal.returns
returns c = words_are_residues
