use Rattle.std.proofs.Common.{◌≤◌, ◌++◌, take, map, length}
use Rattle.kernel_grammar.specs.Words.{keywords}
use Rattle.kernel_grammar.specs.Lexicals.{word}
use Rattle.kernel_expressions.specs.Texts.{text_of, texts}
use Rattle.kernel_syntax.specs.Candidates.{signs_known, kinds_known, IsLonger}
use Rattle.kernel_syntax.proofs.Candidates.{sign_token, key_token, kind_token}
use Rattle.kernel_syntax.proofs.place.longest.Given as goal

abbrev pub invariant-loop-sign : goal.invariant-loop-sign
invariant-loop-sign l = l.at ≤ length (texts l.all) → IsLonger (take l.at (texts l.all)) l.text (map sign_token (take l.sign-index l.sign-items)) 0 l.most

abbrev pub invariant-loop-key : goal.invariant-loop-key
invariant-loop-key l = l.at ≤ length (texts l.all) → IsLonger (take l.at (texts l.all)) l.text (signs_known ++ map key_token (take l.key-index l.key-items)) 0 l.most

abbrev pub invariant-loop-kind : goal.invariant-loop-kind
invariant-loop-kind l = l.at ≤ length (texts l.all) → IsLonger (take l.at (texts l.all)) l.text ((signs_known ++ map word keywords) ++ map kind_token (take l.kind-index l.kind-items)) 0 l.most

abbrev pub invariant-loop-other : goal.invariant-loop-other
invariant-loop-other l = l.at ≤ length (texts l.all) → IsLonger (take l.at (texts l.all)) l.text (((signs_known ++ map word keywords) ++ kinds_known) ++ map text_of (take l.other-index l.other-items)) 0 l.most
