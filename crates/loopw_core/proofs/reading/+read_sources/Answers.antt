use Rattle.std.proofs.Common.{◌≡◌, ◌∷◌, List, drop, rules}
use Rattle.loopw_core.specs.declared.words.Source.{Source}
use Rattle.loopw_core.proofs.Stopped.{wants_first}
use Rattle.loopw_core.proofs.reading.+read_sources.Goals as goal

pub returns-in-Err-clause-stops : goal.returns-in-Err-clause-stops
returns-in-Err-clause-stops g t c =
    let cons : c.args.sources.now ≡ c.source-item.result ∷ drop 1 c.args.sources.now = search rules in
    wants_first _ _ c.args.sources.now _ c.source-item.result c.in_ok-bytes-in-len1-up.bytes cons c.in_ok-bytes-in-len1-up.ensures.whole
