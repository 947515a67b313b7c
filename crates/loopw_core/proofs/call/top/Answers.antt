use Rattle.std.proofs.Common.{◌≡◌, ◌∙◌, Some, sym}
use Rattle.loopw_core.specs.Words.{bytes_of_words, form_of, sources_of}
use Rattle.loopw_core.proofs.Counts.{completes_words, keeps_reads, keeps_writes}
use Rattle.loopw_core.proofs.call.top.Goals as goal

pub returns-in-Some-clause-read_count : goal.returns-in-Some-clause-read_count
returns-in-Some-clause-read_count g c = keeps_reads c.perform.result _ _ c.in-Some.form (sources_of c.in-Some.form (bytes_of_words c.args.words.now)) c.perform.ensures

pub returns-in-Some-clause-out_count : goal.returns-in-Some-clause-out_count
returns-in-Some-clause-out_count g c = keeps_writes c.perform.result _ _ c.in-Some.form (sources_of c.in-Some.form (bytes_of_words c.args.words.now)) c.perform.ensures

pub returns-in-Some-clause-complete : goal.returns-in-Some-clause-complete
returns-in-Some-clause-complete g c =
    let form : form_of (bytes_of_words c.args.words.now) ≡ Some c.in-Some.form = sym c.form_of.ensures ∙ c.in-Some.is in
    completes_words c.perform.result _ _ (bytes_of_words c.args.words.now) c.in-Some.form form c.perform.ensures
