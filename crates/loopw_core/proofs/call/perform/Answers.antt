use Rattle.std.proofs.Common.{ℕ, List, subst}
use Rattle.loopw_core.specs.Ends.{Gives}
use Rattle.loopw_core.specs.Words.{bytes_of_words, sources_of}
use Rattle.loopw_core.proofs.Endings.{ends_stop, ends_text}
use Rattle.loopw_core.proofs.call.perform.Goals as goal

pub returns-in-Err : goal.returns-in-Err
returns-in-Err g c = ends_stop c.tell.result _ _ _ c.args.form (sources_of c.args.form (bytes_of_words c.args.words.now)) c.in-Err.stop c.in-Err.ensures.stop c.tell.ensures

pub returns-in-Ok : goal.returns-in-Ok
returns-in-Ok g c =
    ends_text c.give.result _ (g.H.Host.told c.prepare.new.host) (g.H.Host.told c.give.new.host) c.args.form (sources_of c.args.form (bytes_of_words c.args.words.now)) c.in-Ok.text.items c.in-Ok.ensures.text
    (subst (λ (text : List ℕ). Gives text c.give.result (g.H.Host.told c.prepare.new.host) (g.H.Host.told c.give.new.host)) c.deref.ensures.value c.give.ensures)
