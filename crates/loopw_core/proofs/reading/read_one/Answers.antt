use Rattle.std.proofs.Common.{Err, ap}
use Rattle.loopw_core.proofs.Stopped.{failed_read, long_read, long_stops, no_failure, too_long_is_no_failure, unread_stops, whole_read}
use Rattle.loopw_core.proofs.reading.read_one.Goals as goal

pub returns-in-Ok-clause-whole : goal.returns-in-Ok-clause-whole
returns-in-Ok-clause-whole g c =
    whole_read _ _ c.as_str.result.now c.args.source.now.path c.in-Ok.bytes.items c.from_vec.result c.as_str.ensures c.from_vec.ensures c.in-Ok.ensures.reads (c.in-Ok.ensures.no_fault (no_failure c.in-Ok.bytes)) c.in-Ok.ensures.content c.in-Ok.ensures.short

pub returns-in-Err-TooLong-clause-stops : goal.returns-in-Err-TooLong-clause-stops
returns-in-Err-TooLong-clause-stops g c =
    long_stops _ _ c.args.source.now c.long_stop.result c.long_stop.ensures
    (long_read _ _ c.as_str.result.now c.args.source.now.path c.as_str.ensures c.in-Err-TooLong.ensures.reads (c.in-Err-TooLong.ensures.no_fault (λ e. too_long_is_no_failure _ (ap Err c.in-Err-TooLong.field-0-is) e)) (c.in-Err-TooLong.ensures.too_long (ap Err c.in-Err-TooLong.field-0-is)))

pub returns-in-Err-Failed-clause-stops : goal.returns-in-Err-Failed-clause-stops
returns-in-Err-Failed-clause-stops g c =
    unread_stops _ _ c.args.source.now c.unread_stop.result c.unread_stop.ensures
    (failed_read _ _ c.as_str.result.now c.args.source.now.path c.as_str.ensures c.in-Err-Failed.ensures.reads (c.in-Err-Failed.ensures.failed (ap Err c.in-Err-Failed.field-0-is)) c.in-Err-Failed.ensures.later (c.in-Err-Failed.ensures.cause (ap Err c.in-Err-Failed.field-0-is)))
