-- Stops that a job gives.
use Rattle.std.specs.Prelude.{◌≡◌, ℕ, List}
use Rattle.kernel_ir.specs.declared.fault.Refusal.{Refusal}
use Rattle.loopw_core.specs.declared.fault.JobFault.{JobFault}
use Rattle.loopw_core.specs.declared.fault.JobFault.TheVariants as job
use Rattle.loopw_core.specs.declared.stop.Stop.{Stop}
use Rattle.loopw_core.specs.declared.stop.Stop.TheVariants.{OutOfMemory, Unread, Refused}

-- the stop by a job's fault
abbrev pub stop_of : JobFault → Stop
stop_of job.OutOfMemory = OutOfMemory
stop_of (job.Refused refusal word) = Refused refusal word
