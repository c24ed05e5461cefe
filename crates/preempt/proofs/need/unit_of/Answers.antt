use Rattle.preempt.proofs.NeedsAsWritten.{unit_there}
use Rattle.preempt.proofs.need.unit_of.Goals as goal

pub entry_of-requires : goal.entry_of-requires
entry_of-requires c = unit_there c.args.table.now c.is_sound.ensures c.place_of.result c.job-job.result.now c.job-job.ensures c.args.app.0 c.args.unit.0 (c.place_of.ensures.found c.job-job.result.now c.job-job.ensures) c.requires
