use Rattle.std.proofs.Common.{ap}
use Rattle.schedule_replay.specs.GrowingDisks.{Grown}
use Rattle.schedule_replay.proofs.EmptyFile.{opened_where}
use Rattle.schedule_replay.proofs.checkpoint.Checkpoint.open.Goals as goal

pub returns-clause-value : goal.returns-clause-value
returns-clause-value c = opened_where _ _ c.opened.result (ap (λ (d : Grown). d.told.now.bytes) c.empty.ensures) c.opened.ensures.value
