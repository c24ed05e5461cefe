use Rattle.std.proofs.Common.{◌∙◌, ap}
use Rattle.hard_state.specs.HardFiles.{Kept}
use Rattle.schedule_replay.proofs.MasterCommandsLemmas.{may_start}
use Rattle.schedule_replay.proofs.commands.start_tests.Goals as goal

pub returns-clause-world : goal.returns-clause-world
returns-clause-world c w s =
    may_start w c.args.epoch c.fence-fence.result c.len.result c.args.checkpoint.now c.args.masters.now s (c.fence-fence.ensures ∙ ap (λ (h : Kept). h.value.fence) c.hard.ensures) c.if-epoch-fence.false c.len.ensures.count (c.epochs_alike.ensures w c.args.masters.now s.order.masters c.len.ensures.rising s.stand) c.if-len-ge-MOST_MASTERS.false
