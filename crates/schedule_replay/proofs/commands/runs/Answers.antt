use Rattle.std.proofs.Common.{◌∙◌}
use Rattle.schedule_replay.proofs.MasterCommandsLemmas.{runs_as}
use Rattle.schedule_replay.proofs.commands.runs.Goals as goal

pub returns : goal.returns
returns c w s = c.is_some.ensures ∙ runs_as c.parties_run.ensures.masters w c.args.masters.now c.args.epoch c.get.result c.get.ensures s
