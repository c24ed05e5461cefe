use Rattle.std.proofs.Common.{◌∙◌}
use Rattle.preempt.proofs.NeedsAsWritten.{guaranteed_is}
use Rattle.preempt.proofs.need.is_guaranteed.Goals as goal

pub returns : goal.returns
returns c = λ narrow. c.guaranteed.ensures ∙ guaranteed_is c.args.table.now c.args.e.now c.requires.entry c.is_sound.ensures c.args.group.now c.requires.group narrow
