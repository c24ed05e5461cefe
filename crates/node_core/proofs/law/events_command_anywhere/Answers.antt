use Rattle.node_core.proofs.Anywhere.{commanded_anywhere}
use Rattle.node_core.proofs.law.events_command_anywhere.Goals as goal

pub returns : goal.returns
returns c = commanded_anywhere
