use Rattle.node_core.proofs.HeardOfBytes.{heard_once}
use Rattle.node_core.proofs.law.one_hearing.Goals as goal

pub returns : goal.returns
returns c = heard_once c.one_frame.ensures c.one_reading.ensures.one
