use Rattle.master_desk.proofs.CallBytesLemmas.{one_call}
use Rattle.master_desk.proofs.law.one_call.Goals as goal

pub returns : goal.returns
returns c = one_call c.one_reading.ensures.one
