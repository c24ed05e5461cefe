use Rattle.preempt.proofs.CountedAsWritten.{parts_start, places_start}
use Rattle.preempt.proofs.parts.Parts.restart.Goals as goal

pub invariant_of-self : goal.invariant_of-self
invariant_of-self c = places_start _ _

pub returns : goal.returns
returns c = parts_start _ _
