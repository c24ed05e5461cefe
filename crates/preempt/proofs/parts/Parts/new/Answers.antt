use Rattle.preempt.proofs.CountedAsWritten.{parts_start, places_start}
use Rattle.preempt.proofs.parts.Parts.new.Goals as goal

pub invariant_of-result : goal.invariant_of-result
invariant_of-result c = places_start _ _

pub returns : goal.returns
returns c = parts_start _ _
