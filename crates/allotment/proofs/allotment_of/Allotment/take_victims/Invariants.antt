use Rattle.std.proofs.Common.{take}
use Rattle.allotment.specs.Allotted.{TakesVictims}
use Rattle.allotment.proofs.allotment_of.Allotment.take_victims.Given as goal

abbrev pub invariant-loop-index : goal.invariant-loop-index
invariant-loop-index l = TakesVictims l.machine.0 (take l.index l.victims) l.fn.self l.self
