use Rattle.fuxi_master.proofs.StartedSides.{AreDownsStarted}
use Rattle.fuxi_master.proofs.starting.agents_started.Given as goal

abbrev pub invariant-loop : goal.invariant-loop
invariant-loop l = AreDownsStarted l.epoch l.counter l.sides.items
