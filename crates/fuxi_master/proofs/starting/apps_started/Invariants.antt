use Rattle.fuxi_master.specs.MasterStarts.{AreAppsStarted}
use Rattle.fuxi_master.proofs.starting.apps_started.Given as goal

abbrev pub invariant-loop-number : goal.invariant-loop-number
invariant-loop-number l = AreAppsStarted l.epoch l.known.jobs l.number l.slots.items
