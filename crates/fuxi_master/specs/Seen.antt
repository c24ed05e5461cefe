-- What is seen of the values that a step works on.
use Rattle.fuxi_master.specs.declared.state.Core.{Core}
use Rattle.fuxi_master.specs.Cores.{CoreRecord}

abbrev pub core_of : Core → CoreRecord
core_of c = record { epoch = c.epoch; known = c.known; serving = c.serving; reported = c.reported; allotment = c.allotment; agents = c.agents.items; apps = c.apps.items }
