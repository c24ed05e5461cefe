-- What is seen of the values that a step works on.
use Rattle.app_master.specs.declared.app.Core.{Core}
use Rattle.app_master.specs.AppCores.{AppCore}

abbrev pub core_of : Core → AppCore
core_of c = record { job = c.app.0; units = c.units; machines = c.machines; racks = c.racks; carried = c.carried; up = c.up; steps = c.steps }
