-- A unit as it is asked for.
use Rattle.fuxi_terms.specs.Cluster.{UnitRecord}
use Rattle.schedule_unit.specs.declared.asks.Ask.{Ask}

abbrev pub unit_of : Ask → UnitRecord
unit_of ask = record { priority = ask.priority; size = ask.quantities; most = ask.most }
