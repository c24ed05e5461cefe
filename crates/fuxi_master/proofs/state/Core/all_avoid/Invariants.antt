use Rattle.std.proofs.Common.{◌≡◌, true, take}
use Rattle.fuxi_master.specs.Seen.{core_of}
use Rattle.fuxi_master.specs.VoteCounts.{all_avoid}
use Rattle.fuxi_master.proofs.state.Core.all_avoid.Given as goal

abbrev pub invariant-loop-unit : goal.invariant-loop-unit
invariant-loop-unit l = all_avoid (core_of l.self) l.app.0 (take l.unit-index l.units) l.machine.0 ≡ true
