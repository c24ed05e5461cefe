use Rattle.std.proofs.Common.{◌≡◌, ◌*◌, ◌^◌, ◌≤◌}
use Rattle.std.specs.List.{sum_by}
use Rattle.fuxi_terms.specs.Lists.{below}
use Rattle.app_master.specs.AppCores.{StandsFor}
use Rattle.spec_roles.specs.Apps.{AppRole, held_by}
use Rattle.storm_run.proofs.counts.count_unit.Given as goal

abbrev pub invariant-loop-machine : goal.invariant-loop-machine
invariant-loop-machine l = record {
  sum : (r : AppRole) → StandsFor l.app r → l.total ≡ sum_by (held_by r l.unit.0) (below l.machine);
  few : l.total ≤ 2 ^ 32 * l.machine;
}
