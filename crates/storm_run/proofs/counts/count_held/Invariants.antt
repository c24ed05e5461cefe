use Rattle.std.proofs.Common.{◌≡◌, ◌*◌, ◌^◌, ◌≤◌}
use Rattle.std.specs.List.{sum_by}
use Rattle.fuxi_terms.specs.Lists.{below}
use Rattle.app_master.specs.AppCores.{StandsFor}
use Rattle.spec_roles.specs.Apps.{AppRole, held_by}
use Rattle.storm_run.proofs.counts.count_held.Given as goal

abbrev pub invariant-loop-unit : goal.invariant-loop-unit
invariant-loop-unit l = record {
  sum : (r : AppRole) → StandsFor l.app r → l.total ≡ sum_by (λ u. sum_by (held_by r u) (below l.app.machines)) (below l.unit);
  few : l.total ≤ (2 ^ 32 * l.app.machines) * l.unit;
}
