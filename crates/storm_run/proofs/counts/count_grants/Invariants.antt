use Rattle.std.proofs.Common.{◌≡◌, ◌*◌, ◌^◌, ◌≤◌}
use Rattle.std.specs.List.{sum_by}
use Rattle.fuxi_terms.specs.Lists.{below}
use Rattle.fuxi_terms.specs.Tables.{held}
use Rattle.storm_run.proofs.counts.count_grants.Given as goal

abbrev pub invariant-loop-unit : goal.invariant-loop-unit
invariant-loop-unit l = record {
  sum : l.total ≡ sum_by (held l.table.entries l.app.0) (below l.unit);
  few : l.total ≤ 2 ^ 32 * l.unit;
}
