use Rattle.std.proofs.Common.{◌≡◌, ◌++◌, not, nat_lt, filter, map}
use Rattle.std.specs.Prelude.{◌&&◌}
use Rattle.fuxi_terms.specs.Cluster.{JobRecord}
use Rattle.fuxi_terms.specs.Jobs.{unit_count}
use Rattle.spec_roles.specs.Placing.{has_pair, waiting_in}
use Rattle.grant_table.specs.GrantTables.{as_known}
use Rattle.place_pass.specs.Cells.{asks_in}
use Rattle.place_pass.specs.Best.{AreAdmitted}
use Rattle.place_pass.specs.WaitingLines.{AreSameUnits}
use Rattle.place_pass.proofs.line.waiting.join.Given as goal

abbrev pub invariant-loop-number : goal.invariant-loop-number
invariant-loop-number l = record {
  pairs : l.line.pairs ≡ l.initial.line.pairs ++ filter (λ p. nat_lt p.0 l.number && not (has_pair p l.initial.line.pairs)) (waiting_in (map (λ (j : JobRecord). j.number) l.table.jobs) (unit_count (as_known l.table.jobs)) (asks_in l.wishes.cells) l.table.entries);
  admitted : AreAdmitted l.wishes.cells l.line.pairs;
  units : AreSameUnits l.initial.line.units l.line.units;
}
