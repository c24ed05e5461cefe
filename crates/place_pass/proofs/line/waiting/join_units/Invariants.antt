use Rattle.std.proofs.Common.{◌≡◌, ◌++◌, not, filter}
use Rattle.spec_roles.specs.Placing.{has_pair}
use Rattle.place_pass.specs.Cells.{asks_in}
use Rattle.place_pass.specs.Best.{AreAdmitted}
use Rattle.place_pass.specs.WaitingLines.{AreSameUnits, waiting_of}
use Rattle.place_pass.proofs.line.waiting.join_units.Given as goal

abbrev pub invariant-loop-number : goal.invariant-loop-number
invariant-loop-number l = record {
  pairs : l.line.pairs ≡ l.initial.line.pairs ++ filter (λ p. not (has_pair p l.initial.line.pairs)) (waiting_of (asks_in l.wishes.cells) l.table.entries l.app.0 l.number);
  admitted : AreAdmitted l.wishes.cells l.line.pairs;
  units : AreSameUnits l.initial.line.units l.line.units;
}
