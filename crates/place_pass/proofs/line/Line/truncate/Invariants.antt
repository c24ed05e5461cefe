use Rattle.std.proofs.Common.{◌≡◌, length, take}
use Rattle.place_pass.specs.WaitingLines.{AreSameUnits}
use Rattle.place_pass.proofs.line.Line.truncate.Given as goal

abbrev pub invariant-loop-self : goal.invariant-loop-self
invariant-loop-self l = record {
  pairs : take l.len l.self.pairs ≡ take l.len l.initial.self.pairs;
  units : AreSameUnits l.initial.self.units l.self.units;
}

abbrev pub decreases-loop-self : goal.decreases-loop-self
decreases-loop-self l = length l.self.pairs
