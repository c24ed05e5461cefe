use Rattle.place_pass.specs.WaitingLines.{IsGrown, AreIn}
use Rattle.place_pass.proofs.line.add_units.Given as goal

abbrev pub invariant-loop-number : goal.invariant-loop-number
invariant-loop-number l = record {
  grown : IsGrown l.app l.number l.fn.units.keys l.units.keys;
  there : AreIn l.app l.number l.units.keys;
}
