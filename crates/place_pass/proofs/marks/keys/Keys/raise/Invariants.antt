use Rattle.std.proofs.Common.{◌≡◌}
use Rattle.place_pass.proofs.marks.keys.Keys.raise.Given as goal

abbrev pub invariant-loop-block : goal.invariant-loop-block
invariant-loop-block l = l.self ≡ l.initial.self
