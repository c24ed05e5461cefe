use Rattle.place_pass.specs.DemandWalks.{IsPast}
use Rattle.place_pass.proofs.demand.reading.place_behind.Given as goal

abbrev pub invariant-loop-place : goal.invariant-loop-place
invariant-loop-place l = IsPast l.entries l.place l.sought
