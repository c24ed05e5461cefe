use Rattle.std.proofs.Common.{◌-◌, length}
use Rattle.place_pass.specs.DemandWalks.{IsPast}
use Rattle.allotment.proofs.credits.number_from.Given as goal

abbrev pub invariant-loop-place : goal.invariant-loop-place
invariant-loop-place l = IsPast l.entries l.place l.sought

abbrev pub decreases-loop-place : goal.decreases-loop-place
decreases-loop-place l = length l.entries - l.place
