use Rattle.spec_roles.specs.Masters.{out_of}
use Rattle.place_pass.specs.Best.{spot_of}
use Rattle.place_pass.specs.Placers.{asks_seen}
use Rattle.allotment.specs.SettlingRuns.{Repeats}
use Rattle.allotment.proofs.settle_run.grant.Given as goal

abbrev pub invariant-loop-table : goal.invariant-loop-table
invariant-loop-table g l = Repeats l.fn.table l.placer.seen (spot_of l.pick) l.table

abbrev pub decreases-loop-table : goal.decreases-loop-table
decreases-loop-table g l = out_of (asks_seen l.placer.seen) l.table.entries l.pick.app.0 l.pick.unit.0
