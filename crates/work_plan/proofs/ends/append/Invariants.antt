use Rattle.std.proofs.Common.{◌≡◌, ◌++◌, map}
use Rattle.work_plan.specs.Ends.{parcel_of}
use Rattle.work_plan.proofs.ends.append.Given as goal

abbrev pub invariant-loop-note : goal.invariant-loop-note
invariant-loop-note l = l.parcels.items ≡ l.initial.parcels.items ++ map (parcel_of l.from l.to) l.yielded
