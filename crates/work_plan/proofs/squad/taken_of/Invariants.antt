use Rattle.std.proofs.Common.{◌≡◌, length, take}
use Rattle.work_plan.specs.Crews.{Marks, workers_of}
use Rattle.work_plan.proofs.squad.taken_of.Given as goal

abbrev pub invariant-loop-member : goal.invariant-loop-member
invariant-loop-member l = record {
  long : length l.marks ≡ 256;
  marks : Marks l.marks (workers_of (take l.member-index l.members));
}
