use Rattle.std.proofs.Common.{◌≡◌, length, take}
use Rattle.work_plan.specs.Crews.{Marks, numbers_of}
use Rattle.work_plan.proofs.squad.marks_of.Given as goal

abbrev pub invariant-loop-key : goal.invariant-loop-key
invariant-loop-key l = record {
  long : length l.marks ≡ 256;
  marks : Marks l.marks (numbers_of (take l.key-index l.entries));
}
