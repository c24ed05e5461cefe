use Rattle.std.proofs.Common.{◌≡◌, ◌-◌, length, take, vec_capacity}
use Rattle.work_plan.specs.RunAfter.{missing}
use Rattle.work_plan.specs.Crews.{IsSquad, Starts, workers_of, numbers_of}
use Rattle.work_plan.proofs.squad.start_missing.Given as goal

abbrev pub invariant-loop-key : goal.invariant-loop-key
invariant-loop-key l = record {
  squad : IsSquad l.pool l.members.items;
  starts : Starts l.initial.members.items l.members.items (take (l.most - length l.initial.members.items) (missing (workers_of l.initial.members.items) (numbers_of (take l.key-index l.wanted))));
  capacity : vec_capacity l.members ≡ vec_capacity l.initial.members;
}
