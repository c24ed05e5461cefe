use Rattle.std.proofs.Common.{◌≡◌, ◌≤◌, ◌++◌, false, length, take, drop, get_or, filter, vec_capacity}
use Rattle.work_plan.specs.Crews.{IsSquad}
use Rattle.work_plan.proofs.squad.stop_unwanted.Given as goal

abbrev pub invariant-loop-index : goal.invariant-loop-index
invariant-loop-index l = record {
  front : take l.kept l.members.items ≡ take l.most (filter (λ m. get_or l.fn.wanted m.worker false) (take l.index l.initial.members.items));
  rest : drop l.index l.members.items ≡ drop l.index l.initial.members.items;
  behind : l.kept ≤ l.index;
  few : l.kept ≤ l.most;
  long : length l.members.items ≡ length l.initial.members.items;
  squad : IsSquad l.pool (take l.kept l.members.items ++ drop l.index l.members.items);
  capacity : vec_capacity l.members ≡ vec_capacity l.initial.members;
}
