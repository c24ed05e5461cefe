use Rattle.std.proofs.Common.{◌+◌, ◌-◌, ◌≤◌}
use Rattle.spec_world.specs.Events.{deliver_all}
use Rattle.schedule_replay.specs.Moves.{GoesThrough, TookSteps}
use Rattle.schedule_replay.proofs.deliveries.deliver_range.Given as goal

-- the packets before this one are delivered
abbrev pub invariant-loop-number : goal.invariant-loop-number
invariant-loop-number l = record {
  from : l.first ≤ l.number;
  to : l.number ≤ l.last + 1;
  goes : GoesThrough (deliver_all (l.number - l.first) l.first) l.fn.running l.running l.fn.out.items l.out.items;
  took : TookSteps (l.number - l.first) l.fn.running l.running;
}
