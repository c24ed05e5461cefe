use Rattle.std.proofs.Common.{◌≤◌, length, map, take}
use Rattle.spec_world.specs.Events.{ban_each}
use Rattle.bad_nodes.specs.Ranks.{number_of}
use Rattle.schedule_replay.specs.Moves.{GoesThrough, TookSteps}
use Rattle.schedule_replay.proofs.masters.ban_each.Given as goal

-- the machines before this one are banned
abbrev pub invariant-loop-place : goal.invariant-loop-place
invariant-loop-place l = record {
  to : l.place ≤ length l.judgement.machines.items;
  goes : GoesThrough (ban_each l.epoch l.judgement.votes (map number_of (take l.place l.judgement.machines.items))) l.fn.running l.running l.fn.out.items l.out.items;
  took : TookSteps l.place l.fn.running l.running;
}
