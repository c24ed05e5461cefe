use Rattle.std.proofs.Common.{◌≡◌, map, take, None}
use Rattle.std.specs.List.{AllByRecursion}
use Rattle.spec_roles.specs.Preemption.{first_plan_in}
use Rattle.preempt.specs.Given.{board_at, pair_of}
use Rattle.preempt.specs.MachineRooms.{AreRooms}
use Rattle.preempt.specs.Search.{pairs_at}
use Rattle.preempt.proofs.search.first_unit.Given as goal

abbrev pub invariant-loop-e : goal.invariant-loop-e
invariant-loop-e g l = record {
  passed : first_plan_in (pairs_at l.table (g.P.Asking.usable l.placer) l.priority (map pair_of (take l.e-index l.waiting))) (board_at l.table (g.P.Asking.usable l.placer)) l.table.entries ≡ None;
  kinds : AllByRecursion (AreRooms l.table) l.kinds.items;
}
