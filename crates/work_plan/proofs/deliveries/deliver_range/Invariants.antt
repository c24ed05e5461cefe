use Rattle.std.proofs.Common.{◌≡◌}
use Rattle.work_plan.specs.AgentWithApps.{World}
use Rattle.work_plan.specs.WorkMoves.{Delivers}
use Rattle.work_plan.specs.WorkWorlds.{IsKept, Stands}
use Rattle.work_plan.proofs.deliveries.deliver_range.Given as goal

abbrev pub invariant-loop-number : goal.invariant-loop-number
invariant-loop-number l = record {
  held : IsKept l.working;
  packets : l.working.packets ≡ l.fn.working.packets;
  goes : (w : World) → Stands l.fn.working w → Delivers l.first l.last l.number l.working l.fn.out.items l.out.items w;
}
