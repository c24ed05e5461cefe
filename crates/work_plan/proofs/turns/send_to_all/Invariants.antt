use Rattle.std.proofs.Common.{nat_eq, List, [], true, false}
use Rattle.std.specs.List.{flat_map}
use Rattle.fuxi_terms.specs.Lists.{below}
use Rattle.spec_net.specs.Net.{Packet, turn}
use Rattle.work_plan.specs.AgentWithApps.{World, agent_party, app_id}
use Rattle.work_plan.specs.WorkMoves.{Sends}
use Rattle.work_plan.specs.WorkWorlds.{AppsAt, IsAgent, IsHeld}
use Rattle.work_plan.proofs.turns.send_to_all.Given as goal

abbrev pub invariant-loop-number : goal.invariant-loop-number
invariant-loop-number l = record {
  held : IsHeld l.agent;
  agent : (w : World) → IsAgent l.fn.agent w → IsAgent l.agent w;
  sends : (w : World) → IsAgent l.fn.agent w → AppsAt l.apps w → Sends l.fn.packets.items l.packets.items w.net.histories (flat_map (λ a. elim (nat_eq (w.apps a) 0) as (λ _. List Packet) [ true ↦ [] | false ↦ turn w.net (agent_party w) (app_id a) ]) (below l.number));
}
