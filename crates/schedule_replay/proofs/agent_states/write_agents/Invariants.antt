use Rattle.std.specs.List.{flat_map}
use Rattle.fuxi_terms.specs.Lists.{below}
use Rattle.spec_world.specs.World.{World}
use Rattle.party_text.specs.Texts.{Shows}
use Rattle.running_parties.specs.Peers.{AreAgentsOf}
use Rattle.schedule_replay.specs.Parts.{machine_lines}
use Rattle.schedule_replay.proofs.Loops.{Printed}
use Rattle.schedule_replay.proofs.agent_states.write_agents.Given as goal

abbrev pub invariant-loop-number : goal.invariant-loop-number
invariant-loop-number l = Printed ((w : World) → AreAgentsOf w l.agents → Shows (flat_map (machine_lines w) (below l.number)) l.initial.out.items l.out.items) l.initial.out.items l.out.items
