use Rattle.std.proofs.Common.{◌≡◌, ◌<◌, ℕ, true}
use Rattle.spec_roles.specs.Masters.{Master}
use Rattle.spec_world.specs.World.{World}
use Rattle.spec_world.specs.Quiet.{is_agent_quiet}
use Rattle.spec_refinement.specs.SeenWorlds.{master_seen}
use Rattle.fuxi_master.specs.Cores.{StandsFor}
use Rattle.running_parties.specs.Peers.{AreAgentsOf}
use Rattle.schedule_replay.proofs.quiet.are_agents_quiet.Given as goal

abbrev pub invariant-loop-machine : goal.invariant-loop-machine
invariant-loop-machine l = (w : World) (m : Master) → StandsFor l.master.core (master_seen w m) → AreAgentsOf w l.agents → (k : ℕ) → k < l.machine → is_agent_quiet w m k ≡ true
