-- What runs, as the state that is printed sees it, and the worlds that it is of.
use Rattle.std.specs.Prelude.{◌≡◌}
use Rattle.fuxi_terms.specs.Cluster.{ClusterRecord}
use Rattle.spec_roles.specs.HardState.{HardState}
use Rattle.spec_world.specs.World.{World}
use Rattle.spec_world.specs.Good.{Good}
use Rattle.agent_core.specs.AgentCores.{AgentCore}
use Rattle.app_master.specs.AppCores.{AppCore}
use Rattle.running_parties.specs.Slots.{SlotsRecord}
use Rattle.running_parties.specs.Peers.{AreAgentsOf, AreAppsOf}
use Rattle.running_parties.specs.RunningMasters.{AreMastersOf}
use Rattle.fuxi_master.specs.Cores.{MasterRecord}
use Rattle.spec_world.specs.Orders.{IsInOrder}

pub record Running : Type 0 where
  pub cluster : ClusterRecord
  pub hard : HardState
  pub masters : SlotsRecord MasterRecord
  pub agents : SlotsRecord AgentCore
  pub apps : SlotsRecord AppCore

-- it is what runs in a good world whose parties stand in order
pub record IsRunningOf (w : World) (r : Running) : Type 0 where
  pub good : Good w
  pub order : IsInOrder w
  pub cluster : r.cluster ≡ w.cluster
  pub hard : r.hard ≡ w.hard
  pub masters : AreMastersOf w r.masters
  pub agents : AreAgentsOf w r.agents
  pub apps : AreAppsOf w r.apps

-- there is such a world
pub record IsKnown (r : Running) : Type 0 where
  pub world : World
  pub of : IsRunningOf world r
