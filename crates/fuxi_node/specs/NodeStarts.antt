-- The parties that nodes start with.
use Rattle.std.specs.Prelude.{ℕ, List}
use Rattle.fuxi_terms.specs.Cluster.{ClusterRecord, machine_of}
use Rattle.fuxi_terms.specs.Limits.{most_frames}
use Rattle.fuxi_terms.specs.Padded.{padded}
use Rattle.spec_roles.specs.Agents.{new_agent}
use Rattle.spec_roles.specs.Apps.{new_app}
use Rattle.spec_roles.specs.HardState.{HardState}
use Rattle.spec_roles.specs.MasterRoles.{master_started}
use Rattle.node_core.specs.Roles.{OfAgent, OfApp, OfMaster}
use Rattle.fuxi_node.specs.NodeEnds.{Start, start_of}

-- the agent of a machine of the cluster, so many lines having gone before
abbrev pub agent_start : ClusterRecord → ℕ → ℕ → List ℕ → ℕ → Start
agent_start c machine boot addr before = start_of most_frames addr before (OfAgent (new_agent machine (padded (machine_of c machine).has) boot))

-- the application of a job with so many units
abbrev pub app_start : ClusterRecord → ℕ → ℕ → ℕ → List ℕ → ℕ → Start
app_start c job units boot addr before = start_of most_frames addr before (OfApp (new_app job units c boot))

-- the master of an epoch with this hard state
abbrev pub master_start : ClusterRecord → ℕ → List ℕ → ℕ → HardState → Start
master_start c epoch addr before h = start_of most_frames addr before (OfMaster h (master_started c h epoch))
