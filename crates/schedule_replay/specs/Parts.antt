-- The parties that run, as they are printed.
use Rattle.std.specs.Prelude.{◌≡◌, ℕ, List, [], ◌++◌, length, Some}
use Rattle.std.specs.List.{flat_map}
use Rattle.std.specs.Ordering.{nat_cmp}
use Rattle.std.specs.FinMap.Entries.{find}
use Rattle.fuxi_terms.specs.Lists.{below}
use Rattle.spec_roles.specs.Refusals.{with_found}
use Rattle.spec_world.specs.World.{World}
use Rattle.spec_world.specs.Outputs.{Line}
use Rattle.spec_world.specs.Show.{show_master, show_agent, show_app}
use Rattle.agent_core.specs.AgentCores.{AgentCore}
use Rattle.app_master.specs.AppCores.{AppCore}
use Rattle.running_parties.specs.Slots.{SlotsRecord, slot_at}

-- of an epoch its master, where one runs, of a machine its agent, and of a job its application
abbrev pub epoch_lines : World → ℕ → List Line
epoch_lines w e = with_found (find nat_cmp e w.masters) [] show_master

abbrev pub machine_lines : World → ℕ → List Line
machine_lines w m = with_found (find nat_cmp m w.agents) [] (show_agent w.net m)

abbrev pub job_lines : World → ℕ → List Line
job_lines w a = with_found (find nat_cmp a w.apps) [] (show_app w.net (below (length w.cluster.machines)) a)

-- all of them
abbrev pub show_masters : World → List Line
show_masters w = flat_map (λ e. show_master e.1) w.masters

abbrev pub show_agents : World → List Line
show_agents w = flat_map (λ e. show_agent w.net e.0 e.1) w.agents

abbrev pub show_apps : World → List Line
show_apps w = flat_map (λ e. show_app w.net (below (length w.cluster.machines)) e.0 e.1) w.apps

abbrev pub show_parties : World → List Line
show_parties w = show_masters w ++ (show_agents w ++ show_apps w)

-- each agent has the number of the machine where it stands, and each application that of its job
abbrev pub AreOnMachines : SlotsRecord AgentCore → Type 0
AreOnMachines x = (m : ℕ) (a : AgentCore) → slot_at x m ≡ Some a → m ≡ a.machine

abbrev pub AreOfJobs : SlotsRecord AppCore → Type 0
AreOfJobs x = (a : ℕ) (core : AppCore) → slot_at x a ≡ Some core → a ≡ core.job
