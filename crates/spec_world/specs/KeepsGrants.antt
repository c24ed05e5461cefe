-- What a failover keeps.
use Rattle.std.specs.Prelude.{◌≡◌, ◌⊎◌, ℕ, ◌<◌, ◌≤◌, true, false, Some}
use Rattle.std.specs.List.{AllByRecursion}
use Rattle.std.specs.Ordering.{nat_cmp}
use Rattle.std.specs.FinMap.Entries.{find}
use Rattle.fuxi_terms.specs.Keys.{RowKey}
use Rattle.fuxi_terms.specs.Jobs.{is_live, unit_count, unit_of}
use Rattle.fuxi_terms.specs.Numbers.{has_number}
use Rattle.fuxi_terms.specs.Tables.{held_on}
use Rattle.spec_net.specs.Net.{Packet, heard_of, is_taken}
use Rattle.spec_net.specs.Channels.{agent_id, master_id, party, is_master, content, present}
use Rattle.spec_roles.specs.Masters.{Master}
use Rattle.spec_roles.specs.Agents.{joined_report}
use Rattle.spec_world.specs.World.{World, Agent}
use Rattle.spec_world.specs.Events.{Event, Deliver, packet_of, world_step}
use Rattle.spec_world.specs.Parties.{agent_table}
use Rattle.spec_world.specs.EventSteps.{is_single, RunsThrough}

-- what is reported of a live job, of a unit that it has, with its size, is at most what the master then holds
abbrev pub IsKept : Master → ℕ → RowKey × ℕ → Type 0
IsKept N m e = is_live N.jobs e.0.job ≡ true → e.0.unit < unit_count N.jobs e.0.job → e.0.size ≡ (unit_of N.jobs e.0.job e.0.unit).size → e.1 ≤ held_on N.table e.0.job e.0.unit m

-- packet k is the report of a machine, which the master of its epoch takes for the first time
pub record IsAdopted (w : World) (k m : ℕ) (x : Packet) (M N : Master) : Type 0 where
  pub sent : packet_of w k ≡ Some x
  pub from : x.from.id ≡ agent_id m
  pub new : has_number m M.reported ≡ false
  pub adopted : has_number m N.reported ≡ true

-- Keeps what is reported: what an adopted report says of a live job, of a unit that it has, with its size, on a machine that is not banned, is at most what the master
-- then holds
pub record AllAdopt (w : World) : Type 0 where
  pub adopts : (k e m : ℕ) (x : Packet) (M N : Master) → RunsThrough w (Deliver k) e M N → IsAdopted w k m x M N → has_number m N.bans ≡ false → AllByRecursion (IsKept N m) (content w.net x).rows

-- Reports what it had: an agent that hears of a greater epoch has as its report that epoch and exactly the table that it had before
pub record AllReport (w : World) : Type 0 where
  pub reports : (k m : ℕ) (x : Packet) (g : Agent) → find nat_cmp m w.agents ≡ Some g → packet_of w k ≡ Some x → x.to.id ≡ agent_id m → (heard_of w.net (party (agent_id m) g.boot) is_master x).fresh ≡ true
      → present (world_step w (Deliver k)).world.net (party (agent_id m) g.boot) master_id ≡ joined_report x.from.inc (agent_table w.net (party (agent_id m) g.boot))

-- Keeps its table: the table of an agent stays until it takes a row, or is started anew
pub record AllStay (w : World) : Type 0 where
  pub stays : (v : Event) (m : ℕ) (g : Agent) → is_single v ≡ true → find nat_cmp m w.agents ≡ Some g → find nat_cmp m (world_step w v).world.agents ≡ Some g
      → (agent_table (world_step w v).world.net (party (agent_id m) g.boot) ≡ agent_table w.net (party (agent_id m) g.boot))
      ⊎ ((k : ℕ) × (x : Packet) × (v ≡ Deliver k) × (packet_of w k ≡ Some x) × (is_taken (heard_of w.net (party (agent_id m) g.boot) is_master x).what ≡ true))
