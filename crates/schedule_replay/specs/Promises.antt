-- What is promised of the cores that run: the parts of a safe world, said of what the cores themselves have.
use Rattle.std.specs.Prelude.{◌≡◌, ℕ, ◌<◌, ◌≤◌, true, false, nat_lt, Some, None, slice_get}
use Rattle.std.specs.Ordering.{nat_cmp}
use Rattle.std.specs.FinMap.Entries.{find}
use Rattle.fuxi_terms.specs.Cluster.{has_at, has_machine}
use Rattle.fuxi_terms.specs.Counts.{count}
use Rattle.fuxi_terms.specs.Jobs.{is_known}
use Rattle.fuxi_terms.specs.Keys.{key_cmp}
use Rattle.fuxi_terms.specs.TallyKeys.{count_key}
use Rattle.fuxi_terms.specs.Tables.{held_on}
use Rattle.delta_channel.specs.Standing.{Sending}
use Rattle.delta_channel.specs.Hearing.{Receiving}
use Rattle.full_sync.specs.Turns.{Endpoint}
use Rattle.spec_net.specs.Ledgers.{at_key}
use Rattle.spec_net.specs.Channels.{app_id, party}
use Rattle.spec_roles.specs.Masters.{out_of}
use Rattle.spec_roles.specs.Placing.{has_pair}
use Rattle.spec_world.specs.World.{World, App}
use Rattle.spec_world.specs.Good.{Good}
use Rattle.spec_world.specs.Quiet.{is_quiet}
use Rattle.spec_world.specs.Safe.{RowsFit, place_for, grants_at, units_total_at, row_count}
use Rattle.place_pass.specs.Placers.{asks_seen}
use Rattle.ledger_updates.specs.AllShown.{Down, App as Grants}
use Rattle.agent_core.specs.AgentCores.{AgentCore, table_in}
use Rattle.app_master.specs.AppCores.{AppCore}
use Rattle.app_master.specs.Usable.{is_named}
use Rattle.fuxi_master.specs.Cores.{CoreRecord, MasterRecord}
use Rattle.running_parties.specs.Slots.{slot_at}
use Rattle.schedule_replay.specs.Worlds.{WorldRecord, IsWorld, StandsFor}
use Rattle.schedule_replay.specs.CoreReads.{held_now, is_placeable}

-- Capacity. The table of each agent that runs fits its machine, in each resource
abbrev pub TablesFit : WorldRecord → Type 0
TablesFit r = (m : ℕ) (a : AgentCore) → slot_at r.agents m ≡ Some a → RowsFit r.cluster m (table_in a.up)

-- Once. In a world: what an application holds on a machine is part of one entry of the grants that one master sent, and 0 where it has no place there.
-- On a machine that its grants name, that entry is the one to which it has come
pub record IsOfOneEntry (w : World) (n : ℕ) (a : AppCore) (m : ℕ) : Type 0 where
  pub app : App
  pub runs : find nat_cmp n w.apps ≡ Some app
  pub own : is_named a.up.incoming.received m ≡ true → place_for w.net (party (app_id n) app.boot) app m ≡ Some (a.up.incoming.place.inc, a.up.incoming.place.seq)
  pub nowhere : place_for w.net (party (app_id n) app.boot) app m ≡ None → (u : ℕ) → u < a.units → held_now a u m ≡ 0
  pub counts : (place : ℕ × ℕ) → place_for w.net (party (app_id n) app.boot) app m ≡ Some place → (u : ℕ) → u < a.units → held_now a u m ≤ at_key (grants_at w.net n place) (count_key u m)

-- what an application holds on a machine fits it, each number times the size of its unit; on a machine that its grants name, each number is at most the count
-- in these; and in each world for which the cores stand it is part of one entry
pub record IsHeldOnce (r : WorldRecord) (n : ℕ) (a : AppCore) (m : ℕ) : Type 0 where
  pub fits : (i : ℕ) → i < r.cluster.resources → units_total_at r.checkpoint.hard.value.jobs n a.units (λ u. held_now a u m) i ≤ has_at r.cluster m i
  pub granted : is_named a.up.incoming.received m ≡ true → (u : ℕ) → held_now a u m ≤ count key_cmp a.up.incoming.received.entries (count_key u m)
  pub entry : (w : World) → IsWorld w → StandsFor r w → IsOfOneEntry w n a m

abbrev pub AllHeldOnce : WorldRecord → Type 0
AllHeldOnce r = (n : ℕ) (a : AppCore) → slot_at r.apps n ≡ Some a → (m : ℕ) → has_machine r.cluster m ≡ true → IsHeldOnce r n a m

-- Views. A receiver and a sender that it may know: its place is not past the last index of that sender, and at the last index it has what the sender shows
pub record Follows {V D : Type 0} (receiver : Receiving V) (sender : Sending V D) : Type 0 where
  pub there : receiver.place.inc ≡ sender.own → receiver.place.seq ≤ sender.last
  pub current : receiver.place ≡ record { inc = sender.own; seq = sender.last } → receiver.received ≡ sender.present

-- both directions of a channel
pub record FollowEachOther {V W D E : Type 0} (x : Endpoint V D W) (y : Endpoint W E V) : Type 0 where
  pub forth : Follows y.incoming x.outgoing
  pub back : Follows x.incoming y.outgoing

-- of each master that runs with each agent that runs, and with the application of each job that it knows
pub record AllFollow (r : WorldRecord) : Type 0 where
  pub agents : (e m : ℕ) (M : MasterRecord) (d : Down) (a : AgentCore) → slot_at r.masters e ≡ Some M → slice_get M.core.agents m ≡ Some d → slot_at r.agents m ≡ Some a → FollowEachOther d a.up
  pub apps : (e n : ℕ) (M : MasterRecord) (d : Grants) (a : AppCore) → slot_at r.masters e ≡ Some M → slice_get M.core.apps n ≡ Some (Some d) → slot_at r.apps n ≡ Some a → FollowEachOther d a.up

-- Agreement. The worlds for which the cores stand are quiet for the master of an epoch
abbrev pub IsQuiet : WorldRecord → ℕ → Type 0
IsQuiet r e = (w : World) → IsWorld w → StandsFor r w → is_quiet w e ≡ true

-- a master, the agents and the applications of the jobs that it knows have the same numbers of each unit on each machine
pub record Agree (r : WorldRecord) (x : CoreRecord) : Type 0 where
  pub agents : (m : ℕ) (a : AgentCore) → slot_at r.agents m ≡ Some a → (n u : ℕ) → row_count (table_in a.up) n u ≡ held_on x.allotment.table.entries n u m
  pub apps : (n : ℕ) (a : AppCore) → slot_at r.apps n ≡ Some a → is_known x.known.jobs n ≡ true → (u m : ℕ) → u < a.units → has_machine r.cluster m ≡ true → held_now a u m ≡ held_on x.allotment.table.entries n u m

abbrev pub AllAgree : WorldRecord → Type 0
AllAgree r = (e : ℕ) (M : MasterRecord) → slot_at r.masters e ≡ Some M → IsQuiet r e → Agree r M.core

-- Settled. The line of a core has exactly the units with something out, and none of them may be granted anywhere
pub record IsSettled (x : CoreRecord) : Type 0 where
  pub line : (a u : ℕ) → has_pair (a, u) x.allotment.placer.seen.line ≡ nat_lt 0 (out_of (asks_seen x.allotment.placer.seen) x.allotment.table.entries a u)
  pub none : (a u m : ℕ) → is_placeable x a u m ≡ false

abbrev pub AllSettled : WorldRecord → Type 0
AllSettled r = (e : ℕ) (M : MasterRecord) → slot_at r.masters e ≡ Some M → IsSettled M.core

-- Good. The cores are those of a good world: one runs for each party that runs there and no other, and has what the party has
pub record AreOfGoodWorld (r : WorldRecord) : Type 0 where
  pub world : World
  pub good : Good world
  pub stands : StandsFor r world
