-- What one event makes of a running master, in every state.
use Rattle.std.specs.Prelude.{◌≡◌, ◌⊎◌, ℕ, ◌+◌, ◌-◌, ◌<◌, ◌≤◌, Bool, true, false, cond, nat_lt, List, [], Some, take, slice_get, is_some}
use Rattle.std.specs.Ordering.{nat_cmp}
use Rattle.std.specs.FinMap.Entries.{find}
use Rattle.fuxi_terms.specs.Cluster.{ClusterRecord}
use Rattle.fuxi_terms.specs.Numbers.{has_number}
use Rattle.fuxi_terms.specs.Tables.{held_on}
use Rattle.spec_net.specs.Net.{Packet}
use Rattle.spec_net.specs.Channels.{is_master, app_id}
use Rattle.spec_roles.specs.Masters.{Master}
use Rattle.spec_roles.specs.MasterSteps.{master_party}
use Rattle.spec_roles.specs.Transitions.{GrowsAsAllowed, IsBare, HasAllReports, credited_at}
use Rattle.spec_world.specs.World.{World}
use Rattle.spec_world.specs.Events.{Event, Ban, Finish, Preempt, Begin, Judge, Deliver, DeliverRange, packet_of, world_step}
use Rattle.spec_world.specs.Runs.{run}

-- an event is one step, but for a range of deliveries and a judgement, which are their single ones
abbrev pub is_single : Event → Bool
is_single (DeliverRange k l) = false
is_single (Judge e least percent) = false
is_single x = true

-- an event is done: it is one that prints nothing but a refusal, and was not refused
abbrev pub IsDone : World → Event → Type 0
IsDone w x = (world_step w x).lines ≡ []

-- the master of an epoch before and behind one event
pub record RunsThrough (w : World) (x : Event) (e : ℕ) (M N : Master) : Type 0 where
  pub single : is_single x ≡ true
  pub before : find nat_cmp e w.masters ≡ Some M
  pub behind : find nat_cmp e (world_step w x).world.masters ≡ Some N

-- Grows as allowed: where an event raises a count of a unit on a machine that its master has as reported, the master serves, the job is live and has the unit, the
-- machine is neither banned nor avoided, what the unit then holds is at most what it wants, and the group's usage is within its limit in each resource. On another
-- machine a count rises only where its report is adopted
pub record AllGrow (w : World) : Type 0 where
  pub grow : (x : Event) (e : ℕ) (M N : Master) → RunsThrough w x e M N → GrowsAsAllowed w.cluster M N

-- Banned machines are bare: no running master has a grant on a machine that it has banned, and a ban that is not refused is then among its bans and those of the
-- hard state
pub record AllBare (w : World) : Type 0 where
  pub bare : (e : ℕ) (M : Master) → find nat_cmp e w.masters ≡ Some M → IsBare M
  pub bans : (e m : ℕ) (N : Master) → IsDone w (Ban e m) → find nat_cmp e (world_step w (Ban e m)).world.masters ≡ Some N
      → (has_number m N.bans ≡ true) × (has_number m (world_step w (Ban e m)).world.hard.bans ≡ true)

-- a `Begin` of an epoch came while its master ran
pub record WasBegun (c : ClusterRecord) (events : List Event) (e : ℕ) : Type 0 where
  pub moment : ℕ
  pub begun : slice_get events moment ≡ Some (Begin e)
  pub ran : is_some (find nat_cmp e (run c (take moment events)).masters) ≡ true

-- Serves when told of all: a serving master has adopted a report of every machine of the cluster, or was told to begin
abbrev pub AllServe : ClusterRecord → List Event → Type 0
AllServe c events = (e : ℕ) (M : Master) → find nat_cmp e (run c events).masters ≡ Some M → M.serving ≡ true → HasAllReports (run c events).cluster M ⊎ WasBegun c events e

-- a demand that is delivered, by which a count of its job falls at most by what is credited more, from 0 for a new boot
pub record IsCreditedLoss (w : World) (k : ℕ) (M N : Master) (a u m : ℕ) : Type 0 where
  pub packet : Packet
  pub sent : packet_of w k ≡ Some packet
  pub from : packet.from.id ≡ app_id a
  pub to : is_master packet.to.id ≡ true
  pub epoch : packet.to.inc ≡ M.epoch
  pub within : held_on M.table a u m ≤ held_on N.table a u m
      + (credited_at N a u m - cond (nat_lt (w.net.links (master_party M) (app_id a)).known packet.from.inc) 0 (credited_at M a u m))

-- by which events a count of a master falls: the ban of that machine, the end of that job, a preemption, and a demand
abbrev pub MayFall : World → Event → ℕ → Master → Master → ℕ → ℕ → ℕ → Type 0
MayFall w (Ban f n) e M N a u m = (f ≡ e) × (n ≡ m)
MayFall w (Finish f b) e M N a u m = (f ≡ e) × (b ≡ a)
MayFall w (Preempt f) e M N a u m = f ≡ e
MayFall w (Deliver k) e M N a u m = IsCreditedLoss w k M N a u m
MayFall w x e M N a u m = ⊥

-- Loses only what is credited: by a demand of a job, its counts fall at most by what is credited more, from 0 for a new boot; by other events a count falls only at the
-- ban of its machine, at the end of its job, and by a preemption
pub record AllLose (w : World) : Type 0 where
  pub lose : (x : Event) (e : ℕ) (M N : Master) → RunsThrough w x e M N → (a u m : ℕ) → held_on N.table a u m < held_on M.table a u m → MayFall w x e M N a u m
