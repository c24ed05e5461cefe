-- The steps of the parties in the world, and those of the parties by themselves: one equation for each event.
use Rattle.std.specs.Prelude.{◌≡◌, ℕ, ◌+◌, ◌≤◌, ◌++◌, nat_eq, false, List, [], length, map, Option, Some, None, Result, Ok, Err}
use Rattle.std.specs.Ordering.{nat_cmp}
use Rattle.std.specs.FinMap.Entries.{find, put}
use Rattle.fuxi_terms.specs.declared.vectors.Res.{Res}
use Rattle.fuxi_terms.specs.declared.vectors.Sum.{Sum}
use Rattle.fuxi_terms.specs.Jobs.{unit_count, job_numbers}
use Rattle.spec_net.specs.Net.{Net, Party, Id, Packet, Starts, same_party, at_index, heard_of, move}
use Rattle.spec_net.specs.Ledgers.{Ledger, nothing, change_body}
use Rattle.spec_net.specs.Channels.{master_id, agent_id, app_id, party, is_master, is_agent, dropped_by}
use Rattle.spec_net.specs.Sides.{Parcel, patched_by}
use Rattle.spec_roles.specs.Refusals.{Refusal}
use Rattle.spec_roles.specs.HardState.{HardState}
use Rattle.spec_roles.specs.Masters.{Master}
use Rattle.spec_roles.specs.MasterSteps.{master_party, talks, ready, new_master}
use Rattle.spec_roles.specs.Agents.{AgentRole, new_agent, agent_hears_alone}
use Rattle.spec_roles.specs.Apps.{AppRole, new_app, app_hears_alone}
use Rattle.spec_roles.specs.MasterRoles.{MasterRole, master_hears_alone, master_started}
use Rattle.spec_world.specs.World.{World, Agent, App, Step, refused}
use Rattle.spec_world.specs.Parties.{agent_hears, app_hears, master_hears, end_step}
use Rattle.spec_world.specs.Events.{agent_started, app_started}
use Rattle.spec_refinement.specs.SeenWorlds.{received_as, side_of, parcel_of, has_of, agent_seen, app_seen, master_seen}

-- One party acts: the others see what they saw, and these packets were sent
pub record OneActs (net net' : Net Ledger) (p : Party) (sent : List Parcel) : Type 0 where
  pub others : (p' : Party) (q : Id) → same_party p p' ≡ false → side_of net' p' q ≡ side_of net p' q
  pub packets : map (parcel_of net') net'.packets ≡ map (parcel_of net) net.packets ++ sent

-- an agent acts, and is then this role
pub record AgentActs (w w' : World) (m : ℕ) (g : Agent) (r : AgentRole) (sent : List Parcel) : Type 0 where
  pub acts : OneActs w.net w'.net (party (agent_id m) g.boot) sent
  pub role : agent_seen w' m g ≡ r
  pub rest : w' ≡ record w { net = w'.net }

-- an application acts, and is then this role, kept with these carried numbers
pub record AppActs (w w' : World) (a : ℕ) (g g' : App) (r : AppRole) (sent : List Parcel) : Type 0 where
  pub acts : OneActs w.net w'.net (party (app_id a) g.boot) sent
  pub role : app_seen w' a g' ≡ r
  pub rest : w' ≡ record w { apps = w'.apps; net = w'.net }

-- a master acts, and is then this role in the same epoch. Where it stood in the world it stands there so; other masters stand as before, and of the
-- rest only the hard state and what has run may be others
pub record MasterActs (w w' : World) (M R : Master) (r : MasterRole) (sent : List Parcel) : Type 0 where
  pub acts : OneActs w.net w'.net (master_party M) sent
  pub role : master_seen w' R ≡ r
  pub epoch : R.epoch ≡ M.epoch
  pub stands : find nat_cmp M.epoch w.masters ≡ Some M → find nat_cmp R.epoch w'.masters ≡ Some R
  pub others : (e : ℕ) → nat_eq e R.epoch ≡ false → find nat_cmp e w'.masters ≡ find nat_cmp e w.masters
  pub rest : w' ≡ record w { hard = w'.hard; ran = w'.ran; masters = w'.masters; net = w'.net }

-- Hearing: the role's step, whether the sender is new, and the word
pub record AgentHearsAlike (w : World) (m : ℕ) (g : Agent) (x : Packet) : Type 0 where
  pub acts : AgentActs w (agent_hears w m g x) m g (agent_hears_alone (agent_seen w m g) (parcel_of w.net x)).role []
  pub fresh : (agent_hears_alone (agent_seen w m g) (parcel_of w.net x)).fresh ≡ (heard_of w.net (party (agent_id m) g.boot) is_master x).fresh
  pub what : (agent_hears_alone (agent_seen w m g) (parcel_of w.net x)).what ≡ (heard_of w.net (party (agent_id m) g.boot) is_master x).what

pub record AppHearsAlike (w : World) (a : ℕ) (g : App) (x : Packet) : Type 0 where
  pub now : App
  pub is : app_hears w a g x ≡ record w { apps = put nat_cmp a now w.apps; net = (app_hears w a g x).net }
  pub acts : AppActs w (app_hears w a g x) a g now (app_hears_alone (app_seen w a g) (parcel_of w.net x)).role []
  pub fresh : (app_hears_alone (app_seen w a g) (parcel_of w.net x)).fresh ≡ (heard_of w.net (party (app_id a) g.boot) is_master x).fresh
  pub what : (app_hears_alone (app_seen w a g) (parcel_of w.net x)).what ≡ (heard_of w.net (party (app_id a) g.boot) is_master x).what

pub record MasterHearsAlike (excess : Id → Ledger → Option (Sum × Res)) (w : World) (M : Master) (x : Packet) : Type 0 where
  pub now : Master
  pub acts : MasterActs w (master_hears w M x) M now (master_hears_alone excess (master_seen w M) (parcel_of w.net x)).role []
  pub fresh : (master_hears_alone excess (master_seen w M) (parcel_of w.net x)).fresh ≡ (heard_of w.net (master_party M) (talks w.cluster M) x).fresh
  pub what : (master_hears_alone excess (master_seen w M) (parcel_of w.net x)).what ≡ (heard_of w.net (master_party M) (talks w.cluster M) x).what
  pub hard : (master_hears w M x).hard ≡ w.hard

-- Starts
-- the one that then stands in the world is the role as it starts
pub record AgentStarts (w : World) (m b : ℕ) : Type 0 where
  pub now : Agent
  pub stands : (agent_started w m b).agents ≡ put nat_cmp m now w.agents
  pub acts : OneActs w.net (agent_started w m b).net (party (agent_id m) b) []
  pub role : agent_seen (agent_started w m b) m now ≡ new_agent m (has_of w m) b

pub record AppStarts (w : World) (a b : ℕ) : Type 0 where
  pub now : App
  pub stands : (app_started w a b).apps ≡ put nat_cmp a now w.apps
  pub acts : OneActs w.net (app_started w a b).net (party (app_id a) b) []
  pub role : app_seen (app_started w a b) a now ≡ new_app a (unit_count w.hard.jobs a) w.cluster b

-- a master starts with this hard state
abbrev pub master_starts : World → HardState → List Party → ℕ → World
master_starts w h ran e = end_step (record w { hard = h; ran = ran }) (move w.net (Starts (party master_id e))) (new_master h e) (map app_id (job_numbers h.jobs))

pub record MasterStarts (w : World) (h : HardState) (ran : List Party) (e : ℕ) : Type 0 where
  pub acts : MasterActs w (master_starts w h ran e) (new_master h e) (ready w.cluster (new_master h e)) (master_started w.cluster h e) []
  pub stands : find nat_cmp (ready w.cluster (new_master h e)).epoch (master_starts w h ran e).masters ≡ Some (ready w.cluster (new_master h e))

-- Commands: what one gives in the world is what it gives by itself
pub record AppCommanded (w : World) (a : ℕ) (g : App) (s : Step) (r : Result AppRole Refusal) : Type 0 where
  pub done : (role : AppRole) → r ≡ Ok role → AppActs w s.world a g g role []
  pub not_done : (f : Refusal) → r ≡ Err f → s ≡ refused w f

pub record MasterCommanded (w : World) (M : Master) (s : Step) (r : Result (MasterRole × HardState) Refusal) : Type 0 where
  pub done : (role : MasterRole) (h : HardState) → r ≡ Ok (role, h) → MasterActs w s.world M role.state role [] × (s.world.hard ≡ h)
  pub not_done : (f : Refusal) → r ≡ Err f → s ≡ refused w f

-- Of what is sent to a receiver, each entry follows on the one before by the change between them, and none is too much
pub record Leads (excess : Ledger → Option (Sum × Res)) (from to : Id) (h : List Ledger) : Type 0 where
  pub next : (n k : ℕ) → 1 ≤ n → k ≡ n + 1 → k ≤ length h
      → patched_by from (received_as to from (at_index nothing h n)) (change_body (is_agent to) (is_agent from) (dropped_by from) (at_index nothing h n) (at_index nothing h k)) ≡ Ok (received_as to from (at_index nothing h k))
  pub fit : (n : ℕ) → n ≤ length h → excess (received_as to from (at_index nothing h n)) ≡ None
