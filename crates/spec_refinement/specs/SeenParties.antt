-- The parties of a world by kind and number, each as it sees the world, and what it is that one of them acts.
use Rattle.std.specs.Prelude.{◌≡◌, false, ℕ, ◌+◌, ◌++◌, ◌∷◌, map, Bool, nat_eq, ◌&&◌, List, [], length, drop, Option, Some, None, Result, Ok, Err}
use Rattle.std.specs.Option.{option_map}
use Rattle.std.specs.Ordering.{nat_cmp}
use Rattle.std.specs.FinMap.Entries.{find}
use Rattle.fuxi_terms.specs.declared.answers.What.{What}
use Rattle.fuxi_terms.specs.declared.answers.What.TheVariants.{Stranger, Stale, Ack, NotMine, Old, Gap, Taken, Ledger, Exceeds}
use Rattle.fuxi_terms.specs.Jobs.{unit_count}
use Rattle.spec_net.specs.Net.{Packet, Heard}
use Rattle.spec_net.specs.Channels.{master_id, agent_id, app_id, party}
use Rattle.spec_net.specs.Sides.{Parcel}
use Rattle.spec_roles.specs.Refusals.{Refusal, NotRunning}
use Rattle.spec_roles.specs.HardState.{HardState}
use Rattle.spec_roles.specs.MasterSteps.{MasterCommand}
use Rattle.spec_roles.specs.MasterRoles.{MasterRole, master_hears_alone, master_turn, master_resynced, master_commanded, master_started, report_excess}
use Rattle.spec_roles.specs.Agents.{AgentRole, new_agent, agent_hears_alone, agent_turn, agent_resynced}
use Rattle.spec_roles.specs.Apps.{AppRole, AppCommand, new_app, app_hears_alone, app_turn, app_resynced, commands_alone}
use Rattle.spec_world.specs.World.{World, Step, refused}
use Rattle.spec_world.specs.Outputs.{Line, sent_lines}
use Rattle.spec_world.specs.Events.{addressed, heard_by, turn_master, turn_agent, turn_app, resync_master, resync_agent, resync_app, asks, commanded, agent_started, app_started}
use Rattle.spec_refinement.specs.SeenWorlds.{agent_seen, app_seen, master_seen, parcel_of, has_of}
use Rattle.spec_refinement.specs.PartyJoins.{master_starts}

-- the masters by epoch, the agents by machine, the applications by job
pub data Kind : Type 0 where
  Masters : Kind
  Agents : Kind
  Apps : Kind

abbrev pub kind_number : Kind → ℕ
kind_number Masters = 1
kind_number Agents = 2
kind_number Apps = 3

abbrev pub is_same : Kind → ℕ → Kind → ℕ → Bool
is_same k n j m = nat_eq (kind_number k) (kind_number j) && nat_eq n m

-- whom a packet is for: a master of the epoch that it names
abbrev pub IsFor : Packet → Kind → ℕ → Type 0
IsFor x Masters e = (x.to.id ≡ master_id) × (x.to.inc ≡ e)
IsFor x Agents m = x.to.id ≡ agent_id m
IsFor x Apps a = x.to.id ≡ app_id a

-- the last boot of a number; a master has none
abbrev pub boot_of : World → Kind → ℕ → ℕ
boot_of w Masters e = 0
boot_of w Agents m = w.boots (agent_id m)
boot_of w Apps a = w.boots (app_id a)

-- A party by itself
pub data Role : Type 0 where
  OfMaster : (master : MasterRole) → Role
  OfAgent : (agent : AgentRole) → Role
  OfApp : (app : AppRole) → Role

-- what it makes of a packet
pub record HeardAlone : Type 0 where
  pub fresh : Bool
  pub what : What
  pub role : Role

abbrev pub hears : Role → Parcel → HeardAlone
hears (OfMaster r) x = let h = master_hears_alone (report_excess r.cluster r.state) r x in record { fresh = h.fresh; what = h.what; role = OfMaster h.role }
hears (OfAgent r) x = let h = agent_hears_alone r x in record { fresh = h.fresh; what = h.what; role = OfAgent h.role }
hears (OfApp r) x = let h = app_hears_alone r x in record { fresh = h.fresh; what = h.what; role = OfApp h.role }

-- what it sends in one turn
abbrev pub turn : Role → List Parcel
turn (OfMaster r) = master_turn r
turn (OfAgent r) = agent_turn r
turn (OfApp r) = app_turn r

abbrev pub resynced : Role → Role
resynced (OfMaster r) = OfMaster (master_resynced r)
resynced (OfAgent r) = OfAgent (agent_resynced r)
resynced (OfApp r) = OfApp (app_resynced r)

-- The party of a kind and number that runs in a world, with what it sees there
abbrev pub seen : World → Kind → ℕ → Option Role
seen w Masters e = option_map (λ M. OfMaster (master_seen w M)) (find nat_cmp e w.masters)
seen w Agents m = option_map (λ g. OfAgent (agent_seen w m g)) (find nat_cmp m w.agents)
seen w Apps a = option_map (λ g. OfApp (app_seen w a g)) (find nat_cmp a w.apps)

-- One party acts: it is then this one, and these packets were sent; all others see what they saw, and have the boots that they had
pub record Acts (w w' : World) (k : Kind) (n : ℕ) (r : Role) (sent : List Parcel) : Type 0 where
  pub now : seen w' k n ≡ Some r
  pub others : (j : Kind) (m : ℕ) → is_same k n j m ≡ false → seen w' j m ≡ seen w j m
  pub boots : (j : Kind) (m : ℕ) → is_same k n j m ≡ false → boot_of w' j m ≡ boot_of w j m
  pub packets : map (parcel_of w'.net) w'.net.packets ≡ map (parcel_of w.net) w.net.packets ++ sent
  pub cluster : w'.cluster ≡ w.cluster
  pub events : w'.events ≡ w.events

-- and none starts, and nothing is written
pub record Keeps (w w' : World) : Type 0 where
  pub boots : w'.boots ≡ w.boots
  pub hard : w'.hard ≡ w.hard

-- the words of the rules of hearing; a ledger that refuses a change or that is too much is none
abbrev pub IsRuled : What → Type 0
IsRuled Stranger = Unit {0}
IsRuled Stale = Unit {0}
IsRuled Ack = Unit {0}
IsRuled NotMine = Unit {0}
IsRuled Old = Unit {0}
IsRuled Gap = Unit {0}
IsRuled Taken = Unit {0}
IsRuled (Ledger fault) = ⊥
IsRuled (Exceeds total has) = ⊥

-- A packet comes to a party that runs, which hears it as the world hears it
pub record HearsIn (w w' : World) (heard : Option Heard) (k : Kind) (n : ℕ) (h : HeardAlone) : Type 0 where
  pub acts : Acts w w' k n h.role []
  pub keeps : Keeps w w'
  pub word : Heard
  pub answers : heard ≡ Some word
  pub fresh : h.fresh ≡ word.fresh
  pub says : h.what ≡ word.what
  pub ruled : IsRuled h.what

-- or to none
pub record LostIn (w w' : World) (heard : Option Heard) : Type 0 where
  pub answers : heard ≡ None
  pub same : w' ≡ w

abbrev pub ComesTo : World → Kind → ℕ → Packet → Option Role → Type 0
ComesTo w k n x None = LostIn w (addressed w x) (heard_by w x)
ComesTo w k n x (Some r) = HearsIn w (addressed w x) (heard_by w x) k n (hears r (parcel_of w.net x))

-- A step of a party that runs: it is then this one, these packets were sent, and these lines printed
pub record StepsIn (w : World) (k : Kind) (n : ℕ) (r : Role) (sent : List Parcel) (s : Step) (printed : List Line) : Type 0 where
  pub acts : Acts w s.world k n r sent
  pub keeps : Keeps w s.world
  pub lines : s.lines ≡ printed

-- A turn, of which each packet is a line
abbrev pub turn_of : World → Kind → ℕ → Step
turn_of w Masters e = turn_master w e
turn_of w Agents m = turn_agent w m
turn_of w Apps a = turn_app w a

abbrev pub turn_lines : World → Step → List Line
turn_lines w s = sent_lines s.world.net (length w.net.packets + 1) (drop (length w.net.packets) s.world.net.packets)

abbrev pub TurnsAs : World → Kind → ℕ → Step → Option Role → Type 0
TurnsAs w k n s None = s ≡ refused w NotRunning
TurnsAs w k n s (Some r) = StepsIn w k n r (turn r) s (turn_lines w s)

abbrev pub TakesTurn : World → Kind → ℕ → Option Role → Type 0
TakesTurn w k n o = TurnsAs w k n (turn_of w k n) o

-- A resync, which prints nothing
abbrev pub resync_of : World → Kind → ℕ → Step
resync_of w Masters e = resync_master w e
resync_of w Agents m = resync_agent w m
resync_of w Apps a = resync_app w a

abbrev pub ResyncsAs : World → Kind → ℕ → Step → Option Role → Type 0
ResyncsAs w k n s None = s ≡ refused w NotRunning
ResyncsAs w k n s (Some r) = StepsIn w k n (resynced r) [] s []

abbrev pub Resyncs : World → Kind → ℕ → Option Role → Type 0
Resyncs w k n o = ResyncsAs w k n (resync_of w k n) o

-- A command of an application, which is done and prints nothing, or is refused
abbrev pub AsksAs : World → ℕ → Step → Result AppRole Refusal → Type 0
AsksAs w a s (Ok r) = StepsIn w Apps a (OfApp r) [] s []
AsksAs w a s (Err f) = s ≡ refused w f

abbrev pub Asks : World → ℕ → AppCommand → Option Role → Type 0
Asks w a x None = asks w a x ≡ refused w NotRunning
Asks w a x (Some (OfMaster r)) = ⊥
Asks w a x (Some (OfAgent r)) = ⊥
Asks w a x (Some (OfApp r)) = AsksAs w a (asks w a x) (commands_alone r x)

-- A command of a master, which is done with the hard state that is written and prints nothing, or is refused
pub record GovernsIn (w : World) (e : ℕ) (r : MasterRole) (h : HardState) (s : Step) : Type 0 where
  pub acts : Acts w s.world Masters e (OfMaster r) []
  pub hard : s.world.hard ≡ h
  pub lines : s.lines ≡ []

abbrev pub GovernsAs : World → ℕ → Step → Result (MasterRole × HardState) Refusal → Type 0
GovernsAs w e s (Ok p) = GovernsIn w e p.0 p.1 s
GovernsAs w e s (Err f) = s ≡ refused w f

abbrev pub Governs : World → ℕ → MasterCommand → Option Role → Type 0
Governs w e x None = commanded w e x ≡ refused w NotRunning
Governs w e x (Some (OfMaster r)) = GovernsAs w e (commanded w e x) (master_commanded r w.hard x)
Governs w e x (Some (OfAgent r)) = ⊥
Governs w e x (Some (OfApp r)) = ⊥

-- A start in a boot, or of a master in an epoch, with the hard state that the start has written
pub record Starts (w w' : World) (k : Kind) (n b : ℕ) (r : Role) : Type 0 where
  pub acts : Acts w w' k n r []
  pub boot : boot_of w' k n ≡ b

abbrev pub agent_starting : World → ℕ → ℕ → Role
agent_starting w m b = OfAgent (new_agent m (has_of w m) b)

abbrev pub app_starting : World → ℕ → ℕ → Role
app_starting w a b = OfApp (new_app a (unit_count w.hard.jobs a) w.cluster b)

abbrev pub master_after : World → HardState → ℕ → World
master_after w h e = master_starts w h (w.ran ++ party master_id e ∷ []) e

abbrev pub AgentStarts : World → ℕ → ℕ → Type 0
AgentStarts w m b = Starts w (agent_started w m b) Agents m b (agent_starting w m b)

abbrev pub AppStarts : World → ℕ → ℕ → Type 0
AppStarts w a b = Starts w (app_started w a b) Apps a b (app_starting w a b)

abbrev pub MasterStarts : World → HardState → ℕ → Type 0
MasterStarts w h e = Starts w (master_after w h e) Masters e 0 (OfMaster (master_started w.cluster h e))
