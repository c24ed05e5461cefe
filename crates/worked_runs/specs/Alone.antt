-- Small runs of an agent, an application and a master by themselves.
use Rattle.std.specs.Prelude.{◌≡◌, ℕ, pos, negsuc, true, false, List, [], ◌∷◌, map, Result, Ok, Err}
use Rattle.fuxi_terms.specs.declared.answers.LedgerFault.TheVariants.{Below}
use Rattle.fuxi_terms.specs.declared.answers.What.TheVariants.{Ack as Acked, Taken, Exceeds, Ledger}
use Rattle.fuxi_terms.specs.Keys.{RowKey}
use Rattle.fuxi_terms.specs.Cluster.{ClusterRecord}
use Rattle.fuxi_terms.specs.TallyKeys.{reported_key, count_key, want_key}
use Rattle.fuxi_terms.specs.Tables.{spot}
use Rattle.spec_net.specs.Net.{Id, Kind, Ack, Delta, Full}
use Rattle.spec_net.specs.Ledgers.{Body, Empty, Rows, RowChanges, Report, Tally, row_ledger}
use Rattle.spec_net.specs.Channels.{master_id, agent_id, app_id, party}
use Rattle.spec_net.specs.Sides.{Parcel}
use Rattle.spec_roles.specs.Refusals.{Refusal, NotUsable}
use Rattle.spec_roles.specs.HardState.{HardState}
use Rattle.spec_roles.specs.Agents.{AgentHeard, new_agent, table_by, agent_hears_alone, agent_turn}
use Rattle.spec_roles.specs.Apps.{AppRole, AppHeard, GivesBack, new_app, names, held_by, app_hears_alone, commands_alone, app_turn}
use Rattle.spec_roles.specs.MasterRoles.{MasterRole, MasterTold, Comes, HeardAs, MasterStepped, master_steps_alone, master_started, master_turn}
use Rattle.worked_runs.specs.RunWords.{cluster, machine, group, unit, job}

-- one resource in eight places
abbrev pub only : ℕ → List ℕ
only n = n ∷ 0 ∷ 0 ∷ 0 ∷ 0 ∷ 0 ∷ 0 ∷ 0 ∷ []

abbrev pub key : RowKey
key = record { job = 0; unit = 0; size = only 100 }

-- An agent of a machine that has 1000. A first row is taken, and joins the epoch with an empty table; a change follows; one that is too much and
-- one that falls below 0 change nothing
abbrev pub to_agent : ℕ → ℕ → Kind → ℕ → Body → Parcel
to_agent epoch boot k n b = record { packet = record { from = party master_id epoch; to = party (agent_id 0) boot; kind = k; inc = epoch; seq = n }; body = b }

abbrev pub agent_first : AgentHeard
agent_first = agent_hears_alone (new_agent 0 (only 1000) 1) (to_agent 1 1 Full 1 (Rows ((key, 4) ∷ [])))

abbrev pub agent_second : AgentHeard
agent_second = agent_hears_alone agent_first.role (to_agent 1 1 Delta 2 (RowChanges ((key, pos 2) ∷ [])))

abbrev pub agent_too_much : AgentHeard
agent_too_much = agent_hears_alone agent_second.role (to_agent 1 1 Delta 3 (RowChanges ((key, pos 5) ∷ [])))

abbrev pub agent_below : AgentHeard
agent_below = agent_hears_alone agent_too_much.role (to_agent 1 1 Delta 3 (RowChanges ((key, negsuc 6) ∷ [])))

-- an Ack of the next master: the table is carried and reported
abbrev pub agent_joins : AgentHeard
agent_joins = agent_hears_alone agent_below.role (to_agent 2 0 Ack 0 Empty)

pub record AgentAlone : Type 0 where
  pub first : (agent_first.fresh ≡ true) × (agent_first.what ≡ Taken)
  pub second : table_by agent_second.role.up ≡ (key, 6) ∷ []
  pub too_much : agent_too_much.what ≡ Exceeds (record { q = only 1100 }) (record { q = only 1000 })
  pub below : agent_below.what ≡ Ledger (Below (record { what = 0; unit = 0; number = 0 }) 6 (negsuc 6))
  pub stays : table_by agent_below.role.up ≡ (key, 6) ∷ []
  pub joins : (agent_joins.fresh ≡ true) × (agent_joins.what ≡ Acked) × (table_by agent_joins.role.up ≡ (key, 6) ∷ [])
  pub turn : map (λ (x : Parcel). x.body) (agent_turn agent_joins.role) ≡ Report 2 ((key, 6) ∷ []) ∷ Empty ∷ []

-- An application. Four grants of which three are given back; then a new master
abbrev pub to_app : ℕ → Kind → ℕ → Body → Parcel
to_app epoch k n b = record { packet = record { from = party master_id epoch; to = party (app_id 0) 1; kind = k; inc = epoch; seq = n }; body = b }

abbrev pub alone : ClusterRecord
alone = cluster 1 (machine 0 (1000 ∷ []) ∷ []) []

abbrev pub app_granted : AppHeard
app_granted = app_hears_alone (new_app 0 1 alone 1) (to_app 1 Full 1 (Tally 1 ((reported_key 0, 1) ∷ (count_key 0 0, 4) ∷ [])))

abbrev pub done_or : AppRole → Result AppRole Refusal → AppRole
done_or r (Ok x) = x
done_or r (Err e) = r

abbrev pub app_given : AppRole
app_given = done_or app_granted.role (commands_alone app_granted.role (GivesBack 0 0 3))

-- an Ack of the next master: what is held is carried, and nothing of it may be given back
abbrev pub app_joins : AppHeard
app_joins = app_hears_alone app_given (to_app 2 Ack 0 Empty)

pub record AppAlone : Type 0 where
  pub granted : (app_granted.what ≡ Taken) × (held_by app_granted.role 0 0 ≡ 4)
  pub given : held_by app_given 0 0 ≡ 1
  pub too_many : commands_alone app_given (GivesBack 0 0 2) ≡ Err (NotUsable 1)
  pub joins : (app_joins.what ≡ Acked) × (app_joins.fresh ≡ true) × (held_by app_joins.role 0 0 ≡ 1)
  pub carried : (names app_joins.role.up.got 0 ≡ false) × (commands_alone app_joins.role (GivesBack 0 0 1) ≡ Err (NotUsable 0))
  pub turn : map (λ (x : Parcel). x.body) (app_turn app_joins.role) ≡ Tally 2 [] ∷ Empty ∷ []

-- A master of one machine and one job. The report is adopted, the demand is met, and a second report changes nothing
abbrev pub small : ClusterRecord
small = cluster 1 (machine 0 (250 ∷ []) ∷ []) (group (1000 ∷ []) (1000 ∷ []) ∷ [])

abbrev pub to_master_of : Id → ℕ → Kind → ℕ → Body → MasterTold
to_master_of from boot k n b = Comes (record { packet = record { from = party from boot; to = party master_id 1; kind = k; inc = boot; seq = n }; body = b })

abbrev pub hard : HardState
hard = record { jobs = record { job = job 0 0 (unit 5 (only 100) ∷ []); ended = false } ∷ []; bans = []; fence = 1; records = 2 }

abbrev pub master_begun : MasterRole
master_begun = master_started small hard 1

abbrev pub master_too_much : MasterStepped
master_too_much = master_steps_alone master_begun (to_master_of (agent_id 0) 1 Full 1 (Report 1 ((key, 3) ∷ [])))

abbrev pub master_reported : MasterStepped
master_reported = master_steps_alone master_begun (to_master_of (agent_id 0) 1 Full 1 (Report 1 []))

abbrev pub master_asked : MasterStepped
master_asked = master_steps_alone master_reported.role (to_master_of (app_id 0) 1 Full 1 (Tally 1 ((want_key 0, 4) ∷ [])))

abbrev pub master_again : MasterStepped
master_again = master_steps_alone master_asked.role (to_master_of (agent_id 0) 2 Full 1 (Report 1 ((key, 1) ∷ [])))

pub record MasterAlone : Type 0 where
  pub begun : master_begun.state.serving ≡ false
  pub too_much : (master_too_much.answer ≡ HeardAs true (Exceeds (record { q = only 300 }) (record { q = only 250 }))) × (master_too_much.role.state.reported ≡ [])
  pub reported : (master_reported.answer ≡ HeardAs true Taken) × (master_reported.role.state.serving ≡ true)
  pub asked : (master_asked.role.state.table ≡ (spot 0 0 0, 2) ∷ []) × (master_asked.role.state.line ≡ (0, 0) ∷ [])
  pub rows : (master_asked.role.sides (agent_id 0)).sent ≡ row_ledger [] ∷ row_ledger ((key, 2) ∷ []) ∷ []
  pub again : (master_again.answer ≡ HeardAs true Taken) × (master_again.role.state.table ≡ (spot 0 0 0, 2) ∷ [])
  pub turn : map (λ (x : Parcel). x.body) (master_turn master_again.role) ≡ Rows ((key, 2) ∷ []) ∷ Empty ∷ Tally 1 ((reported_key 0, 1) ∷ (count_key 0 0, 2) ∷ []) ∷ Empty ∷ []
