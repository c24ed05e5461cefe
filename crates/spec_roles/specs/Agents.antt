-- An agent by itself: what it is, and what it does with what it received.
use Rattle.std.specs.Prelude.{ℕ, Bool, false, cond, nat_eq, List, [], Option, Some, None}
use Rattle.fuxi_terms.specs.declared.answers.What.{What}
use Rattle.fuxi_terms.specs.declared.vectors.Res.{Res}
use Rattle.fuxi_terms.specs.declared.vectors.Sum.{Sum}
use Rattle.fuxi_terms.specs.Keys.{RowKey}
use Rattle.fuxi_terms.specs.Vectors.{fits}
use Rattle.fuxi_terms.specs.Rows.{row_total}
use Rattle.spec_net.specs.Net.{Party, Link}
use Rattle.spec_net.specs.Ledgers.{Ledger, report_ledger}
use Rattle.spec_net.specs.Channels.{master_id, agent_id, party, is_master}
use Rattle.spec_net.specs.Sides.{Side, new_side, shown, appended, resynced_side, Parcel, turn_parcels, HeardSide, hears_side}

-- the table is the received row where the place's index is at least 1, else the carried row, which is that of the own ledger
abbrev pub table_of : Link → Ledger → Ledger → List (RowKey × ℕ)
table_of l own got = cond (nat_eq l.seq 0) own.rows got.rows

-- an agent that joins an epoch reports the table that it had
abbrev pub joined_report : ℕ → List (RowKey × ℕ) → Ledger
joined_report epoch table = report_ledger epoch table

-- its machine, what the machine has (eight places), its boot, and its side of the channel with its master
pub record AgentRole : Type 0 where
  pub machine : ℕ
  pub has : List ℕ
  pub boot : ℕ
  pub up : Side

abbrev pub new_agent : ℕ → List ℕ → ℕ → AgentRole
new_agent m has b = record { machine = m; has = has; boot = b; up = new_side }

abbrev pub agent_party : AgentRole → Party
agent_party r = party (agent_id r.machine) r.boot

abbrev pub table_by : Side → List (RowKey × ℕ)
table_by e = table_of e.link (shown e) e.got

-- a row that does not fit the machine
abbrev pub row_excess : List ℕ → Ledger → Option (Sum × Res)
row_excess has l = cond (fits (row_total l.rows) has) None (Some (record { q = row_total l.rows }, record { q = has }))

pub record AgentHeard : Type 0 where
  pub fresh : Bool
  pub what : What
  pub role : AgentRole

abbrev pub with_up : AgentRole → Side → AgentRole
with_up r e = record { machine = r.machine; has = r.has; boot = r.boot; up = e }

-- an agent that heard: it answers a new master with its report
abbrev pub agent_told : AgentRole → ℕ → HeardSide → AgentHeard
agent_told r epoch h = record { fresh = h.fresh; what = h.what; role = with_up r (cond h.fresh (appended false (joined_report epoch (table_by r.up)) h.side) h.side) }

abbrev pub agent_hears_alone : AgentRole → Parcel → AgentHeard
agent_hears_alone r x = agent_told r x.packet.from.inc (hears_side (agent_party r) (is_master x.packet.from.id) (row_excess r.has) r.up x)

-- an agent that knows no master sends nothing
abbrev pub agent_turn : AgentRole → List Parcel
agent_turn r = cond (nat_eq r.up.link.known 0) [] (turn_parcels (agent_party r) master_id r.up)

abbrev pub agent_resynced : AgentRole → AgentRole
agent_resynced r = with_up r (resynced_side r.up)
