-- What an agent keeps, and the agent by itself that it stands for.
use Rattle.std.specs.Prelude.{◌≡◌, ℕ, ◌<◌, ◌≤◌, true, cond, nat_eq, List}
use Rattle.fuxi_terms.specs.Keys.{RowKey}
use Rattle.fuxi_terms.specs.Limits.{most_machines}
use Rattle.fuxi_terms.specs.Rows.{row_total}
use Rattle.fuxi_terms.specs.Vectors.{fits}
use Rattle.full_sync.specs.Turns.{Endpoint}
use Rattle.party_ledgers.specs.Joins.{JoinRecord, no_join, IsJoin}
use Rattle.party_ledgers.specs.PartyDifferences.{replaced}
use Rattle.spec_net.specs.Ledgers.{row_ledger}
use Rattle.spec_net.specs.Sides.{Side}
use Rattle.spec_roles.specs.Agents.{AgentRole}
use Rattle.peer_channel.specs.Bodies.{report_of}
use Rattle.peer_channel.specs.CoreSides.{IsSide}

-- both directions of its channel: it sends reports and receives rows
abbrev pub Up : Type 0
Up = Endpoint JoinRecord JoinRecord (List (RowKey × ℕ))

-- its machine, what the machine has, its channel, and the number of its steps
pub record AgentCore : Type 0 where
  pub machine : ℕ
  pub has : List ℕ
  pub up : Up
  pub steps : ℕ

-- the last report has the epoch that is known; both rows that the table may be fit the machine
pub record IsAgentCore (a : AgentCore) : Type 0 where
  pub joined : a.up.outgoing.present.epoch ≡ a.up.incoming.place.inc
  pub received : fits (row_total a.up.incoming.received) a.has ≡ true
  pub carried : fits (row_total a.up.outgoing.present.table) a.has ≡ true
  pub steps : a.up.outgoing.last ≤ a.steps
  pub machine : a.machine < most_machines
  pub boot : 0 < a.up.outgoing.own

-- the received row where one came, else the row that it carries
abbrev pub table_in : Up → List (RowKey × ℕ)
table_in d = cond (nat_eq d.incoming.place.seq 0) d.outgoing.present.table d.incoming.received

abbrev pub IsUp : Up → ℕ → Side → Type 0
IsUp d boot e = IsSide no_join replaced IsJoin report_of row_ledger d boot e

pub record StandsFor (a : AgentCore) (r : AgentRole) : Type 0 where
  pub machine : a.machine ≡ r.machine
  pub has : a.has ≡ r.has
  pub up : IsUp a.up r.boot r.up
