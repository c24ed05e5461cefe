-- The written world as one party sees it: its sides of the channels, with the ledgers that it has received.
use Rattle.std.specs.Prelude.{ℕ, cond, List}
use Rattle.fuxi_terms.specs.Padded.{padded}
use Rattle.spec_net.specs.Net.{Net, Party, Id, Link, Packet, at_index}
use Rattle.spec_net.specs.Ledgers.{Ledger, nothing, row_ledger, report_ledger, tally_ledger}
use Rattle.spec_net.specs.Channels.{master_id, agent_id, app_id, party, is_agent, body_of}
use Rattle.fuxi_terms.specs.Cluster.{machine_of}
use Rattle.spec_world.specs.World.{World, Agent, App}
use Rattle.spec_roles.specs.MasterSteps.{master_party}
use Rattle.spec_net.specs.Sides.{Side, Parcel}
use Rattle.spec_roles.specs.Agents.{AgentRole}
use Rattle.spec_roles.specs.Masters.{Master}
use Rattle.spec_roles.specs.Apps.{AppRole}
use Rattle.spec_roles.specs.MasterRoles.{MasterRole}

-- what is received of a ledger: rows by an agent, a head and rows of an agent, else a head and entries
abbrev pub received_as : Id → Id → Ledger → Ledger
received_as to from l = cond (is_agent to) (row_ledger l.rows) (cond (is_agent from) (report_ledger l.head l.rows) (tally_ledger l.head l.entries))

-- what p has received of q at a link: the entry at its place, as it is received
abbrev pub got_at : Net Ledger → Party → Id → Link → Ledger
got_at net p q l = received_as p.id q (at_index nothing (net.histories (party q l.known) p.id) l.seq)

abbrev pub side_at : Net Ledger → Party → Id → Link → Side
side_at net p q l = record { link = l; got = got_at net p q l; sent = net.histories p q }

abbrev pub side_of : Net Ledger → Party → Id → Side
side_of net p q = side_at net p q (net.links p q)

-- a packet with what it holds
abbrev pub parcel_of : Net Ledger → Packet → Parcel
parcel_of net x = record { packet = x; body = body_of net x.kind x }

abbrev pub has_of : World → ℕ → List ℕ
has_of w m = padded (machine_of w.cluster m).has

abbrev pub agent_seen : World → ℕ → Agent → AgentRole
agent_seen w m g = record { machine = m; has = has_of w m; boot = g.boot; up = side_of w.net (party (agent_id m) g.boot) master_id }

abbrev pub app_seen : World → ℕ → App → AppRole
app_seen w a g = record { job = a; units = g.units; cluster = w.cluster; boot = g.boot; carried = g.carried; up = side_of w.net (party (app_id a) g.boot) master_id }

abbrev pub sides_of : Net Ledger → Party → Id → Side
sides_of net p q = side_of net p q

abbrev pub master_seen : World → Master → MasterRole
master_seen w M = record { cluster = w.cluster; state = M; sides = sides_of w.net (master_party M) }
