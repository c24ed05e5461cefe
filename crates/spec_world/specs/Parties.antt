-- What the parties make of packets and what masters do at the end of a step, put into the world: each rule is that of the party by itself, with
-- what it received seen in the net.
use Rattle.std.specs.Prelude.{ℕ, cond, List, length, Some}
use Rattle.std.specs.Ordering.{nat_cmp}
use Rattle.std.specs.FinMap.Entries.{put}
use Rattle.fuxi_terms.specs.Cluster.{ClusterRecord}
use Rattle.fuxi_terms.specs.Keys.{RowKey}
use Rattle.fuxi_terms.specs.Lists.{below}
use Rattle.spec_net.specs.Net.{Net, Party, Id, Packet, Heard, is_taken, comes, heard_of}
use Rattle.spec_net.specs.Ledgers.{Ledger}
use Rattle.spec_net.specs.Channels.{master_id, agent_id, app_id, party, is_master, view, present, to_master, Offer, publish, content}
use Rattle.spec_roles.specs.Masters.{Master}
use Rattle.spec_roles.specs.MasterSteps.{master_party, projected, talks, offers_of, ready, said, told_of, adopted_of}
use Rattle.spec_roles.specs.Agents.{table_of, joined_report}
use Rattle.spec_roles.specs.Apps.{Carried, usable_of, carried_in, held_of, carried_one, carry_of, joined_demand}
use Rattle.spec_world.specs.World.{World, Agent, App}

-- a party hears a packet of a master; where it meets a new one, it answers with this ledger
abbrev pub joined : Net Ledger → Party → Packet → Ledger → Net Ledger
joined net p x ledger = let n = comes net p is_master (Some x) in
    cond (heard_of net p is_master x).fresh (publish n p (to_master ledger)) n

-- Agents
abbrev pub agent_table : Net Ledger → Party → List (RowKey × ℕ)
agent_table net p = table_of (net.links p master_id) (present net p master_id) (view net p master_id)

abbrev pub agent_hears : World → ℕ → Agent → Packet → World
agent_hears w m g x = let p = party (agent_id m) g.boot in
    record w { net = joined w.net p x (joined_report x.from.inc (agent_table w.net p)) }

-- Applications
abbrev pub usable : Net Ledger → Party → ℕ → ℕ → ℕ
usable net p u m = usable_of (view net p master_id) (present net p master_id) p.inc u m

abbrev pub carried_at : App → ℕ → ℕ → ℕ
carried_at g u m = carried_in g.carried u m

abbrev pub app_held : Net Ledger → Party → App → ℕ → ℕ → ℕ
app_held net p g u m = held_of (view net p master_id) (present net p master_id) p.inc g.carried u m

abbrev pub carry_one : Net Ledger → Party → ℕ → ℕ → Carried
carry_one net p units m = carried_one (net.links p master_id) (view net p master_id) (present net p master_id) p.inc units m

abbrev pub carry : Net Ledger → Party → ℕ → List ℕ → List (ℕ × Carried) → List (ℕ × Carried)
carry net p units ms carried = carry_of (net.links p master_id) (view net p master_id) (present net p master_id) p.inc units ms carried

abbrev pub app_hears : World → ℕ → App → Packet → World
app_hears w a g x = let p = party (app_id a) g.boot in
    record w {
      apps = put nat_cmp a (record g { carried = cond (heard_of w.net p is_master x).fresh (carry w.net p g.units (below (length w.cluster.machines)) g.carried) g.carried }) w.apps;
      net = joined w.net p x (joined_demand x.from.inc (present w.net p master_id));
    }

-- Masters. What a peer should hold, by the incarnation that is known of it
abbrev pub projection : Net Ledger → Master → Id → Ledger
projection net M q = projected M q (net.links (master_party M) q).known

abbrev pub offers : ClusterRecord → Net Ledger → Master → List Id → List Offer
offers c net M even_if_equal = offers_of c (λ q. (net.links (master_party M) q).known) M even_if_equal

-- the end of a step: each projection that differs from the last entry of its history is appended, and those of the even_if_equal peers in any case
abbrev pub end_step : World → Net Ledger → Master → List Id → World
end_step w net M even_if_equal = let R = ready w.cluster M in
    record w { masters = put nat_cmp R.epoch R w.masters; net = publish net (master_party R) (offers w.cluster net R even_if_equal) }

-- what a packet says to a master: of a demand what is there
abbrev pub received : ClusterRecord → Master → Net Ledger → Packet → Ledger
received c M net x = said c M x.from.id (content net x)

abbrev pub told : Master → Heard → Id → Ledger → Master
told M h from l = told_of M h.fresh (is_taken h.what) from l

-- the machine whose report is adopted has its row appended in any case
abbrev pub adopted_now : Master → Heard → Id → Ledger → List Id
adopted_now M h from l = adopted_of M (is_taken h.what) from l

abbrev pub master_hears : World → Master → Packet → World
master_hears w M x =
    let h = heard_of w.net (master_party M) (talks w.cluster M) x in
    let l = received w.cluster M w.net x in
    cond (talks w.cluster M x.from.id)
    (end_step w (comes w.net (master_party M) (talks w.cluster M) (Some x)) (told M h x.from.id l) (adopted_now M h x.from.id l))
    w
