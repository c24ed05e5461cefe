-- What has to be known of the entries of a history, so that each leads to the next.
use Rattle.std.specs.Prelude.{◌≡◌, ℕ, ◌+◌, ◌≤◌, true, cond, List, length, Option, None}
use Rattle.fuxi_terms.specs.declared.vectors.Res.{Res}
use Rattle.fuxi_terms.specs.declared.vectors.Sum.{Sum}
use Rattle.fuxi_terms.specs.Limits.{most_entries}
use Rattle.fuxi_terms.specs.Keys.{key_cmp, row_cmp}
use Rattle.fuxi_terms.specs.Counts.{AreCounts, joined}
use Rattle.fuxi_terms.specs.Vectors.{fits}
use Rattle.fuxi_terms.specs.Rows.{IsRow, row_total}
use Rattle.spec_net.specs.Net.{Id, at_index}
use Rattle.spec_net.specs.Ledgers.{Ledger, nothing}
use Rattle.spec_net.specs.Channels.{master_id, agent_id, app_id, party, is_agent}
use Rattle.spec_net.specs.Sides.{greatest_from}
use Rattle.spec_refinement.specs.SeenWorlds.{received_as, has_of}
use Rattle.spec_refinement.specs.PartyJoins.{Leads}
use Rattle.fuxi_terms.specs.Padded.{padded}
use Rattle.fuxi_terms.specs.Cluster.{ClusterRecord, machine_of}
use Rattle.spec_roles.specs.Agents.{row_excess}
use Rattle.spec_roles.specs.Apps.{no_excess}
use Rattle.spec_world.specs.World.{World}

-- rows: in order with numbers in range, few keys in any two neighbours, and within the machine
pub record RowsLead (has : List ℕ) (h : List Ledger) : Type 0 where
  pub rows : (n : ℕ) → n ≤ length h → IsRow (at_index nothing h n).rows
  pub few : (n k : ℕ) → k ≡ n + 1 → k ≤ length h → length (joined row_cmp (at_index nothing h n).rows (at_index nothing h k).rows) ≤ most_entries
  pub fit : (n : ℕ) → n ≤ length h → fits (row_total (at_index nothing h n).rows) has ≡ true

-- tallies: in order with numbers in range
pub record TalliesLead (from : Id) (h : List Ledger) : Type 0 where
  pub counts : (n : ℕ) → n ≤ length h → AreCounts key_cmp (greatest_from from) (at_index nothing h n).entries

-- what a master receives is never too much
pub record ReportsFit (from : Id) (excess : Ledger → Option (Sum × Res)) (h : List Ledger) : Type 0 where
  pub fit : (n : ℕ) → n ≤ length h → excess (received_as master_id from (at_index nothing h n)) ≡ None

-- what a master finds too much of a peer: a report that does not fit the machine
abbrev pub report_excess : ClusterRecord → Id → Ledger → Option (Sum × Res)
report_excess c q l = cond (is_agent q) (row_excess (padded (machine_of c q.number).has) l) None

-- Each entry of each history follows on the one before, and none is too much: of every epoch and boot that ever ran, also of those that stopped
pub record AllLead (w : World) : Type 0 where
  pub rows : (e m : ℕ) → Leads (row_excess (has_of w m)) master_id (agent_id m) (w.net.histories (party master_id e) (agent_id m))
  pub grants : (e a : ℕ) → Leads no_excess master_id (app_id a) (w.net.histories (party master_id e) (app_id a))
  pub demands : (a b : ℕ) → Leads (report_excess w.cluster (app_id a)) (app_id a) master_id (w.net.histories (party (app_id a) b) master_id)
  pub reports : (m b : ℕ) → Leads (report_excess w.cluster (agent_id m)) (agent_id m) master_id (w.net.histories (party (agent_id m) b) master_id)
