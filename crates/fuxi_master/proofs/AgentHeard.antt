-- A core that heard an agent is in order, and knows of a report whether it is adopted now.
use Rattle.std.proofs.Common.{◌≡◌, ℕ, ◌<◌, ◌≤◌, Bool, true, false, cond, not, nat_eq, List, [], length, set, Option, Some, None, slice_get, refl, sym, ◌∙◌, ap, arith}
use Rattle.std.specs.Prelude.{◌&&◌}
use Rattle.std.specs.Option.{unwrap_or, option_map}
use Rattle.fuxi_terms.specs.Cluster.{ClusterRecord, MachineRecord, no_machine, machine_of}
use Rattle.fuxi_terms.specs.Numbers.{has_number}
use Rattle.fuxi_terms.specs.Padded.{padded}
use Rattle.fuxi_terms.specs.Rows.{IsRow, patched_row, row_total}
use Rattle.fuxi_terms.specs.Vectors.{fits}
use Rattle.fuxi_terms.proofs.Booleans.{both_true, not_false, nat_itself, not_true}
use Rattle.fuxi_terms.proofs.Lists.{all_at}
use Rattle.fuxi_terms.proofs.VectorLaws.{fits-zeros}
use Rattle.cluster_desc.specs.declared.cluster.Machine.{Machine}
use Rattle.cluster_desc.specs.Records.{machine_of as machine_seen}
use Rattle.grant_table.specs.GrantTables.{as_known}
use Rattle.failover.specs.KeptReports.{kept_entries, kept_of}
use Rattle.party_ledgers.specs.declared.packets.Heard.{Heard}
use Rattle.party_ledgers.specs.declared.packets.Packet.{Packet}
use Rattle.spec_net.specs.Net.{is_taken}
use Rattle.spec_net.specs.Ledgers.{row_ledger}
use Rattle.spec_net.specs.Channels.{master_id, agent_id}
use Rattle.spec_roles.specs.MasterRoles.{MasterRole}
use Rattle.peer_channel.specs.Bodies.{report_of}
use Rattle.peer_channel.specs.Parcels.{packet_of}
use Rattle.peer_channel.specs.CoreSides.{HearsAlike}
use Rattle.ledger_updates.specs.Projections.{row_of}
use Rattle.ledger_updates.specs.AllShown.{Down}
use Rattle.fuxi_master.specs.Cores.{CoreRecord, IsCore, IsWithin, StandsFor}
use Rattle.fuxi_master.specs.Heard.{ReportTest, excess_by, is_too_much, heard_of, with_heard, HearsAgent, IsDue}
use Rattle.fuxi_master.proofs.AgentHeardAlike.{test_of, stands_heard, heard_side, hears_agent}
use Rattle.fuxi_master.proofs.Indexed.{each_set, length_set, all_from}

-- what a machine has, in eight places
pub has_is : (ms : List MachineRecord) (m : ℕ) (seen : Machine) → option_map machine_seen (slice_get ms m) ≡ Some seen → seen.has.q ≡ padded (unwrap_or (slice_get ms m) no_machine).has
has_is ms m seen is = by (slice_get ms m) is
  where
    by : (o : Option MachineRecord) → option_map machine_seen o ≡ Some seen → seen.has.q ≡ padded (unwrap_or o no_machine).has
    by None e = cc
    by (Some k) e = let same : machine_seen k ≡ seen = cc in ap (λ (s : Machine). s.has.q) (sym same)

-- what a core tests of a report is what the master by itself tests
abbrev pub test_in : CoreRecord → Machine → Bool → Bool → ReportTest
test_in x seen reported banned = record { known = x.known; has = seen.has.q; epoch = x.epoch; reported = reported; banned = banned }

pub made_test : (x : CoreRecord) (m : ℕ) (seen : Machine) (k : ClusterRecord) (reported banned : Bool) → k ≡ x.allotment.table.cluster → option_map machine_seen (slice_get k.machines m) ≡ Some seen → reported ≡ has_number m x.reported.numbers → banned ≡ has_number m x.known.bans
    → (r : MasterRole) → StandsFor x r → test_in x seen reported banned ≡ test_of r.cluster r.state m
made_test x m seen k reported banned cluster found r_is b_is r h = λ i. record {
  known = record { jobs = sym h.stands.jobs i; bans = sym h.stands.bans i };
  has = (has_is k.machines m seen found ∙ ap (λ (c : ClusterRecord). padded (machine_of c m).has) (cluster ∙ h.stands.cluster)) i;
  epoch = sym h.stands.epoch i;
  reported = (r_is ∙ ap (has_number m) (sym h.stands.reported)) i;
  banned = (b_is ∙ ap (has_number m) (sym h.stands.bans)) i;
}

module _ (x : CoreRecord) (core : IsCore x) (m : ℕ) (old new : Down) (packet : Packet) (heard : Heard) (test : ReportTest)
    (lt : m < length x.agents) (at : slice_get x.agents m ≡ Some old) (hears : HearsAlike [] patched_row IsRow row_ledger report_of (excess_by test) packet old new heard) (to : (packet_of packet).to.id ≡ master_id)
    (outgoing : new.outgoing ≡ old.outgoing) (is : (r : MasterRole) → StandsFor x r → test ≡ test_of r.cluster r.state m) where
  abbrev after : CoreRecord
  after = record x { agents = set x.agents m new }

  each : (P : ℕ → Down → Type 0) → ((n : ℕ) (d : Down) → slice_get x.agents n ≡ Some d → P n d) → P m new → (n : ℕ) (d : Down) → slice_get after.agents n ≡ Some d → P n d
  each P h here = each_set P x.agents m new lt here (λ n d _ e. h n d e)

  pub heard_core : IsCore after
  heard_core = record {
    near = record {
      kept = record {
        epoch = core.near.kept.epoch;
        numbers = core.near.kept.numbers;
        jobs = core.near.kept.jobs;
        agents = length_set x.agents m new ∙ core.near.kept.agents;
        apps = core.near.kept.apps;
        slots = core.near.kept.slots;
        size = core.near.kept.size;
        rising = core.near.kept.rising;
        below = core.near.kept.below;
        agents_own = all_from (λ (d : Down). d.outgoing.own ≡ x.epoch) after.agents (each (λ _ (d : Down). d.outgoing.own ≡ x.epoch)
            (λ n d e. all_at (λ (d : Down). d.outgoing.own ≡ x.epoch) x.agents n d core.near.kept.agents_own e)
            (ap (λ o. o.own) outgoing ∙ all_at (λ (d : Down). d.outgoing.own ≡ x.epoch) x.agents m old core.near.kept.agents_own at));
        apps_own = core.near.kept.apps_own;
      };
      waits = core.near.waits;
      up = core.near.up;
      touched = core.near.touched;
      rows = each (λ n (d : Down). d.outgoing.present ≡ row_of (as_known x.allotment.table.jobs) n x.allotment.table.entries) core.near.rows (ap (λ o. o.present) outgoing ∙ core.near.rows m old at);
      grants = core.near.grants;
      role = with_heard core.near.role (agent_id m) (heard_of core.near.role (agent_id m) packet);
      stands = stands_heard x m old new packet heard test lt at hears to core.near.role core.near.stands (is core.near.role core.near.stands);
    };
    boots = record { known = core.boots.known; unknown = core.boots.unknown };
    told = record { told = core.told.told; credits = core.told.credits };
  }

  pub heard_within : (n : ℕ) → IsWithin n x → IsWithin n after
  heard_within n w = record {
    agents = all_from (λ (d : Down). d.outgoing.last ≤ n) after.agents (each (λ _ (d : Down). d.outgoing.last ≤ n)
        (λ k d e. all_at (λ (d : Down). d.outgoing.last ≤ n) x.agents k d w.agents e)
        (let last : new.outgoing.last ≡ old.outgoing.last = ap (λ o. o.last) outgoing in let le = all_at (λ (d : Down). d.outgoing.last ≤ n) x.agents m old w.agents at in omega (arith, last, le)));
    apps = w.apps;
    turns = w.turns;
  }

  module _ (due : Bool) (made : due ≡ (is_taken heard.what && (nat_eq new.incoming.received.epoch x.epoch && not test.reported))) where
    pub heard_alike : (r : MasterRole) → StandsFor x r → HearsAgent m packet heard due after r
    heard_alike r h = hears_agent x m old new packet heard test lt at hears to r h (is r h) due made

    pub heard_due : due ≡ true → IsDue m after
    heard_due d =
        let r = core.near.role in
        let h = core.near.stands in
        let same = is r h in
        let parts = both_true (is_taken heard.what) (nat_eq new.incoming.received.epoch x.epoch && not test.reported) (sym made ∙ d) in
        let now = both_true (nat_eq new.incoming.received.epoch x.epoch) (not test.reported) parts.1 in
        let unreported : test.reported ≡ false = not_true test.reported now.1 in
        let got = (heard_side x m old new packet heard test lt at hears to r h same).side.got in
        let none = (heard_alike r h).fits d in
        let little : excess_by test (report_of new.incoming.received) ≡ None = (λ i. excess_by (same i) (sym got i)) ∙ none in
        record {
          unreported = sym (ap (λ (t : ReportTest). t.reported) same ∙ ap (has_number m) h.stands.reported) ∙ unreported;
          fits = λ d e. each_set (λ n (d : Down). nat_eq m n ≡ true → fits (row_total (kept_of x.known n d.incoming.received.table)) (padded (machine_of x.allotment.table.cluster n).has) ≡ true) x.agents m new lt
              (λ _. fits_kept r h same (not_much (is_too_much test (report_of new.incoming.received)) _ little) now.0 unreported)
              (λ n d other e t. absurd (let f : true ≡ false = sym t ∙ other in cc)) m d e (nat_itself m);
        }
      where
        not_much : {A : Type 0} (b : Bool) (v : A) → cond b (Some v) None ≡ None → b ≡ false
        not_much true v e = cc
        not_much false v e = refl

        fits_kept : (r : MasterRole) → StandsFor x r → test ≡ test_of r.cluster r.state m → is_too_much test (report_of new.incoming.received) ≡ false → nat_eq new.incoming.received.epoch x.epoch ≡ true → test.reported ≡ false
            → fits (row_total (kept_of x.known m new.incoming.received.table)) (padded (machine_of x.allotment.table.cluster m).has) ≡ true
        fits_kept r h same little now unreported =
            let k : ReportTest = record { known = x.known; has = padded (machine_of x.allotment.table.cluster m).has; epoch = x.epoch; reported = false; banned = has_number m x.known.bans } in
            let path : test ≡ k = same ∙ (λ i. record {
              known = record { jobs = h.stands.jobs i; bans = h.stands.bans i };
              has = padded (machine_of (sym h.stands.cluster i) m).has;
              epoch = h.stands.epoch i;
              reported = (ap (λ (t : ReportTest). t.reported) (sym same) ∙ unreported) i;
              banned = has_number m (h.stands.bans i);
            }) in
            let rows = kept_entries x.known.jobs new.incoming.received.table in
            let has = padded (machine_of x.allotment.table.cluster m).has in
            let left : (not (has_number m x.known.bans) && not (fits (row_total rows) has)) ≡ false =
            sym (ap (λ b. (b && true) && (not (has_number m x.known.bans) && not (fits (row_total rows) has))) now) ∙ ap (λ t. is_too_much t (report_of new.incoming.received)) (sym path) ∙ little in
            elim (has_number m x.known.bans) as (λ b. (not b && not (fits (row_total rows) has)) ≡ false → fits (row_total (cond b [] rows)) has ≡ true) [
              | true ↦ λ _. fits-zeros 8 has
              | false ↦ λ e. not_false (fits (row_total rows) has) e
            ] left
