use Rattle.std.proofs.Common.{◌≡◌, ◌<◌, cond, not, nat_eq, length, refl, sym, ◌∙◌, ap, subst, arith}
use Rattle.std.specs.Prelude.{◌&&◌}
use Rattle.std.specs.List.{AllByRecursion}
use Rattle.std.proofs.lemmas.Option.{slice_get_read}
use Rattle.fuxi_terms.specs.Counts.{count}
use Rattle.fuxi_terms.specs.Keys.{spot_cmp}
use Rattle.fuxi_terms.specs.Numbers.{has_number}
use Rattle.fuxi_terms.specs.Padded.{padded}
use Rattle.fuxi_terms.specs.Cluster.{ClusterRecord, machine_of}
use Rattle.fuxi_terms.specs.Rows.{row_total}
use Rattle.fuxi_terms.specs.Tables.{Table}
use Rattle.failover.specs.KeptReports.{kept_of}
use Rattle.failover.specs.Reported.{Reported}
use Rattle.grant_table.specs.GrantTables.{TableRecord, IsSound, as_known}
use Rattle.party_ledgers.specs.Joins.{JoinRecord}
use Rattle.allotment.specs.PlacingReads.{has_spot}
use Rattle.fuxi_master.specs.Heard.{Changes, adopting_role}
use Rattle.fuxi_master.specs.Seen.{core_of}
use Rattle.fuxi_master.proofs.Adopted.{IsEntered, adopted_changes, adopted_lined}
use Rattle.fuxi_master.proofs.ReportAdopted.{IsUnitOf, kept_units, kept_fits}
use Rattle.fuxi_master.proofs.AgentHeard.{has_is}
use Rattle.fuxi_master.proofs.state.Core.adopt_report.Goals as goal

pub adopt-requires-2-clause-units : goal.adopt-requires-2-clause-units
adopt-requires-2-clause-units c =
    let x = core_of c.args.self.now in
    let m = c.args.machine.0 in
    let rows : c.table-report.result.now ≡ c.index.result.now.incoming.received.table = c.table-report.ensures ∙ ap (λ (j : JoinRecord). j.table) c.got.ensures.received in
    let kept : c.in-Ok.kept ≡ kept_of x.known m c.index.result.now.incoming.received.table = c.in-Ok.ensures.kept ∙ ap (kept_of x.known m) rows in
    subst (AllByRecursion (IsUnitOf (as_known x.allotment.table.jobs))) (sym kept) (kept_units x.known (as_known x.allotment.table.jobs) c.requires.core.near.kept.jobs m c.index.result.now.incoming.received.table)

pub adopt-requires-2-clause-fits : goal.adopt-requires-2-clause-fits
adopt-requires-2-clause-fits c =
    let x = core_of c.args.self.now in
    let m = c.args.machine.0 in
    let cluster : c.cluster.result.now ≡ x.allotment.table.cluster = c.cluster.ensures.cluster ∙ ap (λ (t : TableRecord). t.cluster) c.table.ensures in
    let has = has_is c.cluster.result.now.machines m c.machine.result.now c.machine.ensures ∙ ap (λ (k : ClusterRecord). padded (machine_of k m).has) cluster in
    kept_fits x.allotment.table.cluster m (row_total c.in-Ok.kept) c.machine.result.now.has.q has c.in-Ok.ensures.fits

pub returns : goal.returns
returns c =
    let x = core_of c.args.self.now in
    let m = c.args.machine.0 in
    let d = c.index.result.now in
    let n = c.requires.core.near.kept.agents in
    let machine = c.requires.machine in
    let lt : m < length x.agents = omega (arith, n, machine) in
    let at = slice_get_read x.agents (length x.agents) m d refl lt c.index.ensures in
    let sound = subst IsSound c.table.ensures c.cluster.ensures.sound in
    let rows : c.table-report.result.now ≡ c.index.result.now.incoming.received.table = c.table-report.ensures ∙ ap (λ (j : JoinRecord). j.table) c.got.ensures.received in
    let kept : c.in-Ok.kept ≡ kept_of x.known m c.index.result.now.incoming.received.table = c.in-Ok.ensures.kept ∙ ap (kept_of x.known m) rows in
    let y = c.adopt-2.new.self in
    let z = c.open.new.self in
    let a = c.in_ok-adopt.ensures in
    let o = c.open.ensures in
    let done : IsEntered m (not (has_number m x.known.bans)) c.in-Ok.kept x.allotment y z = record {
      entered = a.stands;
      opened = λ k M reported bans h f. o.stands k M reported bans h (λ i. f i ∙ ap (λ b. cond (nat_eq m i) (not b) (has_number i M.reported && not (has_number i M.bans))) (sym c.banned.ensures.banned));
      spots = record {
        kept = λ s e. ap (has_spot s) o.touched ∙ a.spots.kept s e;
        others = λ s e. ap (λ (t : TableRecord). count spot_cmp t.entries s) o.table ∙ a.spots.others s (sym (ap (has_spot s) o.touched) ∙ e);
      };
      table = o.table ∙ a.table ∙ ap {A = Table} (λ es. record x.allotment.table { entries = es }) (sym (ap (λ (t : TableRecord). t.entries) (o.table ∙ a.table)));
      turns = let t = a.turns in let s = o.turns in omega (arith, t, s);
    } in
    record {
      named = c.news.ensures;
      changes = subst (λ (reported : Reported). Changes c.news.result (adopting_role m) x (record x { reported = reported; allotment = z })) (sym c.add.ensures)
          (adopted_changes x c.requires.core sound c.args.machine machine d at c.in-Ok.kept kept y z done c.news.result c.news.ensures);
      lined = adopted_lined x c.requires.core sound c.args.machine machine d at c.in-Ok.kept kept y z done c.news.result c.news.ensures a.up;
    }
