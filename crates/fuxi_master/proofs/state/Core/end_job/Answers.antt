use Rattle.std.proofs.Common.{◌<◌, sym, ap, subst}
use Rattle.fuxi_terms.specs.Jobs.{unit_count}
use Rattle.fuxi_terms.specs.Tallies.{TallyRecord}
use Rattle.grant_table.specs.GrantTables.{TableRecord, as_known, IsSound}
use Rattle.hard_state.specs.Knowledge.{Knowledge}
use Rattle.spec_roles.specs.MasterSteps.{ended_in}
use Rattle.fuxi_master.specs.Commands.{changed_by}
use Rattle.fuxi_master.specs.Heard.{Changes}
use Rattle.fuxi_master.specs.Seen.{core_of}
use Rattle.fuxi_master.proofs.CommandsLemmas.{job_ended}
use Rattle.fuxi_master.proofs.KnownJobs.{has_units}
use Rattle.fuxi_master.proofs.state.Core.end_job.Goals as goal

pub asked-requires-clause-job : goal.asked-requires-clause-job
asked-requires-clause-job c =
    let x = core_of c.args.self.now in
    subst (λ (t : TableRecord). 0 < unit_count (as_known t.jobs) c.args.app.0) (sym c.in_ok-clear_job.ensures.table)
    (has_units x.allotment.table c.table-2.result.now c.table-2.ensures x.known.jobs c.requires.core.near.kept.jobs c.args.app.0 c.units-units.result c.requires.known c.units-units.ensures.known c.units-units.ensures.number)

pub returns-clause-changes : goal.returns-clause-changes
returns-clause-changes c =
    let x = core_of c.args.self.now in
    let a = c.args.app.0 in
    let y = c.clear_job.new.self in
    let z = c.asked-2.new.self in
    let e = c.in_ok-clear_job.ensures in
    let o = c.asked-2.ensures in
    subst (λ (k : Knowledge). Changes c.news.result (changed_by (λ M. ended_in M a)) x (record x { known = k; allotment = z })) (sym c.finish.ensures)
    (job_ended x c.requires.core (subst IsSound c.table.ensures c.is_sound.ensures) c.news.result c.news.ensures a y z e.stands e.touches e.table
    c.empty.result.entries (ap (λ (t : TallyRecord). t.entries) c.empty.ensures) o.stands o.table o.touched o.turns c.ends_alike.ensures.numbers c.ends_alike.ensures.records c.ends_alike.ensures.alike)
