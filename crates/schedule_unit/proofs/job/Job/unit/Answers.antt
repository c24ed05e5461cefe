use Rattle.std.proofs.Common.{length, ap, arith}
use Rattle.std.proofs.lemmas.List.{length-map}
use Rattle.fuxi_terms.specs.Cluster.{JobRecord}
use Rattle.schedule_unit.specs.Units.{unit_record}
use Rattle.schedule_unit.proofs.ValidJobs.{valid_unit_of}
use Rattle.schedule_unit.proofs.job.Job.unit.Goals as goal

pub returns-clause-valid : goal.returns-clause-valid
returns-clause-valid c =
    let j = c.self.inside in
    valid_unit_of j.app.0 j.group.0 j.units.items c.args.unit.0 c.index.result.now c.self.invariant
    (omega (arith, ap (λ (r : JobRecord). length r.units) c.self.view_is, length-map j.units.items unit_record, c.requires)) c.index.ensures
