-- Jobs and their units as the shared records see them.
use Rattle.std.specs.Prelude.{List, map}
use Rattle.fuxi_terms.specs.Cluster.{JobRecord, UnitRecord}
use Rattle.schedule_unit.specs.declared.job.Unit.{Unit as JobUnit}
use Rattle.schedule_unit.specs.declared.party.AppNo.{AppNo}
use Rattle.schedule_unit.specs.declared.party.GroupNo.{GroupNo}

abbrev pub unit_record : JobUnit → UnitRecord
unit_record u = record { priority = u.priority; size = u.size.q; most = u.most }

abbrev pub job_record : AppNo → GroupNo → List JobUnit → JobRecord
job_record app group units = record { number = app.0; group = group.0; units = map unit_record units }
