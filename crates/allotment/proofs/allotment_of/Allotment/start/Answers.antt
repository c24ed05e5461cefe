use Rattle.std.proofs.Common.{sym, subst}
use Rattle.grant_table.specs.GrantTables.{TableRecord}
use Rattle.place_pass.specs.Placers.{SeenRecord}
use Rattle.allotment.specs.PlacingReads.{IsPlacing}
use Rattle.allotment.proofs.StartStands.{starts, first_table}
use Rattle.allotment.proofs.allotment_of.Allotment.start.Goals as goal

pub returns-clause-stands : goal.returns-clause-stands
returns-clause-stands c = λ M jobs table demands line reported.
    let k = c.args.cluster.now in
    record { placing = subst (λ (t : TableRecord). IsPlacing t c.in_ok-placer.placer.seen k M) (sym c.in_ok-table.ensures) (subst (λ (s : SeenRecord). IsPlacing (first_table k) s k M) (sym c.in_ok-placer.ensures.seen) (starts k 256 M jobs table demands line reported)) }
