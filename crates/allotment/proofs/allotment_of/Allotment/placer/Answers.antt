use Rattle.std.proofs.Common.{◌≡◌, subst}
use Rattle.fuxi_terms.specs.Jobs.{unit_count}
use Rattle.grant_table.specs.GrantTables.{as_known}
use Rattle.place_pass.specs.Placers.{units_seen}
use Rattle.allotment.specs.Allotted.{AllotmentRecord}
use Rattle.allotment.proofs.allotment_of.Allotment.placer.Goals as goal

pub returns-clause-units : goal.returns-clause-units
returns-clause-units c a =
    let p = c.self.inside.placer in
    subst (λ (x : AllotmentRecord). units_seen p.seen a ≡ unit_count (as_known x.table.jobs) a) c.self.view_is (c.levels.ensures.units p c.self.inside.table a c.self.invariant.level)
