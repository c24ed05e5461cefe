use Rattle.std.proofs.Common.{sym, subst}
use Rattle.spec_roles.specs.Placing.{line_up}
use Rattle.place_pass.specs.Placers.{SeenRecord}
use Rattle.allotment.specs.Allotted.{AllotmentRecord}
use Rattle.allotment.specs.PlacingReads.{IsPlacing}
use Rattle.allotment.proofs.Boards.{lined_is}
use Rattle.allotment.proofs.allotment_of.Allotment.line_up.Goals as goal

pub returns-clause-stands : goal.returns-clause-stands
returns-clause-stands c = λ k M h.
    let placing = subst (λ (x : AllotmentRecord). IsPlacing x.table x.placer.seen k M) (sym c.self.view_is) h.placing in
    record { placing = subst (λ (s : SeenRecord). IsPlacing c.self.inside.table s k (line_up M)) (sym c.line_up.ensures.seen) (lined_is c.self.inside.table c.self.inside.placer.seen k M placing _) }
