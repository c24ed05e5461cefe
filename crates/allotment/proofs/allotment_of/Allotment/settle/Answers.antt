use Rattle.std.proofs.Common.{sym, subst}
use Rattle.place_pass.specs.Placers.{IsUpToDate}
use Rattle.allotment.specs.Allotted.{AllotmentRecord}
use Rattle.allotment.proofs.allotment_of.Allotment.settle.Goals as goal

pub settle-requires-clause-sound : goal.settle-requires-clause-sound
settle-requires-clause-sound g c = c.self.invariant.sound

pub settle-requires-clause-up : goal.settle-requires-clause-up
settle-requires-clause-up g c = subst (λ (x : AllotmentRecord). IsUpToDate x.placer.seen x.table) (sym c.self.view_is) c.requires
