use Rattle.std.proofs.Common.{subst}
use Rattle.std.specs.List.{IsDistinct}
use Rattle.place_pass.specs.WaitingLines.{LineRecord, same_pair}
use Rattle.place_pass.proofs.FirstKeysWait.{distinct_first}
use Rattle.place_pass.proofs.line.Line.distinct.Goals as goal

pub returns : goal.returns
returns c = subst (λ (l : LineRecord). IsDistinct same_pair l.pairs) c.self.view_is (distinct_first c.self.inside.len c.self.inside.units.keys c.len-units.ensures.unique)
