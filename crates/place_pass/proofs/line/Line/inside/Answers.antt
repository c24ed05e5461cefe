use Rattle.std.proofs.Common.{◌≡◌, true, sym, subst}
use Rattle.spec_roles.specs.Placing.{has_pair}
use Rattle.place_pass.specs.WaitingLines.{LineRecord, same_pair}
use Rattle.place_pass.proofs.FirstKeysWait.{had}
use Rattle.place_pass.proofs.line.Line.inside.Goals as goal

pub returns : goal.returns
returns c a u e = c.self.invariant.there a u (had (same_pair (a, u)) c.self.inside.units.keys c.self.inside.len (subst (λ (l : LineRecord). has_pair (a, u) l.pairs ≡ true) (sym c.self.view_is) e))
