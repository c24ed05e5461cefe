use Rattle.spec_roles.proofs.PlacingEnds.{settled_nothing, settled_run}
use Rattle.spec_roles.proofs.PlacingFirst.{placed_first}
use Rattle.spec_roles.proofs.PlacingFits.{settled_fits}
use Rattle.spec_roles.proofs.law.settling.Goals as goal

pub returns : goal.returns
returns c = record {
  ends = λ c M. settled_nothing c M;
  runs = λ c picks M N p. settled_run c picks M N p;
  fits = λ c M w. settled_fits c M w;
  first = λ c M s e. placed_first c M s e;
}
