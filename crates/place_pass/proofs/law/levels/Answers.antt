use Rattle.place_pass.specs.Placers.{IsLevelWith}
use Rattle.place_pass.proofs.CellsMatchTable.{count_is}
use Rattle.place_pass.proofs.law.levels.Goals as goal

pub returns : goal.returns
unfolding IsLevelWith
returns c = record {
  cluster = λ p t l. l.level.cluster_is;
  jobs = λ p t a l. l.level.jobs_are a;
  units = λ p t a l. count_is p.seen.cluster p.seen.cells t l.level a;
}
