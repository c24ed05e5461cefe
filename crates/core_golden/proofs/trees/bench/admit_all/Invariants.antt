use Rattle.place_pass.specs.Placers.{IsLevelWith}
use Rattle.core_golden.proofs.trees.bench.admit_all.Given as goal

abbrev pub invariant-loop-job : goal.invariant-loop-job
invariant-loop-job l = record {
  level : IsLevelWith l.placer l.table;
}
