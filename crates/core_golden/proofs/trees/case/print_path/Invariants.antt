use Rattle.locality_tree.specs.Paths.{IsWalkable}
use Rattle.core_golden.proofs.trees.case.print_path.Given as goal

abbrev pub invariant-loop : goal.invariant-loop
invariant-loop l = IsWalkable l.path
