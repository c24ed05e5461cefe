use Rattle.std.proofs.Common.{◌≡◌, length}
use Rattle.std.specs.List.{AllByRecursion}
use Rattle.locality_tree.specs.Layouts.{IsEmptyQueue}
use Rattle.locality_tree.proofs.layout.empty_queues.Given as goal

abbrev pub invariant-loop : goal.invariant-loop
invariant-loop l = record { count : length l.queues.items ≡ l.counter; empty : AllByRecursion IsEmptyQueue l.queues.items }
