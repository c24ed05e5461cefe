use Rattle.std.proofs.Common.{◌≡◌, None}
use Rattle.spec_roles.specs.Preemption.{first_plan_in}
use Rattle.preempt.specs.Given.{board_at, pair_of}
use Rattle.preempt.specs.Search.{accepts_at, pairs_to}
use Rattle.preempt.proofs.search.first_machine.Given as goal

abbrev pub invariant-loop-number : goal.invariant-loop-number
invariant-loop-number g l = first_plan_in (pairs_to (accepts_at l.table (g.P.Asking.usable l.placer)) l.number (pair_of l.e)) (board_at l.table (g.P.Asking.usable l.placer)) l.table.entries ≡ None
