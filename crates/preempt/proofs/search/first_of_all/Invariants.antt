use Rattle.std.proofs.Common.{◌≡◌, map, take, None}
use Rattle.std.specs.List.{flat_map}
use Rattle.spec_roles.specs.Preemption.{first_plan_in, falling_priorities}
use Rattle.preempt.specs.Given.{board_at, pair_of}
use Rattle.preempt.specs.Search.{pairs_at}
use Rattle.preempt.proofs.search.first_of_all.Given as goal

abbrev pub invariant-loop-late : goal.invariant-loop-late
invariant-loop-late g l = first_plan_in (flat_map (λ n. pairs_at l.table (g.P.Asking.usable l.placer) n (map pair_of l.waiting)) (take l.late falling_priorities)) (board_at l.table (g.P.Asking.usable l.placer)) l.table.entries ≡ None
