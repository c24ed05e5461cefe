use Rattle.std.proofs.Common.{◌≡◌, ◌-◌, ◌+◌, ◌<◌, ℕ, None, length, get_or, vec_capacity}
use Rattle.work_plan.proofs.workers.Workers.admit.Given as goal

abbrev pub invariant-loop-self : goal.invariant-loop-self
invariant-loop-self l = record {
  same : (a : ℕ) → get_or l.self-inside.crews.items a None ≡ get_or l.initial.self-inside.crews.items a None;
  room : l.index < vec_capacity l.self-inside.crews;
}

abbrev pub decreases-loop-self : goal.decreases-loop-self
decreases-loop-self l = l.index + 1 - length l.self-inside.crews.items
