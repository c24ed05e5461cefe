use Rattle.std.proofs.Common.{◌≤◌}
use Rattle.master_desk.proofs.run.workers.Given as goal

abbrev pub invariant-loop-session : goal.invariant-loop-session
invariant-loop-session l = l.count ≤ l.session
