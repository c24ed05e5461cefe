use Rattle.std.proofs.Common.{◌≡◌, ℕ, ◌<◌, ◌≤◌}
use Rattle.app_master.specs.Usable.{carried_at}
use Rattle.app_master.proofs.carried.Carried.next.Given as goal

abbrev pub invariant-loop-number : goal.invariant-loop-number
invariant-loop-number l = (m : ℕ) → l.from ≤ m → m < l.number → carried_at l.self l.unit.0 m ≡ 0
