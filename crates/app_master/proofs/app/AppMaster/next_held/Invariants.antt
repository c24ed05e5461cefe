use Rattle.std.proofs.Common.{◌≡◌, ℕ, ◌-◌, ◌<◌, ◌≤◌}
use Rattle.app_master.specs.Usable.{held_in}
use Rattle.app_master.proofs.app.AppMaster.next_held.Given as goal

abbrev pub invariant-loop-number : goal.invariant-loop-number
invariant-loop-number l = record {
  least : l.from ≤ l.number;
  inside : l.number ≤ l.self.machines;
  none : (m : ℕ) → l.from ≤ m → m < l.number → held_in l.self.up.incoming.received l.self.up.outgoing.present l.self.up.outgoing.own l.self.carried l.unit.0 m ≡ 0;
}

abbrev pub decreases-loop-number : goal.decreases-loop-number
decreases-loop-number l = l.self.machines - l.number
