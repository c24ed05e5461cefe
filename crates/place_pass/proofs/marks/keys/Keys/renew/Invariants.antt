use Rattle.std.proofs.Common.{◌≡◌, ℕ, ◌*◌, ◌/◌, ◌-◌, ◌<◌, ◌≤◌, ◌⊎◌, length, get_or}
use Rattle.place_pass.specs.PackedRanks.{renewed_number}
use Rattle.place_pass.proofs.marks.keys.Keys.renew.Given as goal

abbrev pub invariant-loop-at : goal.invariant-loop-at
invariant-loop-at l = record {
  start : (l.at ≡ l.at / 16 * 16) ⊎ (l.machines ≤ l.at);
  machines : l.machines ≡ length l.self;
  long : length l.self ≡ length l.initial.self;
  done : (m : ℕ) → m < l.at → get_or l.self m 0 ≡ renewed_number (get_or l.initial.self m 0);
  left : (m : ℕ) → l.at ≤ m → get_or l.self m 0 ≡ get_or l.initial.self m 0;
}

abbrev pub decreases-loop-at : goal.decreases-loop-at
decreases-loop-at l = l.machines - l.at
