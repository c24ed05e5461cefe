use Rattle.std.proofs.Common.{ℕ, ◌<◌, ◌≤◌, get_or}
use Rattle.place_pass.proofs.marks.keys.least_of.Given as goal

abbrev pub invariant-loop-place : goal.invariant-loop-place
invariant-loop-place l = (m : ℕ) → l.from ≤ m → m < l.place → l.least ≤ get_or l.numbers m 0
