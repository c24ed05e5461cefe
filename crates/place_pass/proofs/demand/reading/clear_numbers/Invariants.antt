use Rattle.std.proofs.Common.{◌≡◌, ℕ, ◌<◌, ◌≤◌, length, get_or}
use Rattle.place_pass.proofs.demand.reading.clear_numbers.Given as goal

abbrev pub invariant-loop-place : goal.invariant-loop-place
invariant-loop-place l = record {
  from : l.from ≤ l.place;
  to : l.place ≤ l.to;
  long : length l.numbers ≡ length l.initial.numbers;
  zero : (k : ℕ) → l.from ≤ k → k < l.place → get_or l.numbers k 0 ≡ 0;
  before : (k : ℕ) → k < l.from → get_or l.numbers k 0 ≡ get_or l.initial.numbers k 0;
  behind : (k : ℕ) → l.place ≤ k → get_or l.numbers k 0 ≡ get_or l.initial.numbers k 0;
}
