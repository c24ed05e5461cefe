use Rattle.std.proofs.Common.{◌≡◌, ℕ, ◌<◌, ◌≤◌, true, length, get_or}
use Rattle.place_pass.specs.PackedRanks.{never_rank, renewed_number}
use Rattle.place_pass.proofs.marks.keys.renew.Given as goal

abbrev pub invariant-loop-place : goal.invariant-loop-place
invariant-loop-place l = record {
  from : l.from ≤ l.place;
  to : l.place ≤ l.to;
  long : length l.numbers.items ≡ length l.initial.numbers.items;
  inside : (n : ℕ) → l.from ≤ n → n < l.place → get_or l.numbers.items n 0 ≡ renewed_number (get_or l.initial.numbers.items n 0);
  before : (n : ℕ) → n < l.from → get_or l.numbers.items n 0 ≡ get_or l.initial.numbers.items n 0;
  behind : (n : ℕ) → l.place ≤ n → get_or l.numbers.items n 0 ≡ get_or l.initial.numbers.items n 0;
  settled : l.settled ≡ true → (n : ℕ) → l.from ≤ n → n < l.place → get_or l.numbers.items n 0 ≡ never_rank;
}
