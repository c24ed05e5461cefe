use Rattle.std.proofs.Common.{◌≡◌, ◌≤◌, ◌<◌, ◌+◌, ◌++◌, ◌^◌, ℕ, List, length, decimal}
use Rattle.schedule_text.proofs.tail.Tail.put_number.Given as goal

-- the digits that are left stand in front of those that are put, and there is room for them
pub record IsPut (number : ℕ) (old : List ℕ) (left : ℕ) (now : List ℕ) : Type 0 where
  pub text : decimal left ++ now ≡ decimal number ++ old
  pub small : left < 2 ^ 64
  pub room : length (decimal left) + length now ≤ length old + 20

abbrev pub invariant-loop-left : goal.invariant-loop-left
invariant-loop-left l = IsPut l.number l.fn.self l.left l.self

abbrev pub decreases-loop-left : goal.decreases-loop-left
decreases-loop-left l = l.left
