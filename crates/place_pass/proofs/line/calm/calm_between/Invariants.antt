use Rattle.std.proofs.Common.{◌≡◌, ℕ, false, not, nat_lt, length, get_or}
use Rattle.std.specs.Prelude.{◌&&◌, ◌||◌}
use Rattle.place_pass.proofs.line.calm.calm_between.Given as goal

abbrev pub invariant-loop-number : goal.invariant-loop-number
invariant-loop-number l = record {
  long : length l.flags.items ≡ length l.initial.flags.items;
  calm : (a : ℕ) → get_or l.flags.items a false ≡ (get_or l.initial.flags.items a false || (not (nat_lt a l.low) && (nat_lt a l.number && nat_lt a l.high)));
}
