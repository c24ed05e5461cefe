use Rattle.std.proofs.Common.{◌≡◌, ◌++◌, drop, length}
use Rattle.std.specs.List.{flat_map}
use Rattle.std.specs.Int.{to_be_bytes, w64}
use Rattle.hard_state.proofs.job.write_size.Given as goal

abbrev pub invariant-loop-quantity : goal.invariant-loop-quantity
invariant-loop-quantity l = record {
  places : length l.size ≡ 8;
  written : l.out.items ++ flat_map (to_be_bytes w64) (drop l.quantity-index l.size) ≡ l.fn.out.items ++ flat_map (to_be_bytes w64) l.size;
}
