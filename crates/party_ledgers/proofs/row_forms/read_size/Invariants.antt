use Rattle.std.proofs.Common.{◌≡◌, ◌+◌, ◌*◌, ◌<◌, ◌^◌, ◌++◌, take, length}
use Rattle.std.specs.List.{All, flat_map}
use Rattle.std.specs.Int.{to_be_bytes, w64}
use Rattle.party_ledgers.proofs.row_forms.read_size.Given as goal

abbrev pub invariant-loop-i : goal.invariant-loop-i
invariant-loop-i l = record {
  places : length l.size ≡ 8;
  quantities : All (λ q. q < 2 ^ 64) l.size;
  long : length l.left + l.i * 8 ≡ 64;
  read : flat_map (to_be_bytes w64) (take l.i l.size) ++ l.left ≡ l.fn.bytes;
}
