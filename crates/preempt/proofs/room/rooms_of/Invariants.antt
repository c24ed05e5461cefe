use Rattle.std.proofs.Common.{◌≡◌, ℕ, length, Some}
use Rattle.std.specs.Prelude.{slice_get}
use Rattle.preempt.specs.declared.entry.Sums.{Sums}
use Rattle.preempt.specs.MachineRooms.{IsRoom, IsNarrower}
use Rattle.preempt.proofs.room.rooms_of.Given as goal

abbrev pub invariant-loop-number : goal.invariant-loop-number
invariant-loop-number l = record {
  long : length l.each.items ≡ l.number;
  rooms : (m : ℕ) (x : Sums) → slice_get l.each.items m ≡ Some x → IsRoom l.table l.need.group l.need.priority l.need.guaranteed m x.q;
  narrower : (m : ℕ) (x : Sums) → slice_get l.each.items m ≡ Some x → IsNarrower l.need.resources l.widest x.q;
}
