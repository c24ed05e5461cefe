use Rattle.std.proofs.Common.{take}
use Rattle.allotment.proofs.AddsRowLemmas.{AddsSome}
use Rattle.allotment.proofs.allotment_of.Allotment.add_row.Given as goal

abbrev pub invariant-loop-index : goal.invariant-loop-index
invariant-loop-index l = AddsSome l.machine.0 (take l.index l.kept) l.fn.self l.self
