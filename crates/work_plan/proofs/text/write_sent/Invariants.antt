use Rattle.std.proofs.Common.{◌≡◌, ◌+◌, ◌++◌, drop, map}
use Rattle.work_plan.specs.Ends.{packet_of}
use Rattle.work_plan.specs.WorkEvents.{numbered}
use Rattle.work_plan.specs.WorkLines.{lines_text}
use Rattle.work_plan.proofs.text.write_sent.Given as goal

abbrev pub invariant-loop-index : goal.invariant-loop-index
invariant-loop-index l = l.out.items ++ lines_text (numbered (l.index + 1) (drop l.index (map packet_of l.packets))) ≡ l.fn.out.items ++ lines_text (numbered (l.first + 1) (drop l.first (map packet_of l.packets)))
