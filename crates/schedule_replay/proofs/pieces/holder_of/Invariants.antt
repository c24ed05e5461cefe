use Rattle.std.proofs.Common.{◌<◌, ◌≤◌, ◌-◌, length}
use Rattle.schedule_replay.specs.FullPieces.{first_at}
use Rattle.schedule_replay.proofs.pieces.holder_of.Given as goal

abbrev pub invariant-loop-high : goal.invariant-loop-high
invariant-loop-high l = record {
  some : l.low < l.high;
  inside : l.high ≤ length l.pieces;
  first : first_at l.pieces l.low ≤ l.at;
  next : l.high < length l.pieces → l.at < first_at l.pieces l.high;
}

abbrev pub decreases-loop-high : goal.decreases-loop-high
decreases-loop-high l = l.high - l.low
