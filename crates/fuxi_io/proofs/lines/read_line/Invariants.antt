use Rattle.std.proofs.Common.{◌≤◌, ◌<◌, ◌-◌, ◌≡◌, [], ◌++◌, length, vec_capacity}
use Rattle.std.specs.Io.KnownBytes.{prepend_known, Consumes, IsAtEnd}
use Rattle.fuxi_io.specs.Pieces.{NoNewline}
use Rattle.fuxi_io.specs.Reading.{read_ahead}
use Rattle.fuxi_io.proofs.lines.read_line.Given as goal
use Rattle.fuxi_terms.specs.Limits.{most_line_bytes}

abbrev pub invariant-loop-piece : goal.invariant-loop-piece
invariant-loop-piece g l = record {
  room : most_line_bytes ≤ vec_capacity l.line;
  ahead : length l.piece ≤ read_ahead;
  plain : NoNewline l.line.items;
  short : length l.line.items ≤ most_line_bytes;
  read : Consumes (prepend_known l.fn.piece (g.S.Source.left l.fn.source)) (prepend_known l.piece (g.S.Source.left l.source)) l.line.items;
  end : l.piece ≡ [] → IsAtEnd (g.S.Source.left l.source) × (0 < length l.line.items);
  unread : (NoNewline l.fn.piece → ⊥) → (l.source ≡ l.fn.source) × (l.fn.piece ≡ l.line.items ++ l.piece);
  same : g.S.Source.faults l.source ≡ g.S.Source.faults l.fn.source;
}

abbrev pub decreases-loop-piece : goal.decreases-loop-piece
decreases-loop-piece g l = 65537 - length l.line.items
