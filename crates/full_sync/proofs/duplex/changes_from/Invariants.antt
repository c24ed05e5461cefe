use Rattle.std.proofs.Common.{◌≡◌, List, map}
use Rattle.std.specs.List.{AllByRecursion}
use Rattle.delta_channel.specs.Standing.{StandsFor}
use Rattle.fuxi_terms.specs.Lists.{numbers_from}
use Rattle.full_sync.specs.Turns.{mark_of, MarkDelta, Brings, IsNoteOf}
use Rattle.full_sync.proofs.duplex.changes_from.Given as goal

abbrev pub invariant-loop-offset : goal.invariant-loop-offset
invariant-loop-offset g l = record {
  marks : map mark_of l.notes.items ≡ map MarkDelta (numbers_from l.first l.offset);
  sends : AllByRecursion (IsNoteOf l.sender) l.notes.items;
  brings : (history : List g.row.A.Denot) → StandsFor g.A.Ledger.nothing g.A.Ledger.patched l.sender history → AllByRecursion (Brings g.A.Ledger.patched history) l.notes.items;
}
