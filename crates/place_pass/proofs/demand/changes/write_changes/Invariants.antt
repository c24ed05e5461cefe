use Rattle.std.proofs.Common.{take}
use Rattle.place_pass.specs.Cells.{cells_in}
use Rattle.place_pass.proofs.DemandScopesLemmas.{AreWritten, TellsMore}
use Rattle.place_pass.proofs.demand.changes.write_changes.Given as goal

abbrev pub invariant-loop-place : goal.invariant-loop-place
invariant-loop-place l = record {
  written : AreWritten l.cluster l.demand.entries (take l.place l.changes) (cells_in l.initial.units) (cells_in l.units);
  more : TellsMore l.cluster l.demand.entries (take l.place l.changes) (cells_in l.initial.units) l.more;
}
