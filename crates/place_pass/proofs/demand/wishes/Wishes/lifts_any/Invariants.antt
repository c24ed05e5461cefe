use Rattle.std.proofs.Common.{ℕ, ◌<◌, [], get_or}
use Rattle.place_pass.specs.Cells.{AvoidsStill}
use Rattle.place_pass.proofs.demand.wishes.Wishes.lifts_any.Given as goal

abbrev pub invariant-loop-number : goal.invariant-loop-number
invariant-loop-number l = record {
  still : (m : ℕ) → m < l.number → AvoidsStill l.demand.entries (get_or l.self.cells l.app.0 []) m;
}
