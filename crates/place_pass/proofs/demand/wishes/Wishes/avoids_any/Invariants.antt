use Rattle.std.proofs.Common.{◌≡◌, ℕ, ◌<◌, true, get_or}
use Rattle.place_pass.specs.Cells.{cell_at}
use Rattle.place_pass.proofs.demand.wishes.Wishes.avoids_any.Given as goal

abbrev pub invariant-loop-number : goal.invariant-loop-number
invariant-loop-number l = record {
  avoided : (u n : ℕ) → u < l.number → get_or l.differing u true ≡ true → get_or (cell_at l.self.cells l.app.0 u).avoided n 0 ≡ 0;
}
