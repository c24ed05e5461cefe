use Rattle.std.proofs.Common.{◌≡◌, ℕ, ◌<◌, true, false, [], length, get_or}
use Rattle.place_pass.specs.Cells.{cell_at, taken}
use Rattle.place_pass.proofs.demand.wishes.Wishes.differing.Given as goal

abbrev pub invariant-loop-number : goal.invariant-loop-number
invariant-loop-number l = record {
  long : length l.differing ≡ 8;
  same : (u : ℕ) → u < length (get_or l.self.cells l.app.0 []) → get_or l.differing u true ≡ false → taken l.self.cluster l.demand.entries u (cell_at l.self.cells l.app.0 u) ≡ cell_at l.self.cells l.app.0 u;
}
