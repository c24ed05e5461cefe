use Rattle.std.proofs.Common.{ℕ, ◌<◌, [], get_or}
use Rattle.fuxi_terms.specs.Counts.{count}
use Rattle.fuxi_terms.specs.Keys.{key_cmp}
use Rattle.fuxi_terms.specs.TallyKeys.{avoid_key}
use Rattle.place_pass.specs.Cells.{no_cell}
use Rattle.place_pass.proofs.demand.wishes.Wishes.lifts.Given as goal

abbrev pub invariant-loop-number : goal.invariant-loop-number
invariant-loop-number l = (u : ℕ) → u < l.number → 0 < get_or (get_or (get_or l.self.cells l.app.0 []) u no_cell).avoided l.machine.0 0 → 0 < count key_cmp l.demand.entries (avoid_key u l.machine.0)
