use Rattle.std.proofs.Common.{◌≡◌, ℕ, ◌<◌, ◌≤◌, true, false, nat_eq, get_or}
use Rattle.spec_roles.specs.Placing.{has_pair}
use Rattle.locality_tree.specs.Trees.{unit_at}
use Rattle.place_pass.specs.PlacerTrees.{HoldsLine, StandsAs}
use Rattle.place_pass.proofs.line.standing.tell_asked.Given as goal

abbrev pub invariant-loop-number : goal.invariant-loop-number
invariant-loop-number l = record {
  holds : HoldsLine l.wishes.cluster l.wishes.cells l.line.pairs l.turn_of.items l.tree;
  others : (a u : ℕ) → u < 8 → nat_eq a l.app.0 ≡ false → unit_at l.tree a u ≡ unit_at l.initial.tree a u;
  left : (u : ℕ) → u < 8 → l.number ≤ u → unit_at l.tree l.app.0 u ≡ unit_at l.initial.tree l.app.0 u;
  done : (u : ℕ) → u < l.number → has_pair (l.app.0, u) l.line.pairs ≡ true → (get_or l.differing u true ≡ false → StandsAs l.wishes.cluster l.wishes.cells l.table.entries l.app.0 u l.initial.tree) → StandsAs l.wishes.cluster l.wishes.cells l.table.entries l.app.0 u l.tree;
}
