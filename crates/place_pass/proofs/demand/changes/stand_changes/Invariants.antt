use Rattle.std.proofs.Common.{◌≡◌, ℕ, ◌<◌, true, false, nat_eq, [], length, get_or, take}
use Rattle.fuxi_terms.specs.declared.Key.{Key}
use Rattle.fuxi_terms.specs.Jobs.{unit_count}
use Rattle.grant_table.specs.GrantTables.{as_known}
use Rattle.spec_roles.specs.Placing.{has_pair}
use Rattle.locality_tree.specs.Trees.{unit_at}
use Rattle.place_pass.specs.Placers.{is_named}
use Rattle.place_pass.specs.PlacerTrees.{HoldsLine}
use Rattle.place_pass.specs.DemandScopes.{StandsAt}
use Rattle.place_pass.proofs.demand.changes.stand_changes.Given as goal

abbrev pub invariant-loop-place : goal.invariant-loop-place
invariant-loop-place l = record {
  holds : HoldsLine l.wishes.cluster l.wishes.cells l.line.pairs l.turn_of.items l.tree;
  others : (a u : ℕ) → u < 8 → nat_eq a l.app.0 ≡ false → unit_at l.tree a u ≡ unit_at l.initial.tree a u;
  done : length (get_or l.wishes.cells l.app.0 []) ≡ unit_count (as_known l.table.jobs) l.app.0 → (k : Key) → has_pair (l.app.0, k.unit) l.line.pairs ≡ true
      → (is_named k (take l.place l.changes) ≡ false → StandsAt l.wishes.cluster l.wishes.cells l.table.entries l.app.0 k l.initial.tree) → StandsAt l.wishes.cluster l.wishes.cells l.table.entries l.app.0 k l.tree;
}
