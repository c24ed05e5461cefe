use Rattle.std.proofs.Common.{◌≡◌, ℕ, ◌<◌, true, Some}
use Rattle.std.specs.Prelude.{slice_get}
use Rattle.fuxi_terms.specs.Jobs.{group_of, size_at}
use Rattle.fuxi_terms.specs.Keys.{Pair}
use Rattle.grant_table.specs.GrantTables.{as_known}
use Rattle.spec_roles.specs.Placing.{is_allowed_in}
use Rattle.place_pass.proofs.marks.told.are_allowed.Given as goal

abbrev pub invariant-loop-place : goal.invariant-loop-place
invariant-loop-place l = (k : ℕ) (p : Pair) → k < l.place → slice_get l.line.pairs k ≡ Some p → is_allowed_in l.table.cluster (group_of (as_known l.table.jobs)) (size_at (as_known l.table.jobs)) l.table.entries p.0 p.1 ≡ true
