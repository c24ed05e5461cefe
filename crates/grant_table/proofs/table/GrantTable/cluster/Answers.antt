use Rattle.std.proofs.Common.{subst}
use Rattle.grant_table.specs.GrantTables.{IsSound}
use Rattle.grant_table.proofs.Bounds.{sound}
use Rattle.grant_table.proofs.table.GrantTable.cluster.Goals as goal

pub returns-clause-sound : goal.returns-clause-sound
returns-clause-sound c = subst IsSound c.self.view_is (sound _ _ _ _ _ c.self.invariant)
