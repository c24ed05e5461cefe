use Rattle.std.proofs.Common.{subst}
use Rattle.grant_table.specs.GrantTables.{IsSound}
use Rattle.grant_table.proofs.Bounds.{sound}
use Rattle.grant_table.proofs.table.GrantTable.is_sound.Goals as goal

pub returns : goal.returns
returns c = subst IsSound c.self.view_is (sound _ _ _ _ _ c.self.invariant)
