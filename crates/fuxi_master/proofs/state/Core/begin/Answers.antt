use Rattle.std.proofs.Common.{subst}
use Rattle.grant_table.specs.GrantTables.{IsSound}
use Rattle.fuxi_master.specs.Seen.{core_of}
use Rattle.fuxi_master.proofs.CommandsLemmas.{begun}
use Rattle.fuxi_master.proofs.state.Core.begin.Goals as goal

pub returns-clause-changes : goal.returns-clause-changes
returns-clause-changes c = begun (core_of c.args.self.now) c.requires.core (subst IsSound c.table.ensures c.is_sound.ensures) c.news.result c.news.ensures
