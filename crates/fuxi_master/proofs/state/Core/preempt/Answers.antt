use Rattle.std.proofs.Common.{subst}
use Rattle.grant_table.specs.GrantTables.{IsSound}
use Rattle.fuxi_master.specs.Seen.{core_of}
use Rattle.fuxi_master.proofs.RoomMade.{preempts}
use Rattle.fuxi_master.proofs.state.Core.preempt.Goals as goal

pub returns : goal.returns
returns c = preempts (core_of c.args.self.now) c.requires.core (subst IsSound c.table.ensures c.is_sound.ensures) c.preempted.new.allotment c.in_ok-found.found c.in_ok-found.ensures
