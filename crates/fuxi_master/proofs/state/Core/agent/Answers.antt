use Rattle.std.proofs.Common.{length, refl}
use Rattle.std.proofs.lemmas.Option.{slice_get_read}
use Rattle.schedule_unit.specs.declared.party.Role.TheVariants.{Agent as AsAgent}
use Rattle.fuxi_master.specs.Seen.{core_of}
use Rattle.fuxi_master.proofs.TurnPackets.{agent_peer}
use Rattle.fuxi_master.proofs.state.Core.agent.Goals as goal

pub returns-clause-there : goal.returns-clause-there
returns-clause-there c =
    let x = core_of c.args.self.now in
    let n = c.args.number in
    slice_get_read x.agents (length x.agents) n c.index.result.now refl (agent_peer x c.requires.core.near.kept AsAgent n c.requires.peer refl) c.index.ensures
