use Rattle.hard_state.proofs.HardFilesLemmas.{idle_keeps}
use Rattle.fuxi_node.proofs.input.run_kind.Goals as goal

pub returns-in-Agent-clause-keeps : goal.returns-in-Agent-clause-keeps
returns-in-Agent-clause-keeps g c = idle_keeps (g.D.Disk.told c.args.disk.now)

pub returns-in-App-clause-keeps : goal.returns-in-App-clause-keeps
returns-in-App-clause-keeps g c = idle_keeps (g.D.Disk.told c.args.disk.now)
