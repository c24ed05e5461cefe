use Rattle.fuxi_node.proofs.Endings.{run_ends}
use Rattle.fuxi_node.proofs.law.runs_end_by_their_lines.Goals as goal

pub returns : goal.returns
returns c = run_ends
