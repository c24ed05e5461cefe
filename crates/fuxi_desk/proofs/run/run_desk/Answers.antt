use Rattle.std.proofs.Common.{refl}
use Rattle.input_lines.proofs.LineProgressLemmas.{nothing_read}
use Rattle.fuxi_desk.specs.DeskRuns.{desk_ends, read_from}
use Rattle.fuxi_desk.proofs.run.run_desk.Goals as goal

pub returns-in-Err-clause-ended : goal.returns-in-Err-clause-ended
returns-in-Err-clause-ended g c = nothing_read desk_ends (read_from 0) (g.S.Source.left c.args.source.now) (g.O.Sink.took c.args.out.now) refl
