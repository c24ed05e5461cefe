use Rattle.std.proofs.Common.{take}
use Rattle.fuxi_io.specs.Lines.{lines_of}
use Rattle.schedule_replay.proofs.GivenLemmas.{input_given}
use Rattle.schedule_replay.proofs.law.inputs_are_given.Goals as goal

pub returns : goal.returns
returns c bytes i leads =
    input_given c.cluster_lines_are_valid.ensures (λ line e is. c.events_are_inputs.ensures e (c.events_of_lines.ensures line e is)) 0 (take leads.lines (lines_of bytes)) i leads.is
