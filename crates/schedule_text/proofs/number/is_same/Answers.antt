use Rattle.std.proofs.Common.{◌∙◌}
use Rattle.schedule_text.proofs.Pieces.{bytes_paired}
use Rattle.schedule_text.proofs.number.is_same.Goals as goal

pub returns-then-a-b : goal.returns-then-a-b
returns-then-a-b c = c.are_paired.ensures ∙ bytes_paired c.args.a.now c.args.b.now c.if-a-b.true
