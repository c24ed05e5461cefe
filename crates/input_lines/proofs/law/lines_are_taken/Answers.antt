use Rattle.input_lines.proofs.WholesLemmas.{lines_taken}
use Rattle.input_lines.proofs.law.lines_are_taken.Goals as goal

pub returns : goal.returns
returns c = lines_taken
