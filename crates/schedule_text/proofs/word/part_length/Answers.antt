use Rattle.std.proofs.Common.{◌==◌, sym, ◌∙◌}
use Rattle.schedule_text.proofs.WordsLemmas.{position_is, position_none}
use Rattle.schedule_text.proofs.word.part_length.Goals as goal

pub returns-in-Some : goal.returns-in-Some
returns-in-Some c = position_is (λ b. b == 32) c.args.rest.now c.in-Some.length (sym c.first_blank.ensures ∙ c.in-Some.is)

pub returns-in-None : goal.returns-in-None
returns-in-None c = position_none (λ b. b == 32) c.args.rest.now (sym c.first_blank.ensures ∙ c.in-None.is)
