use Rattle.spec_world.specs.Runs.{run}
use Rattle.spec_world.proofs.GoodKept.{always_good}
use Rattle.spec_world.proofs.BansJudgedLemmas.{all_judge}
use Rattle.spec_world.proofs.law.every_judgement_bans_what_is_judged.Goals as goal

pub returns : goal.returns
returns g = λ c events input. all_judge (run c events) (always_good c events input)
