use Rattle.spec_world.proofs.GivesBackLemmas.{all_give_back, runs_give_back}
use Rattle.spec_world.proofs.law.gives_back_what_is_held.Goals as goal

pub returns-clause-always : goal.returns-clause-always
returns-clause-always c = λ cluster events. runs_give_back cluster events

pub returns-clause-good : goal.returns-clause-good
returns-clause-good c = λ w h. all_give_back w h.stands h.given
