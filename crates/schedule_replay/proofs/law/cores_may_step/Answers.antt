use Rattle.schedule_replay.proofs.MovesLemmas.{all_wider}
use Rattle.schedule_replay.proofs.law.cores_may_step.Goals as goal

pub returns-clause-agents : goal.returns-clause-agents
returns-clause-agents c = λ r m can. c.steps_left.ensures.one can.steps r.agents m can.within.agents can.few

pub returns-clause-apps : goal.returns-clause-apps
returns-clause-apps c = λ r a can. c.steps_left-2.ensures.one can.steps r.apps a can.within.apps can.few

pub returns-clause-masters : goal.returns-clause-masters
returns-clause-masters c = λ r e can. c.steps_left-3.ensures.one can.steps r.masters e can.within.masters can.few

pub returns-clause-wider : goal.returns-clause-wider
returns-clause-wider c = λ n l r within le. all_wider n l r le within
