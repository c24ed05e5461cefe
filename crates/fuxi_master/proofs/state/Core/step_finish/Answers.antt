use Rattle.std.proofs.Common.{[], None, refl}
use Rattle.spec_roles.specs.MasterSteps.{Ends, ended_in}
use Rattle.fuxi_master.specs.Seen.{core_of}
use Rattle.fuxi_master.specs.declared.event.MasterEvent.TheVariants.{Finish}
use Rattle.fuxi_master.proofs.StepsLemmas.{has_role}
use Rattle.fuxi_master.proofs.ToldAsHeardLemmas.{told_ended}
use Rattle.fuxi_master.proofs.AnswersAlike.{commanded, named_by, is_done}
use Rattle.fuxi_master.proofs.state.Core.step_finish.Goals as goal

pub end_step-requires-clause-role : goal.end_step-requires-clause-role
end_step-requires-clause-role c = has_role c.in_ok-news.news _ (core_of c.args.self.now) (core_of c.end_job.new.self) c.requires.core.near c.in_ok-news.ensures.changes (told_ended c.args.app.0 c.requires.core.near.role c.requires.core.told)

pub end_step-requires-clause-within : goal.end_step-requires-clause-within
end_step-requires-clause-within c = c.in_ok-news.ensures.changes.within c.args.steps c.requires.within

pub returns : goal.returns
returns c = is_done (Finish c.args.app) c.args.steps (core_of c.args.self.now) (core_of c.end_step.new.self) c.in_ok-end_step.ensures.core c.in_ok-end_step.ensures.within
    (commanded c.in_ok-news.news (λ M. ended_in M c.args.app.0) ([]) (core_of c.args.self.now) (core_of c.end_job.new.self) (core_of c.end_step.new.self) (Ends c.args.app.0) c.in_ok-news.ensures.changes c.in_ok-end_step.ensures.ends (named_by None None c.in_ok-news.news c.in_ok-news.ensures.news.reported_is c.in_ok-news.ensures.news.admitted_is) (λ r h. refl))
