use Rattle.std.proofs.Common.{[], None, refl}
use Rattle.spec_roles.specs.MasterSteps.{Unbans}
use Rattle.fuxi_master.specs.Commands.{unbanned_in}
use Rattle.fuxi_master.specs.Seen.{core_of}
use Rattle.fuxi_master.specs.declared.event.MasterEvent.TheVariants.{Unban}
use Rattle.fuxi_master.proofs.StepsLemmas.{has_role}
use Rattle.fuxi_master.proofs.AnswersAlike.{commanded, named_by, is_done}
use Rattle.fuxi_master.proofs.state.Core.step_unban.Goals as goal

pub end_step-requires-clause-role : goal.end_step-requires-clause-role
end_step-requires-clause-role c = has_role c.unban-news.result _ (core_of c.args.self.now) (core_of c.unban-news.new.self) c.requires.core.near c.unban-news.ensures.changes (record { told = c.requires.core.told.told; credits = c.requires.core.told.credits })

pub end_step-requires-clause-within : goal.end_step-requires-clause-within
end_step-requires-clause-within c = c.unban-news.ensures.changes.within c.args.steps c.requires.within

pub returns : goal.returns
returns c = is_done (Unban c.args.machine) c.args.steps (core_of c.args.self.now) (core_of c.end_step.new.self) c.in_ok-end_step.ensures.core c.in_ok-end_step.ensures.within
    (commanded c.unban-news.result (λ M. unbanned_in M c.args.machine.0) ([]) (core_of c.args.self.now) (core_of c.unban-news.new.self) (core_of c.end_step.new.self) (Unbans c.args.machine.0) c.unban-news.ensures.changes c.in_ok-end_step.ensures.ends (named_by None None c.unban-news.result c.unban-news.ensures.news.reported_is c.unban-news.ensures.news.admitted_is) (λ r h. refl))
