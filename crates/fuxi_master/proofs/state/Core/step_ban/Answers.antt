use Rattle.std.proofs.Common.{[], None, refl}
use Rattle.spec_roles.specs.MasterSteps.{Bans, banned_in}
use Rattle.fuxi_master.specs.Seen.{core_of}
use Rattle.fuxi_master.specs.declared.event.MasterEvent.TheVariants.{Ban}
use Rattle.fuxi_master.proofs.StepsLemmas.{has_role}
use Rattle.fuxi_master.proofs.AnswersAlike.{commanded, named_by, is_done}
use Rattle.fuxi_master.proofs.state.Core.step_ban.Goals as goal

pub end_step-requires-clause-role : goal.end_step-requires-clause-role
end_step-requires-clause-role c = has_role c.in_ok-news.news _ (core_of c.args.self.now) (core_of c.ban.new.self) c.requires.core.near c.in_ok-news.ensures.changes (record { told = c.requires.core.told.told; credits = c.requires.core.told.credits })

pub end_step-requires-clause-within : goal.end_step-requires-clause-within
end_step-requires-clause-within c = c.in_ok-news.ensures.changes.within c.args.steps c.requires.within

pub returns : goal.returns
returns c = is_done (Ban c.args.machine) c.args.steps (core_of c.args.self.now) (core_of c.end_step.new.self) c.in_ok-end_step.ensures.core c.in_ok-end_step.ensures.within
    (commanded c.in_ok-news.news (λ M. banned_in M c.args.machine.0) ([]) (core_of c.args.self.now) (core_of c.ban.new.self) (core_of c.end_step.new.self) (Bans c.args.machine.0) c.in_ok-news.ensures.changes c.in_ok-end_step.ensures.ends (named_by None None c.in_ok-news.news c.in_ok-news.ensures.news.reported_is c.in_ok-news.ensures.news.admitted_is) (λ r h. refl))
