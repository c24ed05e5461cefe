use Rattle.std.proofs.Common.{[], None, refl}
use Rattle.spec_roles.specs.MasterSteps.{Begins}
use Rattle.fuxi_master.specs.Commands.{beginning}
use Rattle.fuxi_master.specs.Seen.{core_of}
use Rattle.fuxi_master.specs.declared.event.MasterEvent.TheVariants.{Begin}
use Rattle.fuxi_master.specs.declared.event.Outcome.TheVariants.{Refused}
use Rattle.fuxi_master.specs.declared.event.MasterRefusal.TheVariants.{AlreadyServing}
use Rattle.fuxi_master.proofs.StepsLemmas.{has_role}
use Rattle.fuxi_master.proofs.AnswersAlike.{commanded, named_by, begins, begins_refused, stays}
use Rattle.fuxi_master.proofs.state.Core.step_begin.Goals as goal

pub returns-then-self : goal.returns-then-self
returns-then-self c =
    let x = core_of c.args.self.now in
    stays Begin c.args.steps x x (Refused AlreadyServing) c.requires.core c.requires.within refl (begins_refused x c.if-self.true) tt

pub end_step-requires-clause-role : goal.end_step-requires-clause-role
end_step-requires-clause-role c = has_role c.begin-news.result _ (core_of c.args.self.now) (core_of c.begin-news.new.self) c.requires.core.near c.begin-news.ensures.changes (record { told = c.requires.core.told.told; credits = c.requires.core.told.credits })

pub end_step-requires-clause-within : goal.end_step-requires-clause-within
end_step-requires-clause-within c = c.begin-news.ensures.changes.within c.args.steps c.requires.within

pub returns : goal.returns
returns c =
    let x = core_of c.args.self.now in
    let d = c.begin-news.ensures in
    let news = c.begin-news.result in
    record {
      core = c.in_ok-end_step.ensures.core;
      within = c.in_ok-end_step.ensures.within;
      answers = commanded news beginning [] x (core_of c.begin-news.new.self) (core_of c.end_step.new.self) Begins d.changes c.in_ok-end_step.ensures.ends
          (named_by None None news d.news.reported_is d.news.admitted_is) (begins x c.if-self.false);
      formed = tt;
    }
