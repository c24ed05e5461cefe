use Rattle.std.proofs.Common.{rules, ◌≡◌, true, false, refl, subst}
use Rattle.fuxi_master.specs.Commands.{Preempts}
use Rattle.fuxi_master.specs.Seen.{core_of}
use Rattle.fuxi_master.specs.declared.event.MasterEvent.TheVariants.{Preempt}
use Rattle.fuxi_master.specs.declared.event.Outcome.TheVariants.{Refused}
use Rattle.fuxi_master.specs.declared.event.MasterRefusal.TheVariants.{NotServing, NothingToPreempt}
use Rattle.fuxi_master.proofs.StepsLemmas.{few_turns}
use Rattle.fuxi_master.proofs.AnswersAlike.{preempt_not_serving, preempt_nothing, has_room, room_made, stays}
use Rattle.fuxi_master.proofs.state.Core.step_preempt.Goals as goal

pub returns-then-not-self : goal.returns-then-not-self
returns-then-not-self c =
    let x = core_of c.args.self.now in
    let off : x.serving ≡ false = search rules in
    stays Preempt c.args.steps x x (Refused NotServing) c.requires.core c.requires.within refl (preempt_not_serving x off) tt

pub preempt-requires-clause-turns : goal.preempt-requires-clause-turns
preempt-requires-clause-turns c = few_turns c.args.steps (core_of c.args.self.now) c.requires.within c.requires.steps

pub returns-then-not-found : goal.returns-then-not-found
returns-then-not-found c =
    let x = core_of c.args.self.now in
    let y = core_of c.preempt.new.self in
    let on = c.if-not-self.false in
    let off : c.in_ok-found.found ≡ false = search rules in
    let found : Preempts false x y = subst (λ b. Preempts b x y) off c.in_ok-found.ensures in
    stays Preempt c.args.steps x y (Refused NothingToPreempt) c.requires.core c.requires.within found.0 (λ r h. preempt_nothing x on r h (found.1 r h)) tt

pub end_step-requires-clause-mid : goal.end_step-requires-clause-mid
end_step-requires-clause-mid c =
    let x = core_of c.args.self.now in
    let y = core_of c.preempt.new.self in
    let made : Preempts true x y = subst (λ b. Preempts b x y) c.if-not-found.false c.in_ok-found.ensures in
    (made c.news-news.result c.news-news.ensures).mid

pub end_step-requires-clause-role : goal.end_step-requires-clause-role
end_step-requires-clause-role c =
    let x = core_of c.args.self.now in
    let y = core_of c.preempt.new.self in
    let made : Preempts true x y = subst (λ b. Preempts b x y) c.if-not-found.false c.in_ok-found.ensures in
    has_room c.news-news.result x y c.requires.core (made c.news-news.result c.news-news.ensures)

pub end_step-requires-clause-within : goal.end_step-requires-clause-within
end_step-requires-clause-within c =
    let x = core_of c.args.self.now in
    let y = core_of c.preempt.new.self in
    let made : Preempts true x y = subst (λ b. Preempts b x y) c.if-not-found.false c.in_ok-found.ensures in
    (made c.news-news.result c.news-news.ensures).within c.args.steps c.requires.within

pub returns : goal.returns
returns c =
    let x = core_of c.args.self.now in
    let y = core_of c.preempt.new.self in
    let on = c.if-not-self.false in
    let made : Preempts true x y = subst (λ b. Preempts b x y) c.if-not-found.false c.in_ok-found.ensures in
    record {
      core = c.in_ok-end_step.ensures.core;
      within = c.in_ok-end_step.ensures.within;
      answers = room_made x y (core_of c.end_step.new.self) c.news-news.result on c.news-news.ensures (made c.news-news.result c.news-news.ensures) c.in_ok-end_step.ensures.ends;
      formed = tt;
    }
