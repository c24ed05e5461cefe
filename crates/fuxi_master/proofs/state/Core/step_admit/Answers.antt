use Rattle.std.proofs.Common.{[], ◌∷◌, Some, None, refl}
use Rattle.spec_roles.specs.MasterSteps.{Admits}
use Rattle.spec_net.specs.Channels.{app_id}
use Rattle.fuxi_master.specs.Commands.{admitting}
use Rattle.fuxi_master.specs.Seen.{core_of}
use Rattle.fuxi_master.specs.declared.event.MasterEvent.TheVariants.{Admit}
use Rattle.fuxi_master.proofs.StepsLemmas.{has_role}
use Rattle.fuxi_master.proofs.ToldAsHeardLemmas.{told_admitted}
use Rattle.fuxi_master.proofs.AnswersAlike.{commanded, named_by, is_done}
use Rattle.fuxi_master.proofs.state.Core.step_admit.Goals as goal

pub end_step-requires-clause-role : goal.end_step-requires-clause-role
end_step-requires-clause-role c = has_role c.in_ok-core.news _ (core_of c.args.self) (core_of c.in_ok-core.core) c.requires.core.near c.in_ok-core.ensures.changes
    (told_admitted (core_of c.args.self) c.requires.core.near.kept.epoch c.args.job.now c.requires.unknown c.requires.core.near.role c.requires.core.near.stands c.requires.core.told)

pub end_step-requires-clause-within : goal.end_step-requires-clause-within
end_step-requires-clause-within c = c.in_ok-core.ensures.changes.within c.args.steps c.requires.within

pub returns : goal.returns
returns c = is_done (Admit c.args.job.now) c.args.steps (core_of c.args.self) (core_of c.end_step.new.self) c.in_ok-end_step.ensures.core c.in_ok-end_step.ensures.within
    (commanded c.in_ok-core.news (admitting c.args.job.now) (app_id c.args.job.now.number ∷ []) (core_of c.args.self) (core_of c.in_ok-core.core) (core_of c.end_step.new.self) (Admits c.args.job.now) c.in_ok-core.ensures.changes c.in_ok-end_step.ensures.ends (named_by None (Some (record { 0 = c.args.job.now.number })) c.in_ok-core.news c.in_ok-core.ensures.none c.in_ok-core.ensures.admitted) (λ r h. refl))
