use Rattle.std.proofs.Common.{subst}
use Rattle.hard_state.specs.HardFiles.{Kept}
use Rattle.spec_roles.specs.HardState.{Raise, hard_step}
use Rattle.running_parties.specs.RunningMasters.{MasterStartInWorld}
use Rattle.schedule_replay.proofs.MasterCommandsLemmas.{may_step, starts_done, starts_refused}
use Rattle.schedule_replay.proofs.commands.start_master.Goals as goal

pub returns-in-Ok-written_refusal-clause-world : goal.returns-in-Ok-written_refusal-clause-world
returns-in-Ok-written_refusal-clause-world c w cluster s =
    let e = c.args.epoch in
    let old = c.args.checkpoint.now in
    let refusal = c.in-Ok-written_refusal.ensures in
    starts_refused w e old c.write.new.self c.args.masters.now c.in-Ok-written_refusal.refusal s (c.in-Ok.ensures.world w s)
    (refusal.refused (hard_step old.hard.value e Raise) c.in-Err-write.ensures.refused) (c.in-Err-write.ensures.unchanged refusal.served)

pub returns-in-Ok-start_master-clause-world : goal.returns-in-Ok-start_master-clause-world
returns-in-Ok-start_master-clause-world c w cluster s =
    let e = c.args.epoch in
    let new = c.write.new.self in
    starts_done w e c.args.checkpoint.now new c.args.masters.now c.start_master.new.masters s (c.in-Ok.ensures.world w s) c.in-Ok-write.ensures.ok.0 c.in-Ok-write.ensures.ok.1
    (subst (λ d. MasterStartInWorld d new.hard.value e c.args.masters.now c.start_master.new.masters) cluster (subst (λ (h : Kept). MasterStartInWorld c.args.cluster.now h.value e c.args.masters.now c.start_master.new.masters) c.hard.ensures c.in-Ok-start_master.ensures.world))

pub returns-in-Ok-start_master-clause-steps : goal.returns-in-Ok-start_master-clause-steps
returns-in-Ok-start_master-clause-steps c = may_step c.args.masters.now c.start_master.new.masters c.in-Ok-start_master.ensures.within
