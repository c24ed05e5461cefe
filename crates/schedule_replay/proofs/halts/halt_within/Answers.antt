use Rattle.spec_roles.specs.HardState.{hard_step}
use Rattle.party_commands.specs.CommandedParties.{event_of}
use Rattle.schedule_replay.proofs.MasterCommandsLemmas.{may_step}
use Rattle.schedule_replay.proofs.HaltsInWorldLemmas.{halt_done, halt_unwritten, no_want}
use Rattle.schedule_replay.proofs.halts.halt_within.Goals as goal

pub returns-in-Ok-clause-world : goal.returns-in-Ok-clause-world
returns-in-Ok-clause-world c w x s named writes =
    let stop = c.args.stop in
    let left = c.stop_master-ran.ensures.world w s.stand in
    halt_done w x c.args.epoch stop.calls stop.all c.in-Ok.written (event_of c.args.writing.now) c.args.checkpoint.now c.halt.new.self c.args.masters.now c.stop_master-ran.new.masters s named writes
    c.requires.within.few c.in-Ok.ensures.counts c.in-Ok.ensures.open c.in-Ok.ensures.left left.left

pub returns-in-Ok-clause-steps : goal.returns-in-Ok-clause-steps
returns-in-Ok-clause-steps c = may_step c.args.masters.now c.stop_master-ran.new.masters c.stop_master-ran.ensures.within

pub returns-in-Ok-written_refusal-clause-world : goal.returns-in-Ok-written_refusal-clause-world
returns-in-Ok-written_refusal-clause-world c w x s named writes =
    let stop = c.args.stop in
    let v = event_of c.args.writing.now in
    let old = c.args.checkpoint.now in
    let refusal = c.in-Ok-written_refusal.refusal in
    let says = c.in-Ok-written_refusal.ensures.refused in
    halt_unwritten w x c.args.epoch stop.calls stop.all v old c.halt.new.self c.args.masters.now refusal s named writes (says (hard_step old.hard.value c.args.epoch v) c.in-Err.ensures.refused) (c.in-Err.ensures.unchanged (no_want old.hard.value c.in-Err.fault refusal says))
