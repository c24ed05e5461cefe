use Rattle.std.proofs.Common.{Ok, Err, Some, None}
use Rattle.party_commands.specs.CommandedParties.{master_command}
use Rattle.running_parties.specs.RunningMasters.{master_steps}
use Rattle.running_parties.proofs.SlotsLemmas.{may_do, put_back, within_none, within_step, within_still}
use Rattle.running_parties.proofs.MastersLemmas.{knows_written, obeyed_here, obeyed_none, rests_obeyed, rests_still}
use Rattle.running_parties.proofs.masters.obey.Goals as goal

pub obey-requires-clause-knows : goal.obey-requires-clause-knows
obey-requires-clause-knows g c = knows_written c.args.epoch c.args.hard.now.value c.in-Some.master c.args.masters.now c.requires.over c.in-Some.ensures.0

pub obey-requires-clause-steps : goal.obey-requires-clause-steps
obey-requires-clause-steps g c = may_do master_steps _ c.in-Some.master c.requires.steps c.in-Some.ensures.0

pub returns-in_default-clause-world : goal.returns-in_default-clause-world
returns-in_default-clause-world g c = obeyed_none c.parties_join.ensures.governs c.args.epoch (master_command c.args.command.now) c.args.hard.now.value c.args.masters.now c.take.new.self c.in_default.ensures

pub returns-in_default-clause-within : goal.returns-in_default-clause-within
returns-in_default-clause-within g c = λ most. within_still master_steps c.args.epoch most c.args.masters.now c.take.new.self c.in_default.ensures

pub returns-in_default-clause-told : goal.returns-in_default-clause-told
returns-in_default-clause-told g c = rests_still c.args.hard.now (Ok None) (g.D.Disk.told c.args.disk.now)

pub returns-in-Ok-clause-world : goal.returns-in-Ok-clause-world
returns-in-Ok-clause-world g c =
    let e = c.args.epoch in
    let p = c.in-Some.master in
    let q = c.in-Ok.master in
    obeyed_here c.parties_join.ensures.governs e (master_command c.args.command.now) c.args.hard.now.value c.obey.new.hard.value p q c.in-Ok.answer c.args.masters.now c.put.new.self c.in-Some.ensures.0
    (put_back e q c.args.masters.now c.take.new.self c.put.new.self c.in-Some.ensures.1 c.put.ensures) c.in-Ok.ensures.obeys

pub returns-in-Ok-clause-within : goal.returns-in-Ok-clause-within
returns-in-Ok-clause-within g c = λ most.
    let e = c.args.epoch in
    let p = c.in-Some.master in
    let q = c.in-Ok.master in
    within_step master_steps e most p q c.args.masters.now c.put.new.self c.in-Some.ensures.0 c.in-Ok.ensures.steps (put_back e q c.args.masters.now c.take.new.self c.put.new.self c.in-Some.ensures.1 c.put.ensures)

pub returns-in-Ok-clause-told : goal.returns-in-Ok-clause-told
returns-in-Ok-clause-told g c =
    let h = c.args.hard.now in
    let knows = knows_written c.args.epoch h.value c.in-Some.master c.args.masters.now c.requires.over c.in-Some.ensures.0 in
    rests_obeyed h c.obey.new.hard _ (Ok (c.in-Ok.master, c.in-Ok.answer)) (Ok (Some c.in-Ok.answer)) (λ X x. x) (g.D.Disk.told c.args.disk.now) (g.D.Disk.told c.obey.new.disk) (c.in-Ok.ensures.told knows.role knows.stands)

pub returns-in-Err-clause-within : goal.returns-in-Err-clause-within
returns-in-Err-clause-within g c = λ most. within_none master_steps c.args.epoch most _ c.args.masters.now c.take.new.self c.in-Some.ensures.1

pub returns-in-Err-clause-told : goal.returns-in-Err-clause-told
returns-in-Err-clause-told g c =
    let h = c.args.hard.now in
    let knows = knows_written c.args.epoch h.value c.in-Some.master c.args.masters.now c.requires.over c.in-Some.ensures.0 in
    rests_obeyed h c.obey.new.hard _ (Err c.in-Err.halt) (Err c.in-Err.halt) (λ X x. x) (g.D.Disk.told c.args.disk.now) (g.D.Disk.told c.obey.new.disk) (c.in-Err.ensures.told knows.role knows.stands)
