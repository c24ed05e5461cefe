use Rattle.std.proofs.Common.{◌≡◌, Bool, true, false, Result, Some, Ok, Err, refl, sym, ◌∙◌, ap, subst}
use Rattle.std.specs.Prelude.{IsOk, is_some}
use Rattle.std.proofs.lemmas.Result.{IfOk-weaker}
use Rattle.spec_roles.specs.HardState.{HardState, hard_step}
use Rattle.spec_roles.specs.Refusals.{Refusal}
use Rattle.hard_state.specs.declared.fault.HardFault.TheVariants.{DiskFault}
use Rattle.party_commands.specs.declared.masters.CommandError.TheVariants.{Memory}
use Rattle.party_commands.specs.CommandedParties.{event_of, hard_after, writing_as}
use Rattle.party_commands.specs.CarriedCommands.{CarriesOut, IsTold, carried_out}
use Rattle.party_commands.proofs.CarriedCommandsLemmas.{alone_obeyed, carried_ok, fits, is_alone, is_writing, leaves_untouched, leaves_written, on_ok, refused_obeyed, step_wanted, written_obeyed}
use Rattle.party_commands.proofs.masters.carry_out.Goals as goal

pub tell-requires-clause-fitting : goal.tell-requires-clause-fitting
tell-requires-clause-fitting g c = (is_alone c.args.event c.requires.command (sym c.writing_of.ensures.writing ∙ ap writing_as c.in_default.is)).fits c.args.master.core

pub returns-in_default-clause-obeys : goal.returns-in_default-clause-obeys
returns-in_default-clause-obeys g c =
    let event = c.args.event in
    let core = c.args.master.core in
    let h = c.args.hard.now.value in
    let alone = is_alone event c.requires.command (sym c.writing_of.ensures.writing ∙ ap writing_as c.in_default.is) in
    IfOk-weaker c.tell.result (IsTold event core) (CarriesOut event h h core) (λ after told. alone_obeyed event h core alone after told) c.tell.ensures.told

pub returns-in_default-clause-told : goal.returns-in_default-clause-told
returns-in_default-clause-told g c r s =
    let k = c.args.hard.now in
    leaves_untouched k k (hard_after k.value (carried_out r k.value c.args.event)) c.tell.result (g.D.Disk.told c.args.disk.now) (g.D.Disk.told c.args.disk.now) refl refl

pub returns-in-Ok-written_refusal-clause-obeys : goal.returns-in-Ok-written_refusal-clause-obeys
returns-in-Ok-written_refusal-clause-obeys g c =
    let event = c.args.event in
    let v = event_of c.in-Some.writing in
    let h = c.args.hard.now.value in
    let x = is_writing event v (sym c.writing_of.ensures.writing ∙ ap writing_as c.in-Some.is) in
    let kept = (c.in-Err.ensures.unchanged c.in-Ok-written_refusal.ensures.served).0 in
    let step = c.in-Ok-written_refusal.ensures.refused (hard_step h c.epoch.result v) c.in-Err.ensures.refused in
    refused_obeyed event v h c.args.master.core c.epoch.result x c.epoch.ensures.stands c.write.new.hard.value c.args.master c.in-Ok-written_refusal.refusal refl (ap (λ k. k.value) kept) step

pub returns-in-Ok-written_refusal-clause-told : goal.returns-in-Ok-written_refusal-clause-told
returns-in-Ok-written_refusal-clause-told g c r s =
    let k = c.args.hard.now in
    let kept = c.in-Err.ensures.unchanged c.in-Ok-written_refusal.ensures.served in
    leaves_untouched k c.write.new.hard (hard_after k.value (carried_out r k.value c.args.event)) (Ok (c.args.master, Some c.in-Ok-written_refusal.refusal)) (g.D.Disk.told c.args.disk.now) (g.D.Disk.told c.write.new.disk)
    kept.0 (ap g.D.Disk.told kept.1)

pub returns-in-Err-written_refusal-clause-told : goal.returns-in-Err-written_refusal-clause-told
returns-in-Err-written_refusal-clause-told g c =
    let event = c.args.event in
    let v = event_of c.in-Some.writing in
    let x = is_writing event v (sym c.writing_of.ensures.writing ∙ ap writing_as c.in-Some.is) in
    leaves_written event v c.args.hard.now c.write.new.hard c.args.master.core c.epoch.result (Err c.in-Err.fault) (Err c.in-Err-written_refusal.halt) (g.D.Disk.told c.args.disk.now) (g.D.Disk.told c.write.new.disk)
    x c.epoch.ensures.stands (λ new rest. tt) c.in-Err.ensures.told

pub returns-in-Err-written_refusal-clause-served : goal.returns-in-Err-written_refusal-clause-served
returns-in-Err-written_refusal-clause-served g c other =
    c.in-Err.ensures.served (λ is. c.in-Err-written_refusal.ensures.told (λ same. other (ap (λ h. Err h) same)) (let fault : c.in-Err.fault ≡ DiskFault = cc in fault))

pub tell-requires-2-clause-fitting : goal.tell-requires-2-clause-fitting
tell-requires-2-clause-fitting g c =
    let k = c.requires.knows in
    fits c.args.event c.args.hard.now.value c.write.new.hard.value c.args.master.core c.epoch.result (event_of c.in-Some.writing) c.requires.command (sym c.writing_of.ensures.writing ∙ ap writing_as c.in-Some.is) k
    (c.epoch.ensures.stands k.role k.stands) c.in-Ok.ensures.ok.0

pub returns-clause-obeys : goal.returns-clause-obeys
returns-clause-obeys g c =
    let event = c.args.event in
    let v = event_of c.in-Some.writing in
    let h = c.args.hard.now.value in
    let core = c.args.master.core in
    let k = c.write.new.hard.value in
    let x = is_writing event v (sym c.writing_of.ensures.writing ∙ ap writing_as c.in-Some.is) in
    IfOk-weaker c.tell-2.result (IsTold event core) (CarriesOut event h k core) (λ after told. written_obeyed event v h core c.epoch.result x c.epoch.ensures.stands k c.in-Ok.ensures.ok.0 after told) c.tell-2.ensures.told

pub returns-clause-told : goal.returns-clause-told
returns-clause-told g c =
    let event = c.args.event in
    let v = event_of c.in-Some.writing in
    let x = is_writing event v (sym c.writing_of.ensures.writing ∙ ap writing_as c.in-Some.is) in
    leaves_written event v c.args.hard.now c.write.new.hard c.args.master.core c.epoch.result (Ok c.in-Ok.field-0) c.tell-2.result (g.D.Disk.told c.args.disk.now) (g.D.Disk.told c.write.new.disk)
    x c.epoch.ensures.stands (λ new rest. on_ok c.tell-2.result rest) c.in-Ok.ensures.told

pub returns-in_default-clause-memory : goal.returns-in_default-clause-memory
returns-in_default-clause-memory g c is writes r s = let none = sym c.writing_of.ensures.writing ∙ ap writing_as c.in_default.is in absurd (not_written (ap is_some none) writes)
  where
    not_written : {b : Bool} → b ≡ false → b ≡ true → ⊥
    not_written f t = cc

pub returns-in-Err-written_refusal-clause-memory : goal.returns-in-Err-written_refusal-clause-memory
returns-in-Err-written_refusal-clause-memory g c is writes r s =
    let event = c.args.event in
    let v = event_of c.in-Some.writing in
    let h = c.args.hard.now.value in
    let x = is_writing event v (sym c.writing_of.ensures.writing ∙ ap writing_as c.in-Some.is) in
    let halt : c.written_refusal.result ≡ Err Memory = c.in-Err-written_refusal.is ∙ (let same : c.in-Err-written_refusal.halt ≡ Memory = cc in ap (λ h. Err h) same) in
    carried_ok event v h c.args.master.core c.epoch.result x c.epoch.ensures.stands r s
    (step_wanted (hard_step h c.epoch.result v) c.in-Err.fault c.in-Err.ensures.refused (c.written_refusal.ensures.memory halt))

pub returns-clause-memory : goal.returns-clause-memory
returns-clause-memory g c is writes r s =
    let event = c.args.event in
    let v = event_of c.in-Some.writing in
    let x = is_writing event v (sym c.writing_of.ensures.writing ∙ ap writing_as c.in-Some.is) in
    carried_ok event v c.args.hard.now.value c.args.master.core c.epoch.result x c.epoch.ensures.stands r s (subst (λ (y : Result HardState Refusal). IsOk y) (sym c.in-Ok.ensures.ok.0) refl)
