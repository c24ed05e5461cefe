use Rattle.std.proofs.Common.{◌≡◌, true, false, is_some, Err, sym, ◌∙◌, ap, subst}
use Rattle.std.specs.Prelude.{IfOk}
use Rattle.std.proofs.lemmas.Result.{IfOk-weaker}
use Rattle.fuxi_terms.proofs.Lookups.{none_is}
use Rattle.spec_roles.specs.HardState.{HardEvent}
use Rattle.spec_roles.specs.MasterSteps.{command_of}
use Rattle.party_commands.specs.CommandedParties.{TestsAs, done_by, event_of, has_writing, master_command, written_for}
use Rattle.schedule_text.specs.Printing.{as_refusal}
use Rattle.schedule_text.specs.declared.refusal.Refusal.TheVariants as why
use Rattle.schedule_replay.specs.MasterCommands.{governing}
use Rattle.schedule_replay.specs.HaltsInWorld.{HaltsCommand, HaltsWithin, WritesAs}
use Rattle.schedule_replay.proofs.CommandSteps.{none_told}
use Rattle.schedule_replay.proofs.MasterCommandsLemmas.{runs_in}
use Rattle.schedule_replay.proofs.HaltsInWorldLemmas.{event_writes, halt_refused, tests_refuse}
use Rattle.schedule_replay.proofs.halts.halt_command.Goals as goal

pub returns-then-not-runs-clause-world : goal.returns-then-not-runs-clause-world
returns-then-not-runs-clause-world c w x cluster s named is =
    let e = c.args.epoch in
    let stop = c.args.stop in
    halt_refused w x e stop.calls stop.all (governing c.args.checkpoint.now c.args.masters.now) why.NotRunning s named (is ∙ none_told w e (master_command c.args.command.now) (none_is _ (sym (c.if-not-runs.ensures w s.stand))))

pub returns-in-Ok-Err-clause-world : goal.returns-in-Ok-Err-clause-world
returns-in-Ok-Err-clause-world c w x cluster s named is =
    let e = c.args.epoch in
    let command = master_command c.args.command.now in
    let stop = c.args.stop in
    let r = runs_in w e (sym (c.if-not-runs.ensures w s.stand)) in
    let refusal = c.in-Ok-Err.refusal in
    let says = subst (TestsAs c.args.cluster.now command) c.in-Ok-Err.field-0-is c.in-Ok-Err.ensures.tests w.hard r.master in
    halt_refused w x e stop.calls stop.all (governing c.args.checkpoint.now c.args.masters.now) refusal s named
    (is ∙ tests_refuse w e command r.master r.is (s.good.recorded.masters e r.master r.is).0 refusal (subst (λ d. command_of d w.hard r.master command ≡ Err (as_refusal refusal)) cluster says))

pub returns-clause-world : goal.returns-clause-world
returns-clause-world c =
    let e = c.args.epoch in
    let command = master_command c.args.command.now in
    let event = c.in-Ok-Ok.event in
    let v = event_of c.in-Some.writing in
    let stop = c.args.stop in
    let old = governing c.args.checkpoint.now c.args.masters.now in
    let new = governing c.halt_within.new.checkpoint c.halt_within.new.masters in
    IfOk-weaker c.halt_within.result (HaltsWithin e v stop old new) (HaltsCommand c.args.cluster.now e command stop old new) (λ line halts w x cluster s named is.
    let r = runs_in w e (sym (c.if-not-runs.ensures w s.stand)) in
    let says = subst (TestsAs c.args.cluster.now command) c.in-Ok-Ok.field-0-is c.in-Ok-Ok.ensures.tests w.hard r.master in
    let same = subst (λ d. command_of d w.hard r.master command ≡ done_by d w.hard r.master event) cluster says in
    halts w x s named (subst (λ t. WritesAs w t e v) (sym is) (event_writes w e command r.master r.is (s.good.recorded.masters e r.master r.is).0 event v same (sym c.in-Some.ensures.writing)))) c.halt_within.ensures.world

pub unreachable-requires : goal.unreachable-requires
unreachable-requires c =
    let command = master_command c.args.command.now in
    let writes = subst (λ a. IfOk a (λ event. is_some (written_for event) ≡ has_writing command)) c.in-Ok-Ok.field-0-is c.in-Ok-Ok.ensures.writes in
    let none : false ≡ true = ap (λ o. is_some {T = HardEvent} o) c.in-None.ensures.writing ∙ writes ∙ c.requires.writes in
    cc
