use Rattle.std.proofs.Common.{◌≡◌, Option, Result, sym, ◌∙◌, ap, subst}
use Rattle.std.specs.Prelude.{IfOk, IsOk, is_some}
use Rattle.std.proofs.lemmas.Result.{IfOk-weaker}
use Rattle.fuxi_io.specs.Disks.{WhereTold}
use Rattle.spec_roles.specs.HardState.{HardState}
use Rattle.spec_roles.specs.Refusals.{Refusal as WrittenRefusal}
use Rattle.spec_roles.specs.MasterRoles.{MasterRole, master_commanded}
use Rattle.fuxi_master.specs.Cores.{MasterRecord, StandsFor}
use Rattle.fuxi_master.specs.declared.event.MasterEvent.{MasterEvent}
use Rattle.schedule_text.specs.declared.refusal.Refusal.{Refusal}
use Rattle.party_commands.specs.CommandedParties.{LeavesOrder, ObeyedAs, TestsAs, has_writing, hard_after, master_command, written_for}
use Rattle.party_commands.specs.CarriedCommands.{CarriesOut}
use Rattle.party_commands.proofs.CommandedPartiesLemmas.{commanded_as, may_want, tests_want}
use Rattle.party_commands.proofs.masters.obey.Goals as goal

pub returns-in-Ok-Ok-clause-obeys : goal.returns-in-Ok-Ok-clause-obeys
returns-in-Ok-Ok-clause-obeys g c =
    let core = c.args.master.core in
    let h = c.args.hard.now.value in
    let k = c.carry_out.new.hard.value in
    let x = master_command c.args.command.now in
    let tests = subst (TestsAs c.cluster.result.now x) c.in-Ok-Ok.field-0-is c.in-Ok-Ok.ensures.tests in
    IfOk-weaker c.carry_out.result (CarriesOut c.in-Ok-Ok.event h k core)
    (λ (after : MasterRecord × Option Refusal). (r : MasterRole) → StandsFor core r → ObeyedAs r h k after.0.core after.1 (master_commanded r h x))
    (λ after carries r s.
    let cluster = c.cluster.ensures.cluster ∙ ap (λ t. t.cluster) c.table.ensures.table ∙ s.stands.cluster in
    subst (ObeyedAs r h k after.0.core after.1) (sym (commanded_as c.cluster.result.now h r x c.in-Ok-Ok.event cluster tests)) (carries r s)) c.carry_out.ensures.obeys

pub returns-in-Ok-Ok-clause-told : goal.returns-in-Ok-Ok-clause-told
returns-in-Ok-Ok-clause-told g c r s =
    let h = c.args.hard.now.value in
    let x = master_command c.args.command.now in
    let tests = subst (TestsAs c.cluster.result.now x) c.in-Ok-Ok.field-0-is c.in-Ok-Ok.ensures.tests in
    let cluster = c.cluster.ensures.cluster ∙ ap (λ t. t.cluster) c.table.ensures.table ∙ s.stands.cluster in
    subst (λ (y : Result (MasterRole × HardState) WrittenRefusal). WhereTold (LeavesOrder c.args.hard.now c.carry_out.new.hard (hard_after h y) c.carry_out.result) (g.D.Disk.told c.args.disk.now) (g.D.Disk.told c.carry_out.new.disk))
    (sym (commanded_as c.cluster.result.now h r x c.in-Ok-Ok.event cluster tests)) (c.carry_out.ensures.told r s)

pub returns-in-Ok-Ok-clause-memory : goal.returns-in-Ok-Ok-clause-memory
returns-in-Ok-Ok-clause-memory g c is r s =
    let h = c.args.hard.now.value in
    let x = master_command c.args.command.now in
    let tests = subst (TestsAs c.cluster.result.now x) c.in-Ok-Ok.field-0-is c.in-Ok-Ok.ensures.tests in
    let cluster = c.cluster.ensures.cluster ∙ ap (λ t. t.cluster) c.table.ensures.table ∙ s.stands.cluster in
    let written = subst (λ (y : Result MasterEvent Refusal). IfOk y (λ event. is_some (written_for event) ≡ has_writing x)) c.in-Ok-Ok.field-0-is c.in-Ok-Ok.ensures.writes in
    may_want r h x (λ writes.
    subst (λ (y : Result (MasterRole × HardState) WrittenRefusal). IsOk y) (sym (commanded_as c.cluster.result.now h r x c.in-Ok-Ok.event cluster tests)) (c.carry_out.ensures.memory is (written ∙ writes) r s))

pub returns-in-Err-clause-memory : goal.returns-in-Err-clause-memory
returns-in-Err-clause-memory g c is r s =
    let cluster = c.cluster.ensures.cluster ∙ ap (λ t. t.cluster) c.table.ensures.table ∙ s.stands.cluster in
    tests_want c.cluster.result.now r c.args.hard.now.value (master_command c.args.command.now) cluster c.in-Err.ensures.memory
