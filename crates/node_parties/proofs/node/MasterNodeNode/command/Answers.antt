use Rattle.std.proofs.Common.{rules, ◌≡◌, true, nat_eq, Some, refl, arith}
use Rattle.std.proofs.lemmas.Bool.Decides.{nat_tests}
use Rattle.spec_roles.specs.MasterRoles.{master_commanded, master_resynced}
use Rattle.spec_refinement.specs.SeenParties.{Masters}
use Rattle.node_core.specs.Roles.{OfMaster}
use Rattle.party_commands.specs.PartyCommands.{Governs, Resyncs, command_of}
use Rattle.party_commands.specs.CommandedParties.{master_command}
use Rattle.node_core.specs.PartyEvents.{becomes, commanded, master_after}
use Rattle.node_parties.specs.NodeCommands.{hard_in}
use Rattle.node_parties.proofs.NodeCommandsLemmas.{all_done, all_left, named_own}
use Rattle.node_parties.proofs.RestKept.{kept_halts, line_rests, on_err, told_halts}
use Rattle.node_parties.proofs.node.MasterNodeNode.command.Goals as goal

pub returns-else-epoch-clause-does : goal.returns-else-epoch-clause-does
returns-else-epoch-clause-does g c =
    let e = c.in-Some-Resync-Master-default.epoch in
    let event = c.args.event.now in
    let named : command_of event ≡ Some (Resyncs Masters e) = search rules in
    all_done event (λ h r. becomes (OfMaster h (master_resynced r))) c.args.self c.resync.result (λ h r s.
    let own = c.epoch.ensures.epoch h r s in
    let here : nat_eq e r.state.epoch ≡ true = let t = c.if-epoch.false in grind (arith, nat_tests, t, own) in
    named_own (OfMaster h r) (Resyncs Masters e) e r.state.epoch (becomes (OfMaster h (master_resynced r))) event named refl here) c.resync.ensures.does

pub returns-else-epoch-clause-halts : goal.returns-else-epoch-clause-halts
returns-else-epoch-clause-halts g c =
    on_err c.resync.result (λ r s. kept_halts c.args.self r (commanded r c.args.event.now).role (g.D.Disk.size c.args.disk.now) (g.D.Disk.told c.args.disk.now) s)

pub returns-else-epoch-2-clause-does : goal.returns-else-epoch-2-clause-does
returns-else-epoch-2-clause-does g c =
    let e = c.in-Some-Master.epoch in
    let x = master_command c.in-Some-Master.command in
    let event = c.args.event.now in
    let named : command_of event ≡ Some (Governs e x) = search rules in
    all_done event (λ h r. master_after h r (master_commanded r h x)) c.args.self c.obey.result (λ h r s.
    let own = c.epoch-in-Some-Master.ensures.epoch h r s in
    let here : nat_eq e r.state.epoch ≡ true = let t = c.if-epoch-2.false in grind (arith, nat_tests, t, own) in
    named_own (OfMaster h r) (Governs e x) e r.state.epoch (master_after h r (master_commanded r h x)) event named refl here) c.obey.ensures.does

pub returns-else-epoch-2-clause-leaves : goal.returns-else-epoch-2-clause-leaves
returns-else-epoch-2-clause-leaves g c =
    let e = c.in-Some-Master.epoch in
    let x = master_command c.in-Some-Master.command in
    let event = c.args.event.now in
    let named : command_of event ≡ Some (Governs e x) = search rules in
    all_left event (λ h r. master_after h r (master_commanded r h x)) c.args.self c.obey.result (g.D.Disk.told c.args.disk.now) (g.D.Disk.told c.obey.new.disk) (λ h r s.
    let own = c.epoch-in-Some-Master.ensures.epoch h r s in
    let here : nat_eq e r.state.epoch ≡ true = let t = c.if-epoch-2.false in grind (arith, nat_tests, t, own) in
    named_own (OfMaster h r) (Governs e x) e r.state.epoch (master_after h r (master_commanded r h x)) event named refl here) c.obey.ensures.told

pub returns-else-epoch-2-clause-told : goal.returns-else-epoch-2-clause-told
returns-else-epoch-2-clause-told g c =
    let x = master_command c.in-Some-Master.command in
    let tied = c.epoch-in-Some-Master.ensures.tied in
    line_rests c.args.self (hard_in (master_after tied.hard tied.role (master_commanded tied.role tied.hard x)).role) c.obey.result _ _ (g.D.Disk.told c.args.disk.now) (g.D.Disk.told c.obey.new.disk)
    (c.obey.ensures.told tied.hard tied.role tied.stands) c.obey.ensures.rests

pub returns-else-epoch-2-clause-halts : goal.returns-else-epoch-2-clause-halts
returns-else-epoch-2-clause-halts g c = on_err c.obey.result (λ r s.
    told_halts c.args.self r (commanded r c.args.event.now).role c.obey.result (g.D.Disk.size c.args.disk.now) (g.D.Disk.told c.args.disk.now) (g.D.Disk.told c.obey.new.disk) s (returns-else-epoch-2-clause-leaves g c r s))
