use Rattle.std.proofs.Common.{Ok, Err, sym, subst}
use Rattle.party_commands.specs.CommandedParties.{master_command}
use Rattle.node_parties.specs.MasterParties.{NodeRecord, IsMasterOf, StandsAs}
use Rattle.node_parties.proofs.KnowledgeKept.{tied_by}
use Rattle.node_parties.proofs.NodeCommandsLemmas.{knows_written, leaves_obeyed, obeyed}
use Rattle.node_core.specs.PartyEvents.{IsCommanded, master_after}
use Rattle.node_core.specs.NodeTexts.{as_answer}
use Rattle.spec_roles.specs.MasterRoles.{master_commanded}
use Rattle.node_parties.proofs.node.MasterNode.obey.Goals as goal

pub obey-requires-clause-knows : goal.obey-requires-clause-knows
obey-requires-clause-knows g c = knows_written c.self.inside.hard c.self.inside.master c.self.invariant

pub invariant_of-result : goal.invariant_of-result
invariant_of-result g c =
    let v = c.self.invariant in
    let command = master_command c.args.command.now in
    let new : NodeRecord = record { hard = c.obey.new.hard; master = c.in-Ok.master } in
    tied_by new (master_after v.hard v.role (master_commanded v.role v.hard command)).role
    (obeyed (record { hard = c.self.inside.hard; master = c.self.inside.master }) new v.hard v.role command c.in-Ok.refusal v.stands (c.in-Ok.ensures.obeys v.role v.stands.stands)).stands

pub returns-in-Ok-clause-does : goal.returns-in-Ok-clause-does
returns-in-Ok-clause-does g c h r s =
    let command = master_command c.args.command.now in
    let new : NodeRecord = record { hard = c.obey.new.hard; master = c.in-Ok.master } in
    let of = subst (IsMasterOf h r) (sym c.self.view_is) s in
    subst (λ a. IsCommanded (StandsAs new) (as_answer a) (master_after h r (master_commanded r h command))) (sym c.answer_of.ensures)
    (obeyed (record { hard = c.self.inside.hard; master = c.self.inside.master }) new h r command c.in-Ok.refusal of (c.in-Ok.ensures.obeys r of.stands))

pub returns-in-Ok-clause-told : goal.returns-in-Ok-clause-told
returns-in-Ok-clause-told g c h r s =
    let new : NodeRecord = record { hard = c.obey.new.hard; master = c.in-Ok.master } in
    let of = subst (IsMasterOf h r) (sym c.self.view_is) s in
    leaves_obeyed c.args.self c.self.inside.hard c.obey.new.hard c.self.inside.master h r (master_command c.args.command.now) (Ok (c.in-Ok.master, c.in-Ok.refusal)) (Ok (new, c.answer_of.result)) _ _
    c.self.view_is of.value (λ new rest. rest) (c.in-Ok.ensures.told r of.stands)

pub returns-in-Err-clause-told : goal.returns-in-Err-clause-told
returns-in-Err-clause-told g c h r s =
    let of = subst (IsMasterOf h r) (sym c.self.view_is) s in
    leaves_obeyed c.args.self c.self.inside.hard c.obey.new.hard c.self.inside.master h r (master_command c.args.command.now) (Err c.in-Err.halt) (Err c.in-Err.halt) _ _
    c.self.view_is of.value (λ new rest. tt) (c.in-Err.ensures.told r of.stands)
