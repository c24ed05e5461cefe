use Rattle.std.proofs.Common.{Option, sym, subst}
use Rattle.std.proofs.lemmas.Result.{on_ok_weaker}
use Rattle.schedule_unit.specs.declared.party.MachineNo.{MachineNo}
use Rattle.ledger_updates.specs.OfNumbers.{turns, AreReached}
use Rattle.ledger_updates.specs.TouchedNumbers.{named_machine, IsRowShown}
use Rattle.ledger_updates.proofs.rows.show_named.Goals as goal

pub returns-in-Some : goal.returns-in-Some
returns-in-Some c =
    let ns = c.args.numbers.now in
    on_ok_weaker c.show_machines.result (λ h. subst (λ (o : Option MachineNo). AreReached (IsRowShown o ns) (turns ns (named_machine o)) c.args.sides.now.items c.show_machines.new.sides.items) (sym c.in-Some.is) h) c.show_machines.ensures

pub returns-in-None : goal.returns-in-None
returns-in-None c =
    let ns = c.args.numbers.now in
    on_ok_weaker c.show_machines-in-None.result (λ h. subst (λ (o : Option MachineNo). AreReached (IsRowShown c.args.even_if_equal ns) (turns ns (named_machine o)) c.args.sides.now.items c.show_machines-in-None.new.sides.items) (sym c.in-None.is) h) c.show_machines-in-None.ensures
