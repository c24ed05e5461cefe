use Rattle.std.proofs.Common.{map, sym, ap, ◌∙◌}
use Rattle.std.specs.Global.{Vec}
use Rattle.schedule_unit.specs.declared.party.MachineNo.{MachineNo}
use Rattle.spec_roles.specs.Votes.{is_marked}
use Rattle.bad_nodes.specs.Ranks.{number_of}
use Rattle.bad_nodes.proofs.MarkedLemmas.{one_fails, one_passes}
use Rattle.bad_nodes.proofs.votes.Votes.marked.Goals as goal
use Rattle.bad_nodes.proofs.votes.Votes.marked.Goals.{then-is_marked+in_ok-push, else-is_marked}

pub loop-number-preserved : goal.loop-number-preserved
loop-number-preserved c = elim c.if-is_marked.branch [
  | then-is_marked+in_ok-push w ↦
      ap (λ (ms : Vec MachineNo). map number_of ms.items) w.machines-is
      ∙ one_passes (is_marked c.args.self.now c.args.least) c.loop-number.number c.loop-number.machines.items _ (sym c.is_marked.ensures ∙ w.if-is_marked.true) w.in_ok-push.ensures.items c.loop-number.invariant
  | else-is_marked w ↦
      ap (λ (ms : Vec MachineNo). map number_of ms.items) w.machines-is
      ∙ one_fails (is_marked c.args.self.now c.args.least) c.loop-number.number c.loop-number.machines.items (sym c.is_marked.ensures ∙ w.if-is_marked.false) c.loop-number.invariant
]
