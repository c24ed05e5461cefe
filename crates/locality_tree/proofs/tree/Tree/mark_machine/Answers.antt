use Rattle.std.proofs.Common.{◌<◌, length, sym, subst, arith}
use Rattle.locality_tree.specs.Trees.{TreeRecord}
use Rattle.locality_tree.proofs.TreesAsSeen.{waiting_seen, marks}
use Rattle.locality_tree.proofs.tree.Tree.mark_machine.Goals as goal

pub turn_to-requires-clause-fits : goal.turn_to-requires-clause-fits
turn_to-requires-clause-fits c =
    let inside : c.args.machine.0 < length c.self.inside.racks.items = subst (λ (t : TreeRecord). c.args.machine.0 < length t.racks) (sym c.self.view_is) c.requires.machine in
    let count = c.self.invariant.queue_count in
    waiting_seen c.self.inside.racks.items c.self.inside.layout c.self.invariant c.args.entry.now c.args.self.now c.self.view_is c.standing_lists.ensures.entries c.requires.waits c.args.machine.0 (omega arith)

pub invariant_of-self : goal.invariant_of-self
invariant_of-self c =
    let inside : c.args.machine.0 < length c.self.inside.racks.items = subst (λ (t : TreeRecord). c.args.machine.0 < length t.racks) (sym c.self.view_is) c.requires.machine in
    (marks c.self.inside.racks.items c.self.inside.layout c.self.invariant c.args.entry.now c.args.self.now c.self.view_is c.turn_to.new.self c.turn_to.ensures.kept c.turn_to.ensures.count c.standing_lists.ensures.entries c.requires.waits c.args.machine.0 c.args.unmet (omega arith) c.turn_to.ensures.turned).tree

pub returns : goal.returns
returns c =
    let inside : c.args.machine.0 < length c.self.inside.racks.items = subst (λ (t : TreeRecord). c.args.machine.0 < length t.racks) (sym c.self.view_is) c.requires.machine in
    (marks c.self.inside.racks.items c.self.inside.layout c.self.invariant c.args.entry.now c.args.self.now c.self.view_is c.turn_to.new.self c.turn_to.ensures.kept c.turn_to.ensures.count c.standing_lists.ensures.entries c.requires.waits c.args.machine.0 c.args.unmet (omega arith) c.turn_to.ensures.turned).is
