use Rattle.std.proofs.Common.{◌<◌, length, sym, subst, ◌∙◌, arith}
use Rattle.locality_tree.specs.Trees.{TreeRecord}
use Rattle.locality_tree.proofs.TreesAsSeen.{waiting_seen, stands_seen}
use Rattle.locality_tree.proofs.tree.Tree.stands_on.Goals as goal

pub stands_at-requires-clause-fits : goal.stands_at-requires-clause-fits
stands_at-requires-clause-fits c =
    let inside : c.args.machine.0 < length c.self.inside.racks.items = subst (λ (t : TreeRecord). c.args.machine.0 < length t.racks) (sym c.self.view_is) c.requires.machine in
    let count = c.self.invariant.queue_count in
    waiting_seen c.self.inside.racks.items c.self.inside.layout c.self.invariant c.args.entry.now c.args.self.now c.self.view_is c.standing_lists.ensures.entries c.requires.waits c.args.machine.0 (omega arith)

pub returns : goal.returns
returns c = c.stands_at.ensures ∙ stands_seen c.self.inside.racks.items c.self.inside.layout c.self.invariant c.args.entry.now c.args.self.now c.self.view_is c.args.machine.0
