use Rattle.std.proofs.Common.{sym, ap, ◌∙◌, ◌+◌, arith}
use Rattle.locality_tree.specs.Trees.{refreshed}
use Rattle.locality_tree.proofs.TreesAsSeen.{fits_seen, begins, leaves}
use Rattle.locality_tree.proofs.tree.Tree.refresh.Goals as goal

pub turn_to-requires-clause-fits : goal.turn_to-requires-clause-fits
turn_to-requires-clause-fits c =
    let count = c.self.invariant.queue_count in
    fits_seen c.self.inside.racks.items c.self.inside.layout c.self.invariant c.args.entry.now c.args.self.now c.self.view_is c.requires.admitted c.requires.entry (c.len.result + 64) (omega arith)

pub invariant_of-self : goal.invariant_of-self
invariant_of-self c =
    (begins c.self.inside.racks.items c.self.inside.layout c.self.invariant c.args.entry.now c.args.self.now c.self.view_is c.turn_to.new.self c.turn_to.ensures.kept c.turn_to.ensures.count c.requires.admitted c.requires.entry (c.len.result + 64) (omega arith) c.turn_to.ensures.turned).tree

pub returns-then-waits : goal.returns-then-waits
returns-then-waits c =
    (begins c.self.inside.racks.items c.self.inside.layout c.self.invariant c.args.entry.now c.args.self.now c.self.view_is c.turn_to.new.self c.turn_to.ensures.kept c.turn_to.ensures.count c.requires.admitted c.requires.entry (c.len.result + 64) (omega arith) c.turn_to.ensures.turned).is
    ∙ ap (refreshed c.args.self.now c.args.entry.now) (sym c.if-waits.true)

pub leave_all-requires-clause-queued : goal.leave_all-requires-clause-queued
leave_all-requires-clause-queued c = let count = c.self.invariant.queue_count in omega (arith, count)

pub leave_all-requires-clause-fits : goal.leave_all-requires-clause-fits
leave_all-requires-clause-fits c = fits_seen c.self.inside.racks.items c.self.inside.layout c.self.invariant c.args.entry.now c.args.self.now c.self.view_is c.requires.admitted c.requires.entry

pub invariant_of-self-2 : goal.invariant_of-self-2
invariant_of-self-2 c =
    (leaves c.self.inside.racks.items c.self.inside.layout c.self.invariant c.args.entry.now c.args.self.now c.self.view_is c.leave_all.new.self c.leave_all.ensures.kept c.leave_all.ensures.count c.requires.admitted c.requires.entry c.leave_all.ensures.left).tree

pub returns : goal.returns
returns c =
    (leaves c.self.inside.racks.items c.self.inside.layout c.self.invariant c.args.entry.now c.args.self.now c.self.view_is c.leave_all.new.self c.leave_all.ensures.kept c.leave_all.ensures.count c.requires.admitted c.requires.entry c.leave_all.ensures.left).is
    ∙ ap (refreshed c.args.self.now c.args.entry.now) (sym c.if-waits.false)
