use Rattle.std.proofs.Common.{ℕ, ◌≡◌, ◌+◌, length, ap, subst, ◌∙◌, arith}
use Rattle.locality_tree.specs.Trees.{TreeRecord, with_stand}
use Rattle.locality_tree.proofs.TreesAsSeen.{waiting_seen, marks}
use Rattle.locality_tree.proofs.tree.Tree.mark_rack.Goals as goal

pub turn_to-requires-clause-fits : goal.turn_to-requires-clause-fits
turn_to-requires-clause-fits c =
    let rack = c.requires.rack in
    let count = c.self.invariant.queue_count in
    waiting_seen c.self.inside.racks.items c.self.inside.layout c.self.invariant c.args.entry.now c.args.self.now c.self.view_is c.standing_lists.ensures.entries c.requires.waits (c.len.result + c.args.rack.0) (omega arith)

pub invariant_of-self : goal.invariant_of-self
invariant_of-self c =
    let rack = c.requires.rack in
    (marks c.self.inside.racks.items c.self.inside.layout c.self.invariant c.args.entry.now c.args.self.now c.self.view_is c.turn_to.new.self c.turn_to.ensures.kept c.turn_to.ensures.count c.standing_lists.ensures.entries c.requires.waits (c.len.result + c.args.rack.0) c.args.unmet (omega arith) c.turn_to.ensures.turned).tree

pub returns : goal.returns
returns c =
    let rack = c.requires.rack in
    let long : c.len.result ≡ length c.args.self.now.racks = subst (λ (t : TreeRecord). c.len.result ≡ length t.racks) c.self.view_is (omega arith) in
    (marks c.self.inside.racks.items c.self.inside.layout c.self.invariant c.args.entry.now c.args.self.now c.self.view_is c.turn_to.new.self c.turn_to.ensures.kept c.turn_to.ensures.count c.standing_lists.ensures.entries c.requires.waits (c.len.result + c.args.rack.0) c.args.unmet (omega arith) c.turn_to.ensures.turned).is
    ∙ ap (λ (k : ℕ). with_stand c.args.self.now c.args.entry.now (k + c.args.rack.0) c.args.unmet) long
