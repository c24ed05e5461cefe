use Rattle.std.proofs.Common.{ℕ, ◌≡◌, ◌+◌, false, length, get_or, ap, subst, ◌∙◌, arith}
use Rattle.locality_tree.specs.Trees.{TreeRecord, unit_at}
use Rattle.locality_tree.proofs.TreesAsSeen.{waiting_seen, stands_seen}
use Rattle.locality_tree.proofs.tree.Tree.stands_within.Goals as goal

pub stands_at-requires-clause-fits : goal.stands_at-requires-clause-fits
stands_at-requires-clause-fits c =
    let rack = c.requires.rack in
    let count = c.self.invariant.queue_count in
    waiting_seen c.self.inside.racks.items c.self.inside.layout c.self.invariant c.args.entry.now c.args.self.now c.self.view_is c.standing_lists.ensures.entries c.requires.waits (c.len.result + c.args.rack.0) (omega arith)

pub returns : goal.returns
returns c =
    let e = c.args.entry.now in
    let long : c.len.result ≡ length c.args.self.now.racks = subst (λ (t : TreeRecord). c.len.result ≡ length t.racks) c.self.view_is (omega arith) in
    c.stands_at.ensures ∙ stands_seen c.self.inside.racks.items c.self.inside.layout c.self.invariant e c.args.self.now c.self.view_is (c.len.result + c.args.rack.0)
    ∙ ap (λ (k : ℕ). get_or (unit_at c.args.self.now e.app.0 e.unit.0).stands (k + c.args.rack.0) false) long
