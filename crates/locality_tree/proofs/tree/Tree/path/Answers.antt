use Rattle.std.proofs.Common.{◌≡◌, ◌+◌, ◌-◌, ◌<◌, ℕ, length, get_or, sym, subst, arith}
use Rattle.std.proofs.lemmas.List.{get_or_read}
use Rattle.locality_tree.specs.Trees.{TreeRecord, HasPath, rack_place, cluster_place}
use Rattle.locality_tree.specs.Layouts.{sets_of}
use Rattle.locality_tree.specs.Paths.{IsRanking, pairs_of, Leads}
use Rattle.locality_tree.proofs.TreePathLemmas.{has_path}
use Rattle.locality_tree.proofs.tree.Tree.path.Goals as goal

pub returns : goal.returns
returns c =
    let racks = c.self.inside.racks.items in
    let l = c.self.inside.layout in
    let m = c.args.machine.0 in
    let kept = c.self.invariant.kept in
    let inside : m < length racks = subst (λ (t : TreeRecord). m < length t.racks) (sym c.self.view_is) c.requires in
    let read : c.index.result.now ≡ get_or racks m 0 = get_or_read racks m c.index.result.now inside c.index.ensures 0 in
    let place : rack_place racks (get_or racks m 0) ≡ c.len.result + c.index.result.now = omega arith in
    let count = c.self.invariant.queue_count in
    let last : cluster_place racks ≡ length l.queues.items - 1 = omega arith in
    subst (λ (t : TreeRecord). HasPath t m (Leads c.at.result)) c.self.view_is
    (has_path c.standing_lists.ensures.entries racks l c.self.invariant m inside (Leads c.at.result) (λ pairs ranking. c.at.ensures kept pairs
    (subst (λ (r : ℕ). IsRanking pairs (pairs_of (sets_of l.slots.items) m r (kept.lists m) (kept.lists r) (kept.lists (length l.queues.items - 1)))) place
    (subst (λ (k : ℕ). IsRanking pairs (pairs_of (sets_of l.slots.items) m (rack_place racks (get_or racks m 0)) (kept.lists m) (kept.lists (rack_place racks (get_or racks m 0))) (kept.lists k))) last ranking))))
