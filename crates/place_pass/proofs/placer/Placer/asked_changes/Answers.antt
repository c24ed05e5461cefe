use Rattle.fuxi_terms.proofs.IndexedLists.{slot_within}
use Rattle.place_pass.proofs.DemandScopesLemmas.{told_same}
use Rattle.place_pass.proofs.placer.Placer.asked_changes.Goals as goal

pub hear-requires-clause-within : goal.hear-requires-clause-within
hear-requires-clause-within c =
    let s = c.args.self.now.seen in
    told_same s.cluster c.args.demand.now.entries s.cells c.args.app.0 c.args.changes.now c.entries-counts.ensures.counts (slot_within s.cells c.args.app.0 0 c.requires.here) c.requires.told
