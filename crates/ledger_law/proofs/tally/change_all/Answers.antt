use Rattle.std.proofs.Common.{sym, subst}
use Rattle.fuxi_terms.specs.Keys.{key_cmp}
use Rattle.fuxi_terms.specs.Counts.{AreCounts}
use Rattle.ledger_law.proofs.tally.change_all.Goals.{then-not-same, else-not-same}
use Rattle.ledger_law.proofs.tally.change_all.Goals as goal

pub make_changes-requires-clause-counts : goal.make_changes-requires-clause-counts
make_changes-requires-clause-counts g c =
    let reserved : AreCounts key_cmp g.S.Shape.greatest_of c.reserve.new.self.items = subst (λ es. AreCounts key_cmp g.S.Shape.greatest_of es) (sym c.in-Ok.ensures.items) c.requires.counts in
    elim c.if-not-same.branch [
      | then-not-same w ↦ subst (λ v. AreCounts key_cmp g.S.Shape.greatest_of v.items) (sym w.entries-is) (w.drop_kind.ensures.counts g.S.Shape.greatest_of reserved)
      | else-not-same w ↦ subst (λ v. AreCounts key_cmp g.S.Shape.greatest_of v.items) (sym w.entries-is) reserved
    ]
