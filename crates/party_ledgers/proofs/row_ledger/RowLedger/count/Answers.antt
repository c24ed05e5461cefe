use Rattle.std.proofs.Common.{◌≡◌, arith, subst}
use Rattle.fuxi_terms.specs.Keys.{row_cmp}
use Rattle.fuxi_terms.specs.Counts.{count}
use Rattle.fuxi_terms.specs.Rows.{row_key}
use Rattle.party_ledgers.proofs.PatchedRow.{count_small}
use Rattle.party_ledgers.proofs.row_ledger.RowLedger.count.Goals as goal

pub overflow_cast-result : goal.overflow_cast-result
overflow_cast-result c =
    let key = row_key c.args.app.0 c.args.unit.0 c.args.size.now.q in
    let is : c.count_of.result ≡ count row_cmp c.self.inside.entries.items key = subst (λ es. c.count_of.result ≡ count row_cmp es key) c.deref.ensures.value c.count_of.ensures in
    record { fits = omega (arith, is, count_small c.self.inside.entries.items key c.self.invariant.counts) }
