use Rattle.std.proofs.Common.{sym, ◌∙◌, nat_cmp}
use Rattle.ledger_law.proofs.KeyCodesLemmas.{coded_order}
use Rattle.ledger_law.proofs.entries.KeyEntryKey.order.Goals as goal

pub returns : goal.returns
returns c =
    let one = c.code.ensures in
    let other = c.code-2.ensures in
    c.cmp.ensures ∙ (λ i. nat_cmp (one.code i) (other.code i)) ∙ sym (coded_order c.args.self.now c.args.other.now one.unit other.unit one.number other.number)
