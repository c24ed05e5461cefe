use Rattle.fuxi_terms.specs.declared.answers.LedgerFault.TheVariants.{Below, TooGreat}
use Rattle.fuxi_terms.proofs.KeyOrders.{key_total, same_key}
use Rattle.ledger_law.specs.Shapes.{kept_under}
use Rattle.fuxi_terms.proofs.TestedAlone.{IsTestedTo}
use Rattle.ledger_law.proofs.tally.test_changes.Given as goal

abbrev pub invariant-loop-key : goal.invariant-loop-key
invariant-loop-key g l = IsTestedTo key_total same_key Below TooGreat g.S.Shape.greatest_of (kept_under l.same l.dropped l.entries) l.changes l.key-index
