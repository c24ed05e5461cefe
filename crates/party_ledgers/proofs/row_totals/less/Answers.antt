use Rattle.std.proofs.Common.{arith}
use Rattle.fuxi_terms.proofs.ByPlace.{fits_at, minus_written}
use Rattle.party_ledgers.proofs.row_totals.less.Goals as goal

pub overflow_sub-q : goal.overflow_sub-q
overflow_sub-q c = fits_at _ _ c.requires c.loop-i.i

pub returns : goal.returns
returns c = minus_written _ _ _ 8 (omega arith) (omega arith) (λ k h. c.loop-i.invariant.done k (omega arith))
