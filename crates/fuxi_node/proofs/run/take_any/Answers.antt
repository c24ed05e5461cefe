use Rattle.std.proofs.Common.{Err, ap}
use Rattle.fuxi_io.specs.declared.status.Status.TheVariants.{BadInput}
use Rattle.fuxi_node.specs.declared.taking.Stop.TheVariants.{Ends}
use Rattle.fuxi_node.proofs.NodeEndsLemmas.{err_is}
use Rattle.fuxi_node.proofs.run.take_any.Goals as goal

pub returns-in-Err-clause-bad : goal.returns-in-Err-clause-bad
returns-in-Err-clause-bad g c at fault is = c.in-Err.ensures.bad at fault (ap (λ s. Err s) (err_is c.in-Err.stop (Ends (BadInput at fault)) is))
