use Rattle.std.proofs.Common.{cond, sym, ap, ◌∙◌}
use Rattle.fuxi_terms.specs.Cluster.{has_rack}
use Rattle.fuxi_terms.proofs.Booleans.{zero_either}
use Rattle.place_pass.proofs.demand.reading.rack_number.Goals as goal

pub returns-then-wanted-eq0 : goal.returns-then-wanted-eq0
returns-then-wanted-eq0 c = let b = has_rack c.args.cluster.now c.args.rack in sym (ap (λ n. cond b n 0) c.if-wanted-eq0.true ∙ zero_either b)
