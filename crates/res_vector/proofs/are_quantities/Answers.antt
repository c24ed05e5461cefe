use Rattle.std.proofs.Common.{rules, tests}
use Rattle.std.proofs.lemmas.Iterator.{YieldsList-from_slice}
use Rattle.std.proofs.lemmas.Iterator.Search.{all_from_yields_List}
use Rattle.fuxi_terms.specs.Cluster.{is_at_most}
use Rattle.fuxi_terms.specs.Limits.{greatest_quantity}
use Rattle.res_vector.proofs.are_quantities.Goals as goal

pub returns : goal.returns
returns c =
    all_from_yields_List (is_at_most greatest_quantity) _ _ _ c.all.ensures.ran (YieldsList-from_slice c.args.quantities.now cc) (λ x b q k. search (rules, tests))
