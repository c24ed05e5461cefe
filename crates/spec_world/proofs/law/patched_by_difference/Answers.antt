use Rattle.fuxi_terms.proofs.KeyOrders.{key_total, same_key, row_key_total, same_row_key, spot_total, same_spot}
use Rattle.fuxi_terms.proofs.Patched.{patched_by_difference, tallies_by_difference}
use Rattle.spec_world.proofs.law.patched_by_difference.Goals as goal

pub returns : goal.returns
returns c = record {
  entries = λ greatest. patched_by_difference key_total same_key greatest;
  rows = λ greatest. patched_by_difference row_key_total same_row_key greatest;
  tables = λ greatest. patched_by_difference spot_total same_spot greatest;
  tallies = λ greatest dropped. tallies_by_difference greatest dropped;
}
