use Rattle.grant_table.proofs.Totals.{held_set, held_in_set, total_set, usage_set}
use Rattle.grant_table.proofs.law.set_numbers.Goals as goal

pub returns : goal.returns
returns c = record {
  held = λ es s n a u h. held_set s n es h a u;
  in_rack = λ k es s n a u r h. held_in_set s n es h k a u r;
  total = λ jobs es s n m i h. total_set s n es h jobs m i;
  usage = λ jobs es s n g i h. usage_set s n es h jobs g i;
}
