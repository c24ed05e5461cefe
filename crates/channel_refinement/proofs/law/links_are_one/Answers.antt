use Rattle.channel_refinement.proofs.AlikeLemmas.{met_alike, acked_place}
use Rattle.channel_refinement.proofs.law.links_are_one.Goals as goal

pub returns : goal.returns
returns c = record {
  met = λ l inc. met_alike l inc;
  acked = λ own last l x. acked_place own last l x;
}
