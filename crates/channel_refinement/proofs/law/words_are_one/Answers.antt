use Rattle.channel_refinement.proofs.AlikeLemmas.{full_word, delta_word}
use Rattle.channel_refinement.proofs.law.words_are_one.Goals as goal

pub returns : goal.returns
returns c = record {
  full = λ own l x e. full_word own l x e;
  delta = λ own l x e. delta_word own l x e;
}
