use Rattle.std.proofs.Common.{[]}
use Rattle.wire_frames.proofs.StreamsLemmas.{run_splits, one_split}
use Rattle.wire_frames.proofs.law.packets_of_stream.Goals as goal

pub returns : goal.returns
returns c = record {
  split = λ es end h. run_splits [] es end h;
  one = λ bytes left rest xs ys p q a b. let s = one_split xs ys bytes left rest p.whole q.whole p.each q.each a b in (s.packets, s.bytes);
}
