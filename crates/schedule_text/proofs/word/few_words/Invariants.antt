use Rattle.std.proofs.Common.{◌≡◌, ◌≤◌, ◌++◌, ℕ, List, Bor, length, map, take}
use Rattle.schedule_text.specs.Words.{words_of}
use Rattle.schedule_text.proofs.word.few_words.Given as goal

abbrev pub invariant-loop-more : goal.invariant-loop-more
invariant-loop-more l = record {
  room : length l.few ≡ 8;
  within : l.count ≤ 8;
  words : map (λ (w : Bor (List ℕ)). w.now) (take l.count l.few) ++ words_of l.rest ≡ words_of l.fn.line;
}

abbrev pub decreases-loop-more : goal.decreases-loop-more
decreases-loop-more l = length l.rest
