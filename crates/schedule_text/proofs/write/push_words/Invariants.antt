use Rattle.std.proofs.Common.{◌≡◌, ◌++◌, map, take}
use Rattle.schedule_text.specs.Writing.{blanked}
use Rattle.schedule_text.proofs.write.push_words.Given as goal

abbrev pub invariant-loop-word : goal.invariant-loop-word
invariant-loop-word l = l.out.items ≡ l.initial.out.items ++ blanked (map (λ w. w.now) (take l.word-index l.words))
