use Rattle.std.proofs.Common.{◌≡◌, ◌∷◌, ◌++◌, take, codes}
use Rattle.std.specs.List.{flat_map}
use Rattle.schedule_text.specs.Writing.{blanked, ask_words}
use Rattle.schedule_text.proofs.write.push_more_asks.Given as goal

abbrev pub invariant-loop-ask : goal.invariant-loop-ask
invariant-loop-ask l = l.out.items ≡ l.initial.out.items ++ blanked (flat_map (λ b. codes "/" ∷ ask_words b) (take l.ask-index l.asks))
