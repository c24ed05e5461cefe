use Rattle.std.proofs.Common.{◌≡◌, ◌++◌, ◌∷◌, take, decimal}
use Rattle.std.specs.List.{flat_map}
use Rattle.storm_run.proofs.summary.write_line.Given as goal

abbrev pub invariant-loop-number : goal.invariant-loop-number
invariant-loop-number l = l.out.items ≡ (l.fn.out.items ++ l.word) ++ flat_map (λ n. 32 ∷ decimal n) (take l.number-index l.numbers)
