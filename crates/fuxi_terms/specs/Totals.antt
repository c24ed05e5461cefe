-- Totals of many vectors.
use Rattle.std.specs.Prelude.{ℕ, List, [], ◌∷◌}
use Rattle.fuxi_terms.specs.Vectors.{plus, times}

-- each size as often as is counted, all together
abbrev pub total_of : List (ℕ × List ℕ) → List ℕ
total_of [] = []
total_of (e ∷ es) = plus (times e.0 e.1) (total_of es)
