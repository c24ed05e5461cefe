-- The eight places of a vector that names fewer resources.
use Rattle.std.specs.Prelude.{ℕ, ◌-◌, List, ◌++◌, length, replicate}
use Rattle.fuxi_terms.specs.Limits.{most_resources}

-- zeros stand behind
abbrev pub padded : List ℕ → List ℕ
padded qs = qs ++ replicate (most_resources - length qs) 0
