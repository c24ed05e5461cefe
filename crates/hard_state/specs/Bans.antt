-- A set of numbers as a mark for each.
use Rattle.std.specs.Prelude.{ℕ, ◌+◌, Bool, cond, List, [], ◌∷◌}

-- the numbers that are marked, where the first mark is that of this number
abbrev pub marked_from : ℕ → List Bool → List ℕ
marked_from n [] = []
marked_from n (mark ∷ marks) = cond mark (n ∷ marked_from (n + 1) marks) (marked_from (n + 1) marks)
