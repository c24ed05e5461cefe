-- Which workers of a unit run, by the order of their start, once as many may run as a number says.
use Rattle.std.specs.Prelude.{ℕ, ◌-◌, not, filter, List, ◌++◌, length, take}
use Rattle.fuxi_terms.specs.Numbers.{has_number}

-- of those that run the ones that are wanted, in their order; of these the first n
abbrev pub staying : List ℕ → List ℕ → ℕ → List ℕ
staying running wanted n = take n (filter (λ w. has_number w wanted) running)

-- the wanted ones that are not among these
abbrev pub missing : List ℕ → List ℕ → List ℕ
missing stay wanted = filter (λ w. not (has_number w stay)) wanted

-- then those, in the order of the plan, until there are n or none is left
abbrev pub run_after : List ℕ → List ℕ → ℕ → List ℕ
run_after running wanted n = let stay = staying running wanted n in stay ++ take (n - length stay) (missing stay wanted)
