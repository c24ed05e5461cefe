-- The machines of a cluster that have reported.
use Rattle.std.specs.Prelude.{ℕ, Bool, List}
use Rattle.std.specs.List.{list_all}
use Rattle.fuxi_terms.specs.Lists.{below}
use Rattle.fuxi_terms.specs.Numbers.{has_number}

-- how many machines the cluster has, and the rising numbers of those in the set
pub record Reported : Type 0 where
  pub size : ℕ
  pub numbers : List ℕ

-- each machine of the cluster is in the set
abbrev pub are_all_in : Reported → Bool
are_all_in r = list_all (λ m. has_number m r.numbers) (below r.size)
