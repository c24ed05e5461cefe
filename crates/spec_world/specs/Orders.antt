-- Worlds whose parties stand in the order of their numbers, as the lists of what runs and of what is banned do.
use Rattle.std.specs.Prelude.{ℕ, ◌<◌, T, List, map}
use Rattle.std.specs.List.{AllByRecursion}
use Rattle.std.specs.Ordering.{nat_cmp}
use Rattle.std.specs.FinMap.Entries.{is_sorted}
use Rattle.fuxi_terms.specs.Limits.{most_machines}
use Rattle.spec_world.specs.World.{World}

-- numbers that rise
abbrev pub Rise : List ℕ → Type 0
Rise ns = T (is_sorted {X = ℕ} nat_cmp (map (λ n. (n, 0)) ns))

pub record IsInOrder (w : World) : Type 0 where
  pub masters : T (is_sorted nat_cmp w.masters)
  pub agents : T (is_sorted nat_cmp w.agents)
  pub apps : T (is_sorted nat_cmp w.apps)
  pub bans : Rise w.hard.bans
  pub banned : AllByRecursion (λ m. m < most_machines) w.hard.bans
