-- What a judgement makes of the bans.
use Rattle.std.specs.Prelude.{◌≡◌, ◌≢◌, ℕ, ◌*◌, ◌/◌, ◌≤◌, true, false, ◌||◌, List, [], ◌∷◌, length, map, count_by, Some}
use Rattle.std.specs.Ordering.{nat_cmp}
use Rattle.std.specs.FinMap.Entries.{find}
use Rattle.fuxi_terms.specs.Cluster.{ClusterRecord, has_machine}
use Rattle.fuxi_terms.specs.Lists.{below}
use Rattle.fuxi_terms.specs.Numbers.{has_number}
use Rattle.spec_roles.specs.Masters.{Master}
use Rattle.spec_roles.specs.Refusals.{Refusal}
use Rattle.spec_roles.specs.Votes.{judged, votes_in, votes_of}
use Rattle.spec_world.specs.Outputs.{Judged, Refused}
use Rattle.spec_world.specs.World.{World, Step}
use Rattle.spec_world.specs.Events.{Judge, counted_in, world_step}

-- how many machines of the cluster are banned
abbrev pub number_banned : ClusterRecord → List ℕ → ℕ
number_banned c bans = count_by (λ m. has_number m bans) (below (length c.machines))

-- a judgement of a running master, which is not refused
pub record IsJudgement (w : World) (e least percent : ℕ) (M : Master) : Type 0 where
  pub runs : find nat_cmp e w.masters ≡ Some M
  pub taken : (r : Refusal) → (world_step w (Judge e least percent)).lines ≢ Refused r ∷ []

-- the machines that it judges, and the step that it is
abbrev pub judged_by : World → Master → ℕ → ℕ → List ℕ
judged_by w M least percent = judged (votes_in w.cluster M) least percent

-- Bans what is judged: behind it the bans are those before and the judged machines and no others, and its master has them; each is printed with its votes. A machine with
-- at least the least votes stays unbanned only where as many machines as the percentage allows are banned. Where none is judged nothing changes but the number of events
pub record BansJudged (w : World) (e least percent : ℕ) (M : Master) (s : Step) : Type 0 where
  pub lines : s.lines ≡ map (λ m. Judged m (votes_of (votes_in w.cluster M) m)) (judged_by w M least percent)
  pub bans : (m : ℕ) → has_number m s.world.hard.bans ≡ (has_number m w.hard.bans || has_number m (judged_by w M least percent))
  pub known : (N : Master) → find nat_cmp e s.world.masters ≡ Some N → N.bans ≡ s.world.hard.bans
  pub left : (m : ℕ) → has_machine w.cluster m ≡ true → least ≤ votes_of (votes_in w.cluster M) m → has_number m s.world.hard.bans ≡ false
      → length w.cluster.machines * percent / 100 ≤ number_banned w.cluster s.world.hard.bans
  pub none : judged_by w M least percent ≡ [] → s.world ≡ counted_in w

pub record AllJudge (w : World) : Type 0 where
  pub judge : (e least percent : ℕ) (M : Master) → IsJudgement w e least percent M → BansJudged w e least percent M (world_step w (Judge e least percent))
