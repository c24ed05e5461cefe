-- How the votes of a master's jobs are counted.
use Rattle.std.specs.Prelude.{◌≡◌, ℕ, ◌+◌, ◌<◌, Bool, cond, nat_lt, List, length, map, take, count_by}
use Rattle.std.specs.List.{list_all}
use Rattle.fuxi_terms.specs.Lists.{below}
use Rattle.fuxi_terms.specs.Numbers.{has_number}
use Rattle.fuxi_terms.specs.TallyKeys.{avoid_key, want_key}
use Rattle.schedule_unit.specs.declared.party.UnitNo.{UnitNo}
use Rattle.spec_roles.specs.MasterRoles.{MasterRole}
use Rattle.spec_roles.specs.Votes.{VotesRecord, marks, votes_of}
use Rattle.place_pass.specs.Placers.{asks_seen}
use Rattle.fuxi_master.specs.Cores.{CoreRecord, StandsFor}

-- by what the placer was told: a unit of a job is wanted, and each of some units of a job avoids a machine
abbrev pub is_asked : CoreRecord → ℕ → ℕ → Bool
is_asked x a u = nat_lt 0 (asks_seen x.allotment.placer.seen a (want_key u))

abbrev pub all_avoid : CoreRecord → ℕ → List UnitNo → ℕ → Bool
all_avoid x a units m = list_all (λ (u : UnitNo). nat_lt 0 (asks_seen x.allotment.placer.seen a (avoid_key u.0 m))) units

-- one vote more on each machine that a test marks, and nothing else changes
pub record AddsVotes (marked : ℕ → Bool) (before after : VotesRecord) : Type 0 where
  pub long : length after.votes ≡ length before.votes
  pub votes : (m : ℕ) → m < length before.votes → votes_of after m ≡ votes_of before m + cond (marked m) 1 0
  pub shut : after.shut ≡ before.shut

-- the first so many jobs, in the order of submission, have voted, and the banned machines are shut
pub record IsCounted (jobs : ℕ) (r : MasterRole) (v : VotesRecord) : Type 0 where
  pub long : length v.votes ≡ length r.cluster.machines
  pub votes : (m : ℕ) → m < length v.votes → votes_of v m ≡ count_by (λ j. marks r.state j m) (take jobs r.state.jobs)
  pub shut : v.shut ≡ map (λ m. has_number m r.state.bans) (below (length r.cluster.machines))

-- of every master by itself that the core stands for
abbrev pub HasCounted : CoreRecord → ℕ → VotesRecord → Type 0
HasCounted x jobs v = (r : MasterRole) → StandsFor x r → IsCounted jobs r v
