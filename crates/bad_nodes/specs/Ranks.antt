-- How votes are laid out. No public clause but for the number of a machine cites this module.
use Rattle.std.specs.Prelude.{◌≡◌, ℕ, ◌≤◌, Bool, List, length, All}
use Rattle.schedule_unit.specs.declared.party.MachineNo.{MachineNo}
use Rattle.spec_roles.specs.Votes.{most_votes}

abbrev pub number_of : MachineNo → ℕ
number_of m = m.0

-- each of at most 256 machines has votes within the limit, and is shut or not
pub record AreVotes (votes : List ℕ) (shut : List Bool) : Type 0 where
  pub numbered : length shut ≡ length votes
  pub machines : length votes ≤ 256
  pub within : All (λ n. n ≤ most_votes) votes
