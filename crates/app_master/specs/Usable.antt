-- What an application holds and may give back, of its two tallies.
use Rattle.std.specs.Prelude.{◌≡◌, ℕ, ◌<◌, ◌≤◌, Bool, List, [], ◌∷◌, replicate, Option, Some, None, cond}
use Rattle.std.proofs.Common.{get_or}
use Rattle.fuxi_terms.specs.Tallies.{TallyRecord}
use Rattle.schedule_unit.specs.declared.party.MachineNo.{MachineNo}
use Rattle.spec_roles.specs.Apps.{names, usable_of}
use Rattle.peer_channel.specs.Bodies.{tally_of}

-- of grants, the own demand and the boot: whether the grants name a machine, and what is held of a unit on a machine that they name
abbrev pub is_named : TallyRecord → ℕ → Bool
is_named grants m = names (tally_of grants) m

abbrev pub usable_in : TallyRecord → TallyRecord → ℕ → ℕ → ℕ → ℕ
usable_in grants demand boot u m = usable_of (tally_of grants) (tally_of demand) boot u m

-- counts by machine and unit, where there are none yet
abbrev pub filled_up : ℕ → List (List ℕ) → List (List ℕ)
filled_up machines [] = replicate machines (replicate 8 0)
filled_up machines (x ∷ xs) = x ∷ xs

-- what is carried of a unit on a machine, of counts by machine and unit
abbrev pub carried_at : List (List ℕ) → ℕ → ℕ → ℕ
carried_at counts u m = get_or (get_or counts m []) u 0

-- what is held of a unit on a machine, of grants, the own demand, the boot and what is carried
abbrev pub held_in : TallyRecord → TallyRecord → ℕ → List (List ℕ) → ℕ → ℕ → ℕ
held_in grants demand boot counts u m = cond (is_named grants m) (usable_in grants demand boot u m) (carried_at counts u m)

-- from a number on the first at which a count is not 0, and the end where there is none before it
pub record IsNext (count : ℕ → ℕ) (from end next : ℕ) : Type 0 where
  pub least : from ≤ next
  pub inside : next ≤ end
  pub between : (k : ℕ) → from ≤ k → k < next → count k ≡ 0
  pub there : next < end → 0 < count next

-- from a number on the first machine on which something is held, with how many
pub record IsNextHeld (held : ℕ → ℕ) (from machines m n : ℕ) : Type 0 where
  pub least : from ≤ m
  pub inside : m < machines
  pub number : n ≡ held m
  pub some : 0 < n
  pub between : (k : ℕ) → from ≤ k → k < m → held k ≡ 0

-- the same, and none where nothing is held from there on
abbrev pub NextHeld : (ℕ → ℕ) → ℕ → ℕ → Option (MachineNo × ℕ) → Type 0
NextHeld held from machines None = (k : ℕ) → from ≤ k → k < machines → held k ≡ 0
NextHeld held from machines (Some next) = IsNextHeld held from machines next.0.0 next.1
