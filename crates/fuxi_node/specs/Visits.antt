-- What the rounds of a run were at the door.
use Rattle.std.specs.Prelude.{◌≡◌, ℕ, ◌+◌, ◌-◌, ◌^◌, ◌≤◌, min, cond, List, [], ◌∷◌, map, Option}
use Rattle.std.specs.List.{AllByRecursion}
use Rattle.fuxi_io.specs.Doors.{Talk, Told}
use Rattle.node_core.specs.Rounds.{Meets, is_fault, visited}
use Rattle.node_core.specs.PartyEvents.{accepts}
use Rattle.fuxi_node.specs.NodeRuns.{Played, Round, played_as}

-- a round, and its connection, where one was opened
pub record Visit : Type 0 where
  pub played : Played
  pub talk : Option Talk

abbrev pub round_in : Visit → Round
round_in v = v.played.round

abbrev pub rounds_of : List Visit → List Round
rounds_of visits = map round_in visits

abbrev pub played_in : Visit → Played
played_in v = v.played

abbrev pub played_of : List Visit → List Played
played_of visits = map played_in visits

-- the door after these rounds, each at this address
abbrev pub walked : List ℕ → List Visit → Told → Told
walked addr [] t = t
walked addr (v ∷ vs) t = walked addr vs (visited (accepts v.played.role) addr v.talk t)

-- Its packets are those of the connection's bytes, its line is the round's, and the connection took what the round writes. A mark is a fault.
abbrev pub IsVisit : ℕ → Visit → Type 0
IsVisit most v = (v.played.round.mark ≡ is_fault (played_as most v.played).line)
    × Meets (accepts v.played.role) most v.played.role v.played.round.came v.talk (played_as most v.played).line

abbrev pub AreVisits : ℕ → List Visit → Type 0
AreVisits most visits = AllByRecursion (IsVisit most) visits

-- how many of them are marked
abbrev pub marks : List Visit → ℕ
marks [] = 0
marks (v ∷ vs) = cond v.played.round.mark 1 0 + marks vs

-- a count of 64 bits rose so often at least, or stands at its end
abbrev pub RoseBy : ℕ → ℕ → ℕ → Type 0
RoseBy times before now = min (before + times) (2 ^ 64 - 1) ≤ now

-- the door was at these rounds
pub record WasAt (most : ℕ) (addr : List ℕ) (visits : List Visit) (before now : ℕ) (old new : Told) : Type 0 where
  pub door : new ≡ walked addr visits old
  pub are : AreVisits most visits
  pub faults : RoseBy (marks visits) before now
