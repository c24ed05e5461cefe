-- What is kept of each machine, and what it says: no pair of the line that was looked at may be placed there earlier than by a bound.
use Rattle.std.specs.Prelude.{◌≡◌, ⊤, ℕ, ◌+◌, ◌-◌, ◌*◌, ◌^◌, ◌<◌, ◌≤◌, Bool, true, false, cond, not, nat_eq, nat_lt, ◌&&◌, ◌||◌, List, [], ◌∷◌, length, replicate, slice_get, Option, Some, None}
use Rattle.std.specs.List.{AllByRecursion}
use Rattle.std.specs.Option.{option_map}
use Rattle.std.specs.Ordering.{nat_cmp, is_lt}
use Rattle.std.specs.Cmp.Lexicographic.{slice_cmp}
use Rattle.std.proofs.Common.{get_or}
use Rattle.fuxi_terms.specs.Cluster.{ClusterRecord, rack_of}
use Rattle.fuxi_terms.specs.Keys.{Spot, Pair}
use Rattle.fuxi_terms.specs.Tables.{held_in, Table}
use Rattle.fuxi_terms.specs.TallyKeys.{rack_key}
use Rattle.spec_roles.specs.Masters.{level_of}
use Rattle.spec_roles.specs.Placing.{Board, accepts_in, has_room_in, is_allowed_in}
use Rattle.place_pass.specs.Cells.{Cell}
use Rattle.place_pass.specs.declared.marks.mark.Mark.{Mark}
use Rattle.place_pass.specs.declared.marks.mark.Rank.{Rank}

-- a bound of the ranks on the machine, with the turn in place of the place in the line and without the machine, and none where no pair may be placed; the turn
-- below which pairs were looked at; and by group, whether a pair of it may have room that its limit does not allow
pub record MarkRecord : Type 0 where
  pub bound : Option (List ℕ)
  pub until : ℕ
  pub groups : List Bool

abbrev pub rank_of : Rank → List ℕ
rank_of r = r.late ∷ r.level ∷ r.turn ∷ []

abbrev pub mark_of : Mark → MarkRecord
mark_of m = record { bound = option_map rank_of m.bound; until = m.until; groups = m.groups }

abbrev pub no_mark : MarkRecord
no_mark = record { bound = None; until = 0; groups = [] }

abbrev pub mark_at : List MarkRecord → ℕ → MarkRecord
mark_at marks m = get_or marks m no_mark

abbrev pub zero_rank : List ℕ
zero_rank = 0 ∷ 0 ∷ 0 ∷ []

abbrev pub no_groups : List Bool
no_groups = replicate 32 false

-- anything may be placeable; and what is may come earlier
abbrev pub reset_mark : ℕ → MarkRecord
reset_mark until = record { bound = Some zero_rank; until = until; groups = no_groups }

-- all pairs of the line are bounded
abbrev pub bounded_mark : Option (List ℕ) → ℕ → MarkRecord → MarkRecord
bounded_mark bound turns k = record k { bound = bound; until = turns }

-- nothing is placeable, whatever begins to wait
abbrev pub full_mark : MarkRecord
full_mark = record { bound = None; until = 2 ^ 64 - 1; groups = no_groups }

-- it says nothing of the pairs with this turn or a later one
abbrev pub limited_mark : ℕ → MarkRecord → MarkRecord
limited_mark turns k = record k { until = cond (nat_lt turns k.until) turns k.until }

-- no group is noted
abbrev pub cleared_mark : MarkRecord → MarkRecord
cleared_mark k = record k { groups = no_groups }

abbrev pub lowered : Option (List ℕ) → Option (List ℕ)
lowered None = None
lowered (Some b) = Some zero_rank

abbrev pub lowered_mark : MarkRecord → MarkRecord
lowered_mark k = record k { bound = lowered k.bound }

abbrev pub taken_mark : Bool → ℕ → Bool → MarkRecord → MarkRecord
taken_mark here g nearer k = cond here (reset_mark k.until) (cond (get_or k.groups g false) (reset_mark k.until) (cond nearer (lowered_mark k) k))

-- a mark after grants of a unit were taken on a machine: its own is reset, and so is each that notes the unit's group; in the rack, where the unit wants more there, what
-- is placeable may come earlier
abbrev pub after_taking : ClusterRecord → ℕ → ℕ → Bool → ℕ → MarkRecord → MarkRecord
after_taking c g machine nearer m k = taken_mark (nat_eq m machine) g (nearer && nat_eq (rack_of c m) (rack_of c machine)) k

-- a unit wants more in the rack of a machine than it has there
abbrev pub is_nearer_in : Board → Table → Spot → Bool
is_nearer_in b es s = nat_lt (held_in b.cluster es s.job s.unit (rack_of b.cluster s.machine)) (b.asks s.job (rack_key s.unit (rack_of b.cluster s.machine)))

-- the bound of all pairs of the line, whose turns are below a number
abbrev pub key_of : MarkRecord → ℕ → Option (List ℕ)
key_of k turns = cond (nat_lt k.until turns) (Some zero_rank) k.bound

-- the rank of a pair on a machine, by its turn and without the machine
abbrev pub rank_at : Board → Table → ℕ → Pair → ℕ → List ℕ
rank_at b es turn p m = (9 - b.priorities p.0 p.1) ∷ level_of b.cluster b.asks es p.0 p.1 m ∷ turn ∷ []

-- and with the machine
abbrev pub rank_on : Board → Table → ℕ → Pair → ℕ → List ℕ
rank_on b es turn p m = (9 - b.priorities p.0 p.1) ∷ level_of b.cluster b.asks es p.0 p.1 m ∷ turn ∷ m ∷ []

abbrev pub comes_before : List ℕ → List ℕ → Bool
comes_before r s = is_lt (slice_cmp nat_cmp r s)

-- no such rank comes before the bound, and with no bound there is no such rank
abbrev pub is_bound : Option (List ℕ) → List ℕ → Bool
is_bound None r = false
is_bound (Some b) r = not (comes_before r b)

-- what a mark says of one pair: where the machine takes it and has room, its rank is bounded, or its group is noted and does not allow it
pub record IsBounded (b : Board) (es : Table) (bound : Option (List ℕ)) (groups : List Bool) (turn : ℕ) (p : Pair) (m : ℕ) : Type 0 where
  pub bounded : accepts_in b es p.0 p.1 m ≡ true → has_room_in b.cluster b.sizes es p.0 p.1 m ≡ true
      → (is_bound bound (rank_at b es turn p m) || (get_or groups (b.groups p.0) false && not (is_allowed_in b.cluster b.groups b.sizes es p.0 p.1))) ≡ true

-- what a mark says of the admitted units that begin to wait later: their turns are not below the next one, and no group counts for them
abbrev pub AreBoundedLater : Board → Table → List (List Cell) → ℕ → MarkRecord → ℕ → Type 0
AreBoundedLater b es cells turns k m = (a u turn : ℕ) → u < length (get_or cells a []) → turns ≤ turn → turn < k.until → IsBounded b es k.bound no_groups turn (a, u) m

-- the turn of a pair: 8 places for each job
abbrev pub turn_at : List ℕ → ℕ → ℕ → ℕ
turn_at turns a u = get_or turns (a * 8 + u) 0

-- turns rise along a line
abbrev pub Rises : (Pair → ℕ) → List Pair → Type 0
Rises f [] = ⊤
Rises f (p ∷ ps) = AllByRecursion (λ (q : Pair). f p < f q) ps × Rises f ps

-- the same by places
pub record IsRising (f : Pair → ℕ) (line : List Pair) : Type 0 where
  pub before : (i j : ℕ) (p q : Pair) → slice_get line i ≡ Some p → slice_get line j ≡ Some q → i < j → f p < f q

-- the pairs have the turns from a number on, one after another
abbrev pub Numbered : (Pair → ℕ) → ℕ → List Pair → Type 0
Numbered f n [] = ⊤
Numbered f n (p ∷ ps) = (f p ≡ n) × Numbered f (n + 1) ps
