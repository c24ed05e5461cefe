-- A line of pairs of a job and a unit, and the units that may join it.
use Rattle.std.specs.Prelude.{◌≡◌, ℕ, ◌+◌, ◌*◌, ◌<◌, ◌≤◌, Bool, true, false, nat_eq, nat_lt, ◌&&◌, ◌⊎◌, List, [], length, map, filter, take}
use Rattle.std.proofs.Common.{get_or}
use Rattle.fuxi_terms.specs.Limits.{most_jobs, most_units}
use Rattle.fuxi_terms.specs.declared.Key.{Key}
use Rattle.fuxi_terms.specs.Keys.{Pair}
use Rattle.fuxi_terms.specs.Lists.{below}
use Rattle.fuxi_terms.specs.Tables.{Table}
use Rattle.spec_roles.specs.Masters.{out_of}
use Rattle.spec_roles.specs.Placing.{has_pair}
use Rattle.place_pass.specs.Cells.{Cell, unit_places}

-- the pairs in order, and the admitted units in any order
pub record LineRecord : Type 0 where
  pub pairs : List Pair
  pub units : List Pair

-- the first of the keys wait
abbrev pub line_record : List Pair → ℕ → LineRecord
line_record keys len = record { pairs = take len keys; units = keys }

abbrev pub same_pair : Pair → Pair → Bool
same_pair p q = nat_eq p.0 q.0 && nat_eq p.1 q.1

-- of each unit that there may be a flag says whether the line has it
pub record AreFlags (pairs : List Pair) (waits : List Bool) : Type 0 where
  pub places : length waits ≡ unit_places
  pub waiting : (a u : ℕ) → a < most_jobs → u < most_units → get_or waits (a * 8 + u) false ≡ has_pair (a, u) pairs

-- the line lies within the keys, which are units that there may be. That each is there once the set says by itself
pub record IsLine (keys : List Pair) (len : ℕ) (waits : List Bool) : Type 0 where
  pub within : len ≤ length keys
  pub there : (a u : ℕ) → has_pair (a, u) keys ≡ true → (a < most_jobs) × (u < most_units)
  pub flags : AreFlags (take len keys) waits

-- some of the first units of a job were put behind the old keys
pub record IsGrown (app count : ℕ) (old new : List Pair) : Type 0 where
  pub long : length old ≤ length new
  pub first : (n : ℕ) → n ≤ length old → take n new ≡ take n old
  pub kept : (p : Pair) → has_pair p old ≡ true → has_pair p new ≡ true
  pub only : (p : Pair) → has_pair p new ≡ true → (has_pair p old ≡ true) ⊎ ((p.0 ≡ app) × (p.1 < count))

-- the first units of a job are all there
abbrev pub AreIn : ℕ → ℕ → List Pair → Type 0
AreIn app count units = (u : ℕ) → u < count → has_pair (app, u) units ≡ true

-- each unit of an admitted job is there
abbrev pub AllMayWait : List (List Cell) → List Pair → Type 0
AllMayWait cells units = (a : ℕ) → AreIn a (length (get_or cells a [])) units

-- two lists have the same units
abbrev pub AreSameUnits : List Pair → List Pair → Type 0
AreSameUnits units others = (p : Pair) → has_pair p others ≡ has_pair p units

-- by job number whether nothing was told of the job, and each is calm whose number is below the one or not below the other
pub record IsCalm (flags : List Bool) (low high : ℕ) : Type 0 where
  pub places : length flags ≡ most_jobs
  pub inside : high ≤ most_jobs
  pub before : (a : ℕ) → a < low → a < most_jobs → get_or flags a false ≡ true
  pub behind : (a : ℕ) → high ≤ a → a < most_jobs → get_or flags a false ≡ true

-- of the first units of one job, those with something out
abbrev pub waiting_of : (ℕ → Key → ℕ) → Table → ℕ → ℕ → List Pair
waiting_of asks table a n = map (λ u. (a, u)) (filter (λ u. nat_lt 0 (out_of asks table a u)) (below n))
