-- Sums by group.
use Rattle.std.specs.Prelude.{◌≡◌, ℕ, ◌*◌, ◌^◌, ◌<◌, ◌≤◌, Bool, cond, true, false, List, [], length, get_or, slice_index}
use Rattle.preempt.specs.declared.entry.Entry.{Entry}
use Rattle.preempt.specs.declared.entry.Sums.{Sums}
use Rattle.preempt.specs.declared.victims.Taken.{Taken}
use Rattle.preempt.specs.GrantNumbers.{total_in, part_in}

abbrev pub no_sums : Sums
no_sums = record { q = [] }

-- by group whether it has begun and the place of its newest sums, and all sums that were put
pub record GroupParts : Type 0 where
  pub begun : List Bool
  pub places : List ℕ
  pub sums : List Sums

-- the sums of each group that has begun are there
pub record ArePlaces (begun : List Bool) (places : List ℕ) (sums : List Sums) : Type 0 where
  pub inside : (g : ℕ) → get_or begun g false ≡ true → get_or places g 0 < length sums

-- what is taken of a group in one resource: nothing where it has not begun
abbrev pub taken_at : GroupParts → ℕ → ℕ → ℕ
taken_at p g i = cond (get_or p.begun g false) (slice_index (get_or p.sums (get_or p.places g 0) no_sums).q i) 0

-- for each group what a set takes of it
pub record ArePartsOf (parts : GroupParts) (set : List Entry) : Type 0 where
  pub is : (g i : ℕ) → g < 32 → i < 8 → taken_at parts g i ≡ part_in g i set
  pub small : (g i : ℕ) → g < 32 → i < 8 → taken_at parts g i ≤ length set * 2 ^ 96

-- what a set takes of each resource, and what of it is of one group
pub record AreSumsOf (g : ℕ) (taken : Taken) (set : List Entry) : Type 0 where
  pub all : (i : ℕ) → i < 8 → slice_index taken.all i ≡ total_in i set
  pub own : (i : ℕ) → i < 8 → slice_index taken.own i ≡ part_in g i set
  pub all_small : (i : ℕ) → i < 8 → slice_index taken.all i ≤ length set * 2 ^ 96
  pub own_small : (i : ℕ) → i < 8 → slice_index taken.own i ≤ length set * 2 ^ 96
