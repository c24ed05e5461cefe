-- A rank on a machine as one number, which orders as such ranks do: the least of many is found by plain numbers.
use Rattle.std.specs.Prelude.{◌≡◌, ℕ, ◌+◌, ◌-◌, ◌*◌, ◌^◌, ◌<◌, ◌≤◌, cond, nat_eq, Some}
use Rattle.place_pass.specs.declared.marks.mark.Rank.{Rank}
use Rattle.place_pass.specs.Bounds.{MarkRecord, rank_of, key_of}

abbrev pub packed : Rank → ℕ → ℕ
packed r m = ((r.late * 256 + r.level) * 2 ^ 64 + r.turn) * 2 ^ 32 + m

-- what is above the numbers of all ranks
abbrev pub no_rank : ℕ
no_rank = 2 ^ 128 - 2

-- and where there is none, whatever begins to wait
abbrev pub never_rank : ℕ
never_rank = 2 ^ 128 - 1

-- the number of a machine where no pair from a turn on was looked at yet
abbrev pub renewed_number : ℕ → ℕ
renewed_number key = cond (nat_eq key never_rank) key 0

pub record IsSmall (r : Rank) : Type 0 where
  pub late : r.late < 256
  pub level : r.level < 256
  pub turn : r.turn < 2 ^ 64

-- there is a bound of all pairs, and its number is no less than this one
pub record IsAbove (k : MarkRecord) (turns m number : ℕ) : Type 0 where
  pub key : Rank
  pub is : key_of k turns ≡ Some (rank_of key)
  pub small : IsSmall key
  pub above : number ≤ packed key m
