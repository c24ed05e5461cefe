-- How a pool lays out its values. No public clause cites this module.
use Rattle.std.specs.Prelude.{◌≡◌, ◌≢◌, ℕ, ◌<◌, ◌≤◌, ◌^◌, List, length, get_or, Option, Some, None, is_none, count_by, All, AllPairs}
use Rattle.slot_pool.specs.declared.cell.Cell.{Cell}
use Rattle.slot_pool.specs.declared.cell.Cell.TheVariants.{Vacant, Live}

module _ {T : Type 0} where
  abbrev pub value_of : Cell T → Option T
  value_of Vacant = None
  value_of (Live value) = Some value

  -- Each number that was ever used has a generation, and the free numbers are those under which nothing stands, each once.
  pub record IsPool (values : List (Option T)) (generations free : List ℕ) (room : ℕ) : Type 0 where
    pub numbered : length generations ≡ length values
    pub within : length values ≤ room
    pub counted : count_by is_none values ≡ length free
    pub vacant : All (λ n. (n < length values) × (get_or values n None ≡ None)) free
    pub apart : AllPairs (λ n m. n ≢ m) free

-- What was reserved: each of the three vectors has room for so many numbers, all of which a slot can have.
pub record HasRoom (room values generations free : ℕ) : Type 0 where
  pub values_fit : room ≤ values
  pub generations_fit : room ≤ generations
  pub free_fit : room ≤ free
  pub numbers_fit : room < 2 ^ 32
