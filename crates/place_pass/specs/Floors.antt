-- Numbers in blocks of 16, each block with a floor that none of its numbers is below.
use Rattle.std.specs.Prelude.{ℕ, ◌/◌, ◌<◌, ◌≤◌, List, length}
use Rattle.std.proofs.Common.{get_or}

pub record AreAboveFloors (numbers floors : List ℕ) : Type 0 where
  pub few : length numbers ≤ 256
  pub above : (n : ℕ) → n < length numbers → get_or floors (n / 16) 0 ≤ get_or numbers n 0
