-- Sets of places.
use Rattle.std.specs.Prelude.{ℕ, ◌/◌, ◌%◌, Bool, List, nat_eq, []}
use Rattle.std.proofs.Common.{get_or}
use Rattle.std.specs.Int.{bit_at}
use Rattle.locality_tree.specs.declared.place_set.PlaceSet.{PlaceSet}

-- whether the bit of the place is set
abbrev pub in_set : PlaceSet → ℕ → Bool
in_set s n = nat_eq (bit_at (get_or s.words (n / 64) 0) (n % 64)) 1

-- what stands where no set does
abbrev pub no_set : PlaceSet
no_set = record { words = [] }

-- whether the place is in the set of the unit of this number
abbrev pub is_marked : List PlaceSet → ℕ → ℕ → Bool
is_marked sets n place = in_set (get_or sets n no_set) place
