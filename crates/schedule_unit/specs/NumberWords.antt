-- Which words are numbers.
use Rattle.std.specs.Prelude.{ℕ, ◌^◌, Bool, not, ◌&&◌, ◌||◌, nat_eq, nat_lt, List, length, slice_index, Option, Some, None, if◌then◌else◌}
use Rattle.std.specs.Str.{all_ascii_digits}
use Rattle.std.specs.Str.Parse.{digits_value}
use Rattle.fuxi_terms.specs.Cluster.{is_between}

-- 1 to 20 digits, and a 0 in front only where it is the only digit
abbrev pub is_numeral : List ℕ → Bool
is_numeral word = all_ascii_digits word && (is_between 1 20 (length word) && (nat_eq (length word) 1 || not (nat_eq (slice_index word 0) 48)))

-- what the digits write, where it fits 64 bits
abbrev pub number_of : List ℕ → Option ℕ
number_of word = if is_numeral word && nat_lt (digits_value 10 word) (2 ^ 64) then Some (digits_value 10 word) else None
