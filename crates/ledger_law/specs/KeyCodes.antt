-- Keys as numbers in their order.
use Rattle.std.specs.Prelude.{ℕ, ◌+◌, ◌*◌}
use Rattle.fuxi_terms.specs.declared.Key.{Key}

-- a unit is below 256 and a number below 2^32, so the order of these numbers is that of keys
abbrev pub key_code : Key → ℕ
key_code k = (k.what * 256 + k.unit) * 4294967296 + k.number
