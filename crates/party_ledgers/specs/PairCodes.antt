-- The job and the unit of a row's key as one number.
use Rattle.std.specs.Prelude.{ℕ, ◌+◌, ◌*◌}
use Rattle.fuxi_terms.specs.Keys.{RowKey}

-- a unit is below 256, so the order of these numbers is that of jobs and then of units
abbrev pub pair_code : RowKey → ℕ
pair_code k = k.job * 256 + k.unit
