-- The generator: a linear congruential one modulo 2^64, by its state.
use Rattle.std.specs.Prelude.{ℕ, ◌+◌, ◌*◌, ◌/◌, ◌%◌, ◌^◌}

-- the state behind a draw
abbrev pub next : ℕ → ℕ
next x = (x * 6364136223846793005 + 1442695040888963407) % 2 ^ 64

-- the number that a draw gives, by the upper bits of the state behind it
abbrev pub number : ℕ → ℕ
number x = next x / 2 ^ 33

-- and that number below a bound
abbrev pub drawn : ℕ → ℕ → ℕ
drawn bound x = number x % bound
