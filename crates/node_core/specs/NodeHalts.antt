-- What a disk has of a party that ends at a line.
use Rattle.std.specs.Prelude.{◌⊎◌}
use Rattle.fuxi_io.specs.Disks.{Told}
use Rattle.node_core.specs.Roles.{Role}

-- The line may count as taken or not: the disk has what it should of the party before it, or of the one behind it, or what a line leaves that was broken off.
abbrev pub FitsEither : (Role → Told → Type 0) → (Role → Role → Told → Type 0) → Role → Role → Told → Type 0
FitsEither fits halts before after t = fits before t ⊎ (fits after t ⊎ halts before after t)
