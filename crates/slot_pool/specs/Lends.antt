-- What a pool ends as, where a `&mut` to one of its values is returned.
use Rattle.std.specs.Prelude.{ℕ}
use Rattle.std.specs.Borrow.{Lends, Fml, RattleType, MutBor}
use Rattle.slot_pool.specs.Pools.{PoolRecord, with_value}
use Rattle.slot_pool.specs.contracts.pool.Pool.{the_row}

-- once the borrow r ends, the last value written through r stands under the number
abbrev pub lends_value : (T : RattleType) (p : MutBor (PoolRecord T.Denot)) (number : ℕ) → MutBor T.Denot → Fml
lends_value T p number r = Lends (the_row T) T p r (with_value p.now number)
