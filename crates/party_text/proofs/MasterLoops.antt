-- What a loop over numbers has printed, of each master by itself that something holds of.
use Rattle.std.proofs.Common.{ℕ, List}
use Rattle.schedule_text.specs.Writing.{Begins}

pub record Printed (So : Type 0) (a b : List ℕ) : Type 0 where
  pub shows : So
  pub begins : Begins a b
