-- What a source over a reader of std, or a sink over a writer, is seen as.
use Rattle.std.specs.Prelude.{ℕ}

-- the reader or writer inside, and how often it has failed
pub record Adapter (X : Type 0) : Type 0 where
  pub inner : X
  pub faults : ℕ
