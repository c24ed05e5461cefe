-- A source and a sink over memory, with the numbers of the calls that are to fail. Calls count from 1.
use Rattle.std.specs.Prelude.{ℕ, ◌+◌, ◌-◌, ◌<◌, ◌⊎◌, List, ◌++◌, length, drop, Contains}
use Rattle.fuxi_io.specs.Causes.{raised}

-- a source: what it has left, which calls are to fail, how many calls were made, and how many of them failed
pub record Supply : Type 0 where
  pub left : List ℕ
  pub fails : List ℕ
  pub calls : ℕ
  pub faults : ℕ

-- the next call is one of those that are to fail
abbrev pub SupplyFails : Supply → Type 0
SupplyFails s = Contains s.fails (raised s.calls)

-- after a read that failed
abbrev pub unread : Supply → Supply
unread s = record s { calls = raised s.calls; faults = raised s.faults }

-- after a read of n bytes
abbrev pub read_on : Supply → ℕ → Supply
read_on s n = record s { left = drop n s.left; calls = raised s.calls }

-- a sink: what it took, the room that is left, which calls are to fail, how many calls were made, and how many of them failed
pub record Store : Type 0 where
  pub took : List ℕ
  pub room : ℕ
  pub fails : List ℕ
  pub calls : ℕ
  pub faults : ℕ

-- the next call is one of those that are to fail, or lacks room for its bytes and one more
abbrev pub StoreFails : Store → List ℕ → Type 0
StoreFails s bytes = Contains s.fails (raised s.calls) ⊎ (s.room < length bytes + 1)

-- after a write that failed
abbrev pub unwritten : Store → Store
unwritten s = record s { calls = raised s.calls; faults = raised s.faults }

-- after a write of the bytes
abbrev pub written_on : Store → List ℕ → Store
written_on s bytes = record s { took = s.took ++ bytes; room = s.room - (length bytes + 1); calls = raised s.calls }
