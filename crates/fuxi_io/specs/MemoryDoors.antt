-- A door over memory.
use Rattle.std.specs.Prelude.{◌≡◌, ◌≢◌, ◌⊎◌, ℕ, ◌+◌, ◌-◌, ◌<◌, ◌≤◌, ⊤, Bool, cond, List, [], ◌∷◌, length, take, drop, Some, None, Contains}
use Rattle.fuxi_io.specs.Causes.{raised}
use Rattle.fuxi_io.specs.Doors.{Talk, Told, took_by}
use Rattle.fuxi_io.specs.declared.memory_door.Opened.{Opened}

-- What it tells; what the last connection has left, and the bytes of those that are still to come; the room that is left for bytes, and for
-- earlier connections; which calls are to fail, how many were made, and how many of them failed.
pub record Doorway : Type 0 where
  pub told : Told
  pub left : List ℕ
  pub coming : List (List ℕ)
  pub room : ℕ
  pub places : ℕ
  pub fails : List ℕ
  pub calls : ℕ
  pub faults : ℕ

-- of all bytes that were taken, those of the last connection stand at the end
abbrev pub talk_of : List ℕ → Opened → Talk
talk_of took c = record { gave = take c.at c.bytes.items; took = drop c.from took; ended = c.ended; order = c.order }

-- connections, the newest first
abbrev pub talks_of : List ℕ → List Opened → List Talk
talks_of took [] = []
talks_of took (c ∷ cs) = talk_of took c ∷ talks_of (take c.from took) cs

-- the bytes that each took begin among so many
abbrev pub AreCut : ℕ → List Opened → Type 0
AreCut end [] = ⊤
AreCut end (c ∷ cs) = (c.from ≤ end) × AreCut c.from cs

-- of so many bytes, those from a place to another are what the connection of this number took, counted from 0 at the oldest
pub record IsSpan (count : ℕ) (cs : List Opened) (number from end : ℕ) : Type 0 where
  pub rises : from ≤ end
  pub within : end ≤ count
  pub took : (bytes : List ℕ) → length bytes ≡ count → took_by (talks_of bytes cs) number ≡ take (end - from) (drop from bytes)

abbrev pub told_of : Bool → Bool → List ℕ → ℕ → Bool → List ℕ → Opened → List Opened → Told
told_of handed accepts addr knocks begun took last past = record {
  knock = cond handed (Some (record { accepts = accepts; addr = addr })) None;
  knocks = knocks;
  talks = cond begun (talks_of took (last ∷ past)) [];
}

-- the next call is one of those that are to fail
abbrev pub CallFails : Doorway → Type 0
CallFails d = Contains d.fails (raised d.calls)

-- an opening fails also where no connection is left, or no place for the one before it
abbrev pub OpenFails : Doorway → Type 0
OpenFails d = CallFails d ⊎ (d.coming ≡ []) ⊎ ((d.told.talks ≢ []) × (d.places ≡ 0))

-- a read where none was opened
abbrev pub ReadFails : Doorway → Type 0
ReadFails d = CallFails d ⊎ (d.told.talks ≡ [])

-- a write there, and where room for its bytes and one more lacks
abbrev pub WriteFails : Doorway → List ℕ → Type 0
WriteFails d bytes = CallFails d ⊎ (d.told.talks ≡ []) ⊎ (d.room < length bytes + 1)
