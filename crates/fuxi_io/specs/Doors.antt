-- What a door has been through, and what its calls add to it.
use Rattle.std.specs.Prelude.{◌≡◌, ℕ, Bool, false, ◌||◌, cond, nat_eq, List, [], ◌∷◌, ◌++◌, length, take, Option, Some, None, ⊤, Result, Ok, Err}
use Rattle.fuxi_io.specs.Causes.{raised}
use Rattle.fuxi_io.specs.declared.usage_trace.UsageTrace.{UsageTrace}
use Rattle.fuxi_io.specs.UsageTraces.{unused, trace_read, trace_written, trace_failed, trace_closed}

-- an address that was handed to the door, to `accept` or else to `dial`
pub record Knock : Type 0 where
  pub accepts : Bool
  pub addr : List ℕ

-- a connection: what it gave so far, what it took so far, whether a read on it answered 0, and in which order it was used
pub record Talk : Type 0 where
  pub gave : List ℕ
  pub took : List ℕ
  pub ended : Bool
  pub order : UsageTrace

-- the last address, how many were handed over, and all connections that were opened, the newest first
pub record Told : Type 0 where
  pub knock : Option Knock
  pub knocks : ℕ
  pub talks : List Talk

abbrev pub untold : Told
untold = record { knock = None; knocks = 0; talks = [] }

abbrev pub new_talk : Talk
new_talk = record { gave = []; took = []; ended = false; order = unused }

-- a read gave these bytes more, or its end
abbrev pub given : List ℕ → Bool → Talk → Talk
given bytes ended talk = record { gave = talk.gave ++ bytes; took = talk.took; ended = talk.ended || ended; order = trace_read talk.order }

-- a write had it take these bytes more
abbrev pub taken : List ℕ → Talk → Talk
taken bytes talk = record { gave = talk.gave; took = talk.took ++ bytes; ended = talk.ended; order = trace_written talk.order }

-- a read or a write failed
abbrev pub failing : Talk → Talk
failing talk = record { gave = talk.gave; took = talk.took; ended = talk.ended; order = trace_failed talk.order }

-- it was closed
abbrev pub shut : Talk → Talk
shut talk = record { gave = talk.gave; took = talk.took; ended = talk.ended; order = trace_closed talk.order }

abbrev pub on_first : (Talk → Talk) → List Talk → List Talk
on_first f [] = []
on_first f (talk ∷ talks) = f talk ∷ talks

-- what was done to the last connection
abbrev pub on_last : (Talk → Talk) → Told → Told
on_last f t = record { knock = t.knock; knocks = t.knocks; talks = on_first f t.talks }

-- an address more was handed over, and these are the connections since
abbrev pub knocked : Bool → List ℕ → List Talk → Told → Told
knocked accepts addr talks t = record { knock = Some (record { accepts = accepts; addr = addr }); knocks = raised t.knocks; talks = talks }

-- what was told stays told; of a door that told nothing nothing is said
abbrev pub WhereTold : (Told → Told → Type 0) → Option Told → Option Told → Type 0
WhereTold step None new = ⊤
WhereTold step (Some old) None = ⊥
WhereTold step (Some old) (Some new) = step old new

-- The calls. The address is told whatever came of it. A write that failed may have taken a part from the front. A connection that could not be closed is
-- none any more either.
abbrev pub Opens : {E : Type 0} → Bool → List ℕ → Result (Unit {0}) E → Told → Told → Type 0
Opens accepts addr (Ok done) old new = new ≡ knocked accepts addr (new_talk ∷ old.talks) old
Opens accepts addr (Err fault) old new = new ≡ knocked accepts addr old.talks old

abbrev pub Reads : {E : Type 0} → List ℕ → Result ℕ E → Told → Told → Type 0
Reads buf (Ok n) old new = new ≡ on_last (given (take n buf) (nat_eq n 0)) old
Reads buf (Err fault) old new = new ≡ on_last failing old

abbrev pub Writes : {E : Type 0} → List ℕ → Result (Unit {0}) E → Told → Told → Type 0
Writes bytes (Ok done) old new = new ≡ on_last (taken bytes) old
Writes bytes (Err fault) old new = (n : ℕ) × (new ≡ on_last (λ talk. failing (taken (take n bytes) talk)) old)

abbrev pub Closes : Told → Told → Type 0
Closes old new = new ≡ on_last shut old

-- what the connection of this number took, counted from 0 at the oldest; nothing where it was not opened
abbrev pub took_by : List Talk → ℕ → List ℕ
took_by [] number = []
took_by (talk ∷ talks) number = cond (nat_eq number (length talks)) talk.took (took_by talks number)
