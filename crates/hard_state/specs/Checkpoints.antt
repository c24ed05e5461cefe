-- A file of records. A record is the gate byte 1, the length of its body in four bytes, and the body; behind the last one stands a closed gate,
-- any other byte. What stands behind a closed gate is not looked at.
use Rattle.std.specs.Prelude.{ℕ, zero, suc, ◌+◌, Bool, cond, nat_lt, nat_eq, List, [], ◌∷◌, ◌++◌, length, take, drop, slice_index, Option, Some, None, Result, Ok, Err}
use Rattle.std.specs.Int.{to_be_bytes, from_be_bytes, w32}

-- what is written behind a gate: the length of the body, the body, and the next gate, closed
abbrev pub behind_gate : List ℕ → List ℕ
behind_gate body = to_be_bytes w32 (length body) ++ body ++ 0 ∷ []

abbrev pub is_open : List ℕ → Bool
is_open bytes = nat_eq (slice_index bytes 0) 1

-- of a record from its gate on: the length of its body, the length of the whole, and the body
abbrev pub body_size : List ℕ → ℕ
body_size bytes = from_be_bytes w32 (take 4 (drop 1 bytes))

abbrev pub record_size : List ℕ → ℕ
record_size bytes = 5 + body_size bytes

abbrev pub body_at : List ℕ → List ℕ
body_at bytes = take (body_size bytes) (drop 5 bytes)

-- What is found at a gate: it is closed; a record that is damaged; or a whole one, with the value that it leads to and its size
pub data Found (S : Type 0) : Type 0 where
  Closed : Found S
  Damaged : Found S
  Whole : (value : S) (size : ℕ) → Found S

-- the value that a file stands for, and where its closed gate stands
pub record Opened (S : Type 0) : Type 0 where
  pub value : S
  pub gate : ℕ

abbrev pub found_body : {S : Type 0} → Option S → ℕ → Found S
found_body None size = Damaged
found_body (Some value) size = Whole value size

-- what follows from it, where `read` goes on behind a record
abbrev pub read_from : {S : Type 0} → (ℕ → S → List ℕ → Result (Opened S) ℕ) → ℕ → S → List ℕ → Found S → Result (Opened S) ℕ
read_from read gate value bytes Closed = Ok (record { value = value; gate = gate })
read_from read gate value bytes Damaged = Err gate
read_from read gate value bytes (Whole next size) = read (gate + size) next (drop size bytes)

-- `taken` is what a body makes of a value, or None where no such body may stand there
module _ {S : Type 0} (taken : S → List ℕ → Option S) where
  -- a record has to have its whole body, and one byte behind it
  abbrev pub found_record : S → List ℕ → Found S
  found_record value bytes = cond (nat_lt (record_size bytes) (length bytes)) (found_body (taken value (body_at bytes)) (record_size bytes)) Damaged

  abbrev pub found_at : S → List ℕ → Found S
  found_at value bytes = cond (is_open bytes) (found_record value bytes) Closed

  -- From the gate on that stands at this offset: the value with the offset of its closed gate, or the offset of the first damaged record.
  -- So many records may still come.
  abbrev pub read_on : ℕ → ℕ → S → List ℕ → Result (Opened S) ℕ
  read_on zero gate value bytes = cond (is_open bytes) (Err gate) (Ok (record { value = value; gate = gate }))
  read_on (suc left) gate value bytes = read_from (read_on left) gate value bytes (found_at value bytes)

  -- a whole file; one of at most one byte has no record
  abbrev pub read_file : ℕ → S → List ℕ → Result (Opened S) ℕ
  read_file most nothing file = cond (nat_lt 1 (length file)) (read_on most 0 nothing file) (Ok (record { value = nothing; gate = 0 }))
