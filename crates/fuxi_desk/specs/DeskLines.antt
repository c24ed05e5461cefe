-- What a line of a desk says, or why it says nothing.
use Rattle.std.specs.Prelude.{ℕ, Bool, cond, not, nat_le, nat_lt, ◌&&◌, List, [], ◌∷◌, length, Option, Some, None, Result, Ok, Err, codes}
use Rattle.std.specs.List.{list_all}
use Rattle.std.specs.Str.{bytes_eq}
use Rattle.hex.specs.Hex.{decode_of}
use Rattle.hex.specs.declared.error.FromHexError.{FromHexError}
use Rattle.fuxi_terms.specs.Counts.{then_do}
use Rattle.schedule_unit.specs.NumberWords.{number_of}
use Rattle.schedule_text.specs.ReadEvents.{event_of}
use Rattle.schedule_text.specs.Words.{words_of}
use Rattle.schedule_text.specs.declared.event.Event.{Event}
use Rattle.schedule_text.specs.declared.event.LineFault.{LineFault}
use Rattle.schedule_text.specs.declared.event.LineFault.TheVariants.{UnknownWord, WrongCount, BadNumber, Range}
use Rattle.master_desk.specs.CallOrders.{most_sessions}

-- a job is submitted, as by a line of a schedule; or a session has one call more
pub data DeskEvent : Type 0 where
  Submits : (event : Event) → DeskEvent
  Calls : (session : ℕ) → (bytes : List ℕ) → DeskEvent

-- the letters A to F
abbrev pub is_capital : ℕ → Bool
is_capital b = nat_le 65 b && nat_le b 70

abbrev pub bytes_in : Result (List ℕ) FromHexError → Option (List ℕ)
bytes_in (Ok bytes) = Some bytes
bytes_in (Err fault) = None

abbrev pub is_plain : List ℕ → Bool
is_plain word = nat_lt 0 (length word) && list_all (λ b. not (is_capital b)) word

-- the bytes of a word: two hexadecimal digits for each, at least one byte, and no capital letter
abbrev pub hex_of : List ℕ → Option (List ℕ)
hex_of word = cond (is_plain word) (bytes_in (decode_of word)) None

-- the session at place 1, and the bytes at place 2
abbrev pub session_at : Option ℕ → Result ℕ LineFault
session_at None = Err (BadNumber 1)
session_at (Some c) = cond (nat_lt c most_sessions) (Ok c) (Err (Range 1))

abbrev pub call_at : ℕ → Option (List ℕ) → Result DeskEvent LineFault
call_at c None = Err (BadNumber 2)
call_at c (Some bytes) = Ok (Calls c bytes)

abbrev pub call_with : List ℕ → List ℕ → Result DeskEvent LineFault
call_with c hex = then_do (session_at (number_of c)) (λ c. call_at c (hex_of hex))

-- the words behind the first one
abbrev pub call_of : List (List ℕ) → Result DeskEvent LineFault
call_of [] = Err WrongCount
call_of (c ∷ []) = Err WrongCount
call_of (c ∷ hex ∷ []) = call_with c hex
call_of (c ∷ hex ∷ word ∷ words) = Err WrongCount

abbrev pub submits : Result Event LineFault → Result DeskEvent LineFault
submits (Ok event) = Ok (Submits event)
submits (Err fault) = Err fault

abbrev pub event_in : List ℕ → List (List ℕ) → Result DeskEvent LineFault
event_in line [] = Err UnknownWord
event_in line (word ∷ words) = cond (bytes_eq word (codes "call")) (call_of words) (cond (bytes_eq word (codes "submit")) (submits (event_of line)) (Err UnknownWord))

abbrev pub desk_event : List ℕ → Result DeskEvent LineFault
desk_event line = event_in line (words_of line)
