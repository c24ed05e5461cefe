-- What an event line says, or why it is none.
use Rattle.std.specs.Prelude.{◌≡◌, ℕ, ◌+◌, ◌-◌, Bool, true, false, cond, nat_eq, nat_lt, ◌&&◌, List, [], ◌∷◌, length, take, drop, get_or, slice_index, Result, Ok, Err, codes}
use Rattle.std.specs.List.{list_all, zip, slice_split}
use Rattle.std.specs.Str.{bytes_eq}
use Rattle.fuxi_terms.specs.Limits.{greatest_count}
use Rattle.fuxi_terms.specs.Cluster.{is_between}
use Rattle.fuxi_terms.specs.Counts.{then_do}
use Rattle.schedule_unit.specs.declared.asks.Ask.{Ask}
use Rattle.schedule_unit.specs.declared.party.AppNo.{AppNo}
use Rattle.schedule_unit.specs.declared.party.GroupNo.{GroupNo}
use Rattle.schedule_unit.specs.declared.party.MachineNo.{MachineNo}
use Rattle.schedule_unit.specs.declared.party.RackNo.{RackNo}
use Rattle.schedule_unit.specs.declared.party.UnitNo.{UnitNo}
use Rattle.schedule_text.specs.declared.event.Event.{Event}
use Rattle.schedule_text.specs.declared.event.Event.TheVariants as event
use Rattle.schedule_text.specs.declared.event.LineFault.{LineFault}
use Rattle.schedule_text.specs.declared.event.LineFault.TheVariants.{UnknownWord, WrongCount, BadNumber, Range, OutOfMemory}
use Rattle.schedule_text.specs.declared.form.Head.{Head}
use Rattle.schedule_text.specs.declared.form.Head.TheVariants.{Master, Stop, Agent, App, Submit, Finish, Ban, Unban, Begin, Preempt, Judge, Want, Near, Rack, Avoid, Back, TurnMaster, TurnAgent, TurnApp, ResyncMaster, ResyncAgent, ResyncApp, Deliver, DeliverRange, Dump, Show}
use Rattle.schedule_text.specs.declared.form.Place.{Place}
use Rattle.schedule_text.specs.declared.form.Place.TheVariants.{Count}
use Rattle.schedule_text.specs.Words.{words_of}
use Rattle.schedule_text.specs.LineForms.{Shape, shape_of, heads, halt_shape, writing_heads, is_within}
use Rattle.schedule_text.specs.Halting.{anywhere, halting}
use Rattle.schedule_text.specs.LineHeads.{head_of as head_in}
use Rattle.schedule_text.specs.PlaceNumbers.{number_at as number_in, numbers_at as numbers_in}

-- Which line it is. As far as the line has words, the first ones are those of the form
abbrev pub begins : Shape → List (List ℕ) → Bool
begins s words = list_all (λ p. bytes_eq p.0 p.1) (zip s.words words)

-- where the numbers end
abbrev pub front : Shape → ℕ
front s = length s.words + length s.places

-- the words of each unit: a slash stands between two units
abbrev pub units_of : List (List ℕ) → List (List (List ℕ))
units_of words = slice_split (λ w. bytes_eq w (codes "/")) words

-- where the word before a unit's last one is `most`, these two words are set aside as its bound
abbrev pub is_bounded : List (List ℕ) → Bool
is_bounded words = nat_lt 1 (length words) && bytes_eq (get_or words (length words - 2) []) (codes "most")

-- how many other words the unit has
abbrev pub own_count : List (List ℕ) → ℕ
own_count words = cond (is_bounded words) (length words - 2) (length words)

-- they are a priority, and 1 to 8 quantities
abbrev pub is_unit : List (List ℕ) → Bool
is_unit words = is_between 2 9 (own_count words)

-- the line has as many words as its form; of a submission each unit has
abbrev pub has_count : Shape → List (List ℕ) → Bool
has_count s words = elim s.units [ true ↦ list_all is_unit (units_of (drop (front s) words)) | false ↦ nat_eq (length words) (front s) ]

abbrev pub is_head : List (List ℕ) → Head → Bool
is_head words h = begins (shape_of h) words && has_count (shape_of h) words

-- which of these lines
abbrev pub head_of : List Head → List (List ℕ) → Result Head LineFault
head_of heads words = head_in (λ h. begins (shape_of h)) (λ h. has_count (shape_of h)) heads words

-- The number at a place, and the numbers of these places, which stand from a place of the line on
abbrev pub number_at : Place → ℕ → ℕ → List ℕ → Result ℕ LineFault
number_at p place before word = number_in is_within p place before word

abbrev pub numbers_at : List Place → ℕ → ℕ → List (List ℕ) → Result (List ℕ) LineFault
numbers_at ps place before words = numbers_in is_within ps place before words

-- Units. Any numbers
abbrev pub counts_at : ℕ → List (List ℕ) → Result (List ℕ) LineFault
counts_at place [] = Ok []
counts_at place (w ∷ ws) = then_do (number_at Count place 0 w) (λ n. then_do (counts_at (place + 1) ws) (λ ns. Ok (n ∷ ns)))

-- the number of a bound, and the greatest where there is none
abbrev pub most_at : ℕ → List (List ℕ) → Result ℕ LineFault
most_at place [] = Ok greatest_count
most_at place (w ∷ []) = Ok greatest_count
most_at place (w ∷ n ∷ ws) = number_at Count (place + 1) 0 n

-- a priority, quantities and the number of the bound
abbrev pub ask_of : List ℕ → ℕ → Ask
ask_of [] most = record { priority = 0; quantities = []; most = most }
ask_of (n ∷ ns) most = record { priority = n; quantities = ns; most = most }

-- one unit: its own words, and then its bound
abbrev pub ask_at : ℕ → List (List ℕ) → Result Ask LineFault
ask_at place u = let own = own_count u in
    then_do (counts_at place (take own u)) (λ ns. then_do (most_at (place + own) (drop own u)) (λ most. Ok (ask_of ns most)))

abbrev pub asks_at : ℕ → List (List (List ℕ)) → Result (List Ask) LineFault
asks_at place [] = Ok []
asks_at place (u ∷ us) = then_do (ask_at place u) (λ ask. then_do (asks_at (place + length u + 1) us) (λ asks. Ok (ask ∷ asks)))

-- The event of a line with these numbers and units
abbrev pub app_no : ℕ → AppNo
app_no n = record { 0 = n }

abbrev pub unit_no : ℕ → UnitNo
unit_no n = record { 0 = n }

abbrev pub machine_no : ℕ → MachineNo
machine_no n = record { 0 = n }

abbrev pub rack_no : ℕ → RackNo
rack_no n = record { 0 = n }

abbrev pub group_no : ℕ → GroupNo
group_no n = record { 0 = n }

abbrev pub event_at : Head → List ℕ → List Ask → Event
event_at Master ns asks = event.Master (slice_index ns 0)
event_at Stop ns asks = event.Stop (slice_index ns 0)
event_at Agent ns asks = event.Agent (machine_no (slice_index ns 0)) (slice_index ns 1)
event_at App ns asks = event.App (app_no (slice_index ns 0)) (slice_index ns 1)
event_at Submit ns asks = event.Submit (slice_index ns 0) (app_no (slice_index ns 1)) (group_no (slice_index ns 2)) asks
event_at Finish ns asks = event.Finish (slice_index ns 0) (app_no (slice_index ns 1))
event_at Ban ns asks = event.Ban (slice_index ns 0) (machine_no (slice_index ns 1))
event_at Unban ns asks = event.Unban (slice_index ns 0) (machine_no (slice_index ns 1))
event_at Begin ns asks = event.Begin (slice_index ns 0)
event_at Preempt ns asks = event.Preempt (slice_index ns 0)
event_at Judge ns asks = event.Judge (slice_index ns 0) (slice_index ns 1) (slice_index ns 2)
event_at Want ns asks = event.Want (app_no (slice_index ns 0)) (unit_no (slice_index ns 1)) (slice_index ns 2)
event_at Near ns asks = event.Near (app_no (slice_index ns 0)) (unit_no (slice_index ns 1)) (machine_no (slice_index ns 2)) (slice_index ns 3)
event_at Rack ns asks = event.Rack (app_no (slice_index ns 0)) (unit_no (slice_index ns 1)) (rack_no (slice_index ns 2)) (slice_index ns 3)
event_at Avoid ns asks = event.Avoid (app_no (slice_index ns 0)) (unit_no (slice_index ns 1)) (machine_no (slice_index ns 2)) (nat_eq (slice_index ns 3) 1)
event_at Back ns asks = event.Back (app_no (slice_index ns 0)) (unit_no (slice_index ns 1)) (machine_no (slice_index ns 2)) (slice_index ns 3)
event_at TurnMaster ns asks = event.TurnMaster (slice_index ns 0)
event_at TurnAgent ns asks = event.TurnAgent (machine_no (slice_index ns 0))
event_at TurnApp ns asks = event.TurnApp (app_no (slice_index ns 0))
event_at ResyncMaster ns asks = event.ResyncMaster (slice_index ns 0)
event_at ResyncAgent ns asks = event.ResyncAgent (machine_no (slice_index ns 0))
event_at ResyncApp ns asks = event.ResyncApp (app_no (slice_index ns 0))
event_at Deliver ns asks = event.Deliver (slice_index ns 0)
event_at DeliverRange ns asks = event.DeliverRange (slice_index ns 0) (slice_index ns 1)
event_at Dump ns asks = event.Dump (slice_index ns 0)
event_at Show ns asks = event.Show

-- Of the words of a line that begins at a place of the whole line. The units behind the numbers, where the line has units
abbrev pub asks_of : Shape → ℕ → List (List ℕ) → Result (List Ask) LineFault
asks_of s place words = elim s.units [ true ↦ asks_at (place + front s) (units_of (drop (front s) words)) | false ↦ Ok [] ]

abbrev pub event_behind : Head → ℕ → List (List ℕ) → Result Event LineFault
event_behind h place words = let s = shape_of h in
    then_do (numbers_at s.places (place + length s.words) 0 (drop (length s.words) words)) (λ ns. then_do (asks_of s place words) (λ asks. Ok (event_at h ns asks)))

-- A stop within a writing. Its own numbers
abbrev pub stop_of : List (List ℕ) → Result (ℕ × Bool) LineFault
stop_of words = then_do (numbers_at halt_shape.places (length halt_shape.words) 0 (drop (length halt_shape.words) words)) (λ ns. Ok (slice_index ns 0, nat_eq (slice_index ns 1) 1))

-- which line stands behind them, then they, and then what that line has
abbrev pub halt_of : List (List ℕ) → Result Event LineFault
halt_of words = let inner = drop (front halt_shape) words in
    then_do (head_of writing_heads inner) (λ h. then_do (stop_of words) (λ stop. then_do (event_behind h (front halt_shape) inner) (λ x. Ok (halting stop.0 stop.1 x))))

abbrev pub event_of_words : List (List ℕ) → Result Event LineFault
event_of_words [] = Err UnknownWord
event_of_words (w ∷ ws) = elim (begins halt_shape (w ∷ ws)) [ true ↦ halt_of (w ∷ ws) | false ↦ then_do (head_of heads (w ∷ ws)) (λ h. event_behind h 0 (w ∷ ws)) ]

-- the event of a line, or the first fault: the first words, then the count of words, and then place by place. It is nowhere in memory
abbrev pub event_of : List ℕ → Result Event LineFault
event_of line = event_of_words (words_of line)

-- a fault is the one that the outcome has; want of memory may come at any time
abbrev pub IsFault : {A : Type 0} → Result A LineFault → LineFault → Type 0
IsFault outcome UnknownWord = outcome ≡ Err UnknownWord
IsFault outcome WrongCount = outcome ≡ Err WrongCount
IsFault outcome (BadNumber place) = outcome ≡ Err (BadNumber place)
IsFault outcome (Range place) = outcome ≡ Err (Range place)
IsFault outcome OutOfMemory = Unit {0}

-- so the words of a line are read
abbrev pub IsRead : List (List ℕ) → Result Event LineFault → Type 0
IsRead words (Ok e) = event_of_words words ≡ Ok (anywhere e)
IsRead words (Err fault) = IsFault (event_of_words words) fault
