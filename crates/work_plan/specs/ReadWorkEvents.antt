-- What an event line says, or why it is none.
use Rattle.std.specs.Prelude.{ℕ, ◌+◌, Bool, nat_eq, ◌&&◌, List, [], ◌∷◌, length, drop, slice_index, Result, Ok, Err}
use Rattle.std.specs.List.{list_all, zip}
use Rattle.std.specs.Str.{bytes_eq}
use Rattle.fuxi_terms.specs.Counts.{then_do}
use Rattle.schedule_unit.specs.declared.party.AppNo.{AppNo}
use Rattle.schedule_unit.specs.declared.party.UnitNo.{UnitNo}
use Rattle.schedule_text.specs.declared.event.LineFault.{LineFault}
use Rattle.schedule_text.specs.declared.event.LineFault.TheVariants.{UnknownWord}
use Rattle.schedule_text.specs.LineHeads.{head_of as head_in}
use Rattle.schedule_text.specs.PlaceNumbers.{numbers_at}
use Rattle.schedule_text.specs.Words.{words_of}
use Rattle.work_plan.specs.declared.event.WorkEvent.{WorkEvent}
use Rattle.work_plan.specs.declared.event.WorkEvent.TheVariants as event
use Rattle.work_plan.specs.declared.form.Head.{Head}
use Rattle.work_plan.specs.declared.form.Head.TheVariants.{Agent, App, Row, Plan, TurnAgent, TurnApp, Deliver, DeliverRange, Show}
use Rattle.work_plan.specs.WorkLineForms.{Shape, shape_of, heads, is_within}

-- Which line it is. As far as the line has words, the first ones are those of the form, and the line has as many words as its form
abbrev pub begins : Shape → List (List ℕ) → Bool
begins s words = list_all (λ p. bytes_eq p.0 p.1) (zip s.words words)

abbrev pub has_count : Shape → List (List ℕ) → Bool
has_count s words = nat_eq (length words) (length s.words + length s.places)

abbrev pub is_head : List (List ℕ) → Head → Bool
is_head words h = begins (shape_of h) words && has_count (shape_of h) words

abbrev pub head_of : List Head → List (List ℕ) → Result Head LineFault
head_of heads words = head_in (λ h. begins (shape_of h)) (λ h. has_count (shape_of h)) heads words

-- The event of a line with these numbers
abbrev pub app_no : ℕ → AppNo
app_no n = record { 0 = n }

abbrev pub unit_no : ℕ → UnitNo
unit_no n = record { 0 = n }

abbrev pub event_at : Head → List ℕ → WorkEvent
event_at Agent ns = event.Agent (slice_index ns 0)
event_at App ns = event.App (app_no (slice_index ns 0)) (slice_index ns 1)
event_at Row ns = event.Row (app_no (slice_index ns 0)) (unit_no (slice_index ns 1)) (slice_index ns 2)
event_at Plan ns = event.Plan (app_no (slice_index ns 0)) (unit_no (slice_index ns 1)) (slice_index ns 2) (nat_eq (slice_index ns 3) 1)
event_at TurnAgent ns = event.TurnAgent
event_at TurnApp ns = event.TurnApp (app_no (slice_index ns 0))
event_at Deliver ns = event.Deliver (slice_index ns 0)
event_at DeliverRange ns = event.DeliverRange (slice_index ns 0) (slice_index ns 1)
event_at Show ns = event.Show

-- of the words of a line of this kind
abbrev pub event_behind : Head → List (List ℕ) → Result WorkEvent LineFault
event_behind h words = let s = shape_of h in then_do (numbers_at is_within s.places (length s.words) 0 (drop (length s.words) words)) (λ ns. Ok (event_at h ns))

abbrev pub work_of_words : List (List ℕ) → Result WorkEvent LineFault
work_of_words [] = Err UnknownWord
work_of_words (w ∷ ws) = then_do (head_of heads (w ∷ ws)) (λ h. event_behind h (w ∷ ws))

-- the event that a line says
abbrev pub work_of : List ℕ → Result WorkEvent LineFault
work_of line = work_of_words (words_of line)
