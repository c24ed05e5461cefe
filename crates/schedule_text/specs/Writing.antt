-- How an event is written: its words, with a blank between two of them.
use Rattle.std.specs.Prelude.{◌≡◌, ℕ, ◌<◌, ◌^◌, ◌≤◌, Bool, true, false, cond, nat_eq, List, [], ◌∷◌, ◌++◌, length, take, map, codes, decimal}
use Rattle.std.specs.List.{flat_map, AllByRecursion}
use Rattle.fuxi_terms.specs.Limits.{greatest_count}
use Rattle.schedule_unit.specs.declared.asks.Ask.{Ask}
use Rattle.schedule_text.specs.declared.event.Event.{Event}
use Rattle.schedule_text.specs.declared.event.Event.TheVariants.{Master as MasterEvent, Stop as StopEvent, Agent as AgentEvent, App as AppEvent, Submit as SubmitEvent, Finish as FinishEvent, Ban as BanEvent, Unban as UnbanEvent, Begin as BeginEvent, Preempt as PreemptEvent, Judge as JudgeEvent, Want as WantEvent, Near as NearEvent, Rack as RackEvent, Avoid as AvoidEvent, Back as BackEvent, TurnMaster as TurnMasterEvent, TurnAgent as TurnAgentEvent, TurnApp as TurnAppEvent, ResyncMaster as ResyncMasterEvent, ResyncAgent as ResyncAgentEvent, ResyncApp as ResyncAppEvent, Deliver as DeliverEvent, DeliverRange as DeliverRangeEvent, Dump as DumpEvent, Show as ShowEvent, Halt' as HaltEvent}
use Rattle.schedule_text.specs.declared.form.Head.{Head}
use Rattle.schedule_text.specs.declared.form.Head.TheVariants.{Master, Stop, Agent, App, Submit, Finish, Ban, Unban, Begin, Preempt, Judge, Want, Near, Rack, Avoid, Back, TurnMaster, TurnAgent, TurnApp, ResyncMaster, ResyncAgent, ResyncApp, Deliver, DeliverRange, Dump, Show}
use Rattle.schedule_text.specs.declared.form.Place.{Place}
use Rattle.schedule_text.specs.declared.form.Place.TheVariants.{Calls}
use Rattle.schedule_text.specs.LineForms.{shape_of, halt_shape, is_within}
use Rattle.schedule_text.specs.Halting.{is_writing}

-- what an event says: its line, the numbers of that line, and the units behind them; of a stop within a writing what the line within says
pub record Saying : Type 0 where
  pub head : Head
  pub numbers : List ℕ
  pub asks : List Ask

abbrev pub says : Head → List ℕ → Saying
says head numbers = record { head = head; numbers = numbers; asks = [] }

abbrev pub switch : Bool → ℕ
switch on = cond on 1 0

abbrev pub saying_of : Event → Saying
saying_of (MasterEvent e) = says Master (e ∷ [])
saying_of (StopEvent e) = says Stop (e ∷ [])
saying_of (AgentEvent m b) = says Agent (m.0 ∷ b ∷ [])
saying_of (AppEvent a b) = says App (a.0 ∷ b ∷ [])
saying_of (SubmitEvent e a g asks) = record { head = Submit; numbers = e ∷ a.0 ∷ g.0 ∷ []; asks = asks }
saying_of (FinishEvent e a) = says Finish (e ∷ a.0 ∷ [])
saying_of (BanEvent e m) = says Ban (e ∷ m.0 ∷ [])
saying_of (UnbanEvent e m) = says Unban (e ∷ m.0 ∷ [])
saying_of (BeginEvent e) = says Begin (e ∷ [])
saying_of (PreemptEvent e) = says Preempt (e ∷ [])
saying_of (JudgeEvent e least percent) = says Judge (e ∷ least ∷ percent ∷ [])
saying_of (WantEvent a u n) = says Want (a.0 ∷ u.0 ∷ n ∷ [])
saying_of (NearEvent a u m n) = says Near (a.0 ∷ u.0 ∷ m.0 ∷ n ∷ [])
saying_of (RackEvent a u r n) = says Rack (a.0 ∷ u.0 ∷ r.0 ∷ n ∷ [])
saying_of (AvoidEvent a u m on) = says Avoid (a.0 ∷ u.0 ∷ m.0 ∷ switch on ∷ [])
saying_of (BackEvent a u m n) = says Back (a.0 ∷ u.0 ∷ m.0 ∷ n ∷ [])
saying_of (TurnMasterEvent e) = says TurnMaster (e ∷ [])
saying_of (TurnAgentEvent m) = says TurnAgent (m.0 ∷ [])
saying_of (TurnAppEvent a) = says TurnApp (a.0 ∷ [])
saying_of (ResyncMasterEvent e) = says ResyncMaster (e ∷ [])
saying_of (ResyncAgentEvent m) = says ResyncAgent (m.0 ∷ [])
saying_of (ResyncAppEvent a) = says ResyncApp (a.0 ∷ [])
saying_of (DeliverEvent k) = says Deliver (k ∷ [])
saying_of (DeliverRangeEvent k l) = says DeliverRange (k ∷ l ∷ [])
saying_of (DumpEvent k) = says Dump (k ∷ [])
saying_of ShowEvent = says Show []
saying_of (HaltEvent calls all p x) = saying_of x

-- The words of an event: those of its line, its numbers, and the units with a slash between two of them. The bound of a unit is written where
-- its number is not the greatest
abbrev pub most_words : ℕ → List (List ℕ)
most_words n = cond (nat_eq n greatest_count) [] (codes "most" ∷ decimal n ∷ [])

abbrev pub ask_words : Ask → List (List ℕ)
ask_words a = decimal a.priority ∷ (map decimal a.quantities ++ most_words a.most)

abbrev pub asks_words : List Ask → List (List ℕ)
asks_words [] = []
asks_words (a ∷ as_) = ask_words a ++ flat_map (λ b. codes "/" ∷ ask_words b) as_

abbrev pub saying_words : Saying → List (List ℕ)
saying_words s = (shape_of s.head).words ++ (map decimal s.numbers ++ asks_words s.asks)

-- words behind others, each with a blank before it
abbrev pub blanked : List (List ℕ) → List ℕ
blanked words = flat_map (λ w. 32 ∷ w) words

abbrev pub spaced : List (List ℕ) → List ℕ
spaced [] = []
spaced (w ∷ ws) = w ++ blanked ws

-- of a stop within a writing its own words, and behind a blank the line within
abbrev pub halt_words : ℕ → Bool → List (List ℕ)
halt_words calls all = halt_shape.words ++ map decimal (calls ∷ switch all ∷ [])

abbrev pub event_text : Event → List ℕ
event_text (HaltEvent calls all p x) = spaced (halt_words calls all) ++ (32 ∷ event_text x)
event_text x = spaced (saying_words (saying_of x))

-- The events that a line can give: each number is in the range of its place, a submission has units, each with a priority,
-- 1 to 8 quantities and the number of a bound, and a stop within a writing has a line that writes
abbrev pub AreWithin : ℕ → List Place → List ℕ → Type 0
AreWithin before [] [] = Unit {0}
AreWithin before [] (n ∷ ns) = ⊥
AreWithin before (p ∷ ps) [] = ⊥
AreWithin before (p ∷ ps) (n ∷ ns) = (n < 2 ^ 64) × (is_within p before n ≡ true) × AreWithin n ps ns

pub record IsAsk (a : Ask) : Type 0 where
  pub priority : a.priority < 2 ^ 64
  pub some : 1 ≤ length a.quantities
  pub few : length a.quantities ≤ 8
  pub quantities : AllByRecursion (λ q. q < 2 ^ 64) a.quantities
  pub most : a.most < 2 ^ 64

-- units stand where they are wanted
abbrev pub AreAsks : Bool → List Ask → Type 0
AreAsks false asks = asks ≡ []
AreAsks true asks = (1 ≤ length asks) × AllByRecursion IsAsk asks

abbrev pub MayStop : Event → Type 0
MayStop (HaltEvent calls all p x) = (is_within Calls 0 calls ≡ true) × (is_writing x ≡ true)
MayStop x = Unit {0}

pub record IsLineEvent (e : Event) : Type 0 where
  pub numbers : AreWithin 0 (shape_of (saying_of e).head).places (saying_of e).numbers
  pub asks : AreAsks (shape_of (saying_of e).head).units (saying_of e).asks
  pub stop : MayStop e

-- what was there is there still, with or without more behind it
abbrev pub Begins : List ℕ → List ℕ → Type 0
Begins old new = take (length old) new ≡ old
