-- The events of an input are those that lines give, on a valid cluster.
use Rattle.std.proofs.Common.{◌≡◌, ℕ, ◌+◌, Bool, true, false, nat_lt, List, [], ◌∷◌, length, Result, Ok, Err, refl, subst}
use Rattle.std.specs.List.{AllByRecursion}
use Rattle.std.specs.Prelude.{if◌then◌else◌}
use Rattle.fuxi_io.specs.Lines.{InputLine}
use Rattle.fuxi_io.specs.declared.status.InputFault.TheVariants.{LineTooLong}
use Rattle.fuxi_terms.specs.Cluster.{ClusterRecord, is_valid_cluster}
use Rattle.fuxi_terms.specs.Counts.{then_do}
use Rattle.fuxi_terms.specs.Limits.{most_line_bytes}
use Rattle.cluster_desc.specs.declared.fault.ClusterFault.{ClusterFault}
use Rattle.cluster_desc.specs.ClusterLine.{cluster_of}
use Rattle.schedule_text.specs.ReadEvents.{event_of}
use Rattle.schedule_text.specs.declared.event.Event.{Event as LineEvent}
use Rattle.schedule_text.specs.declared.event.LineFault.{LineFault}
use Rattle.schedule_replay.specs.LineEvents.{event_as}
use Rattle.spec_world.specs.Events.{Event}
use Rattle.spec_world.specs.EventRanges.{IsInput, is_from_line}
use Rattle.input_lines.specs.Contents.{content, is_skipped}
use Rattle.schedule_replay.specs.Inputs.{Input, BadLine, cluster_said, event_said, unless_long, events_from, input_from}

-- a line that says something is not too long
short_by : {A : Type 0} (long : Bool) (bad : BadLine) (said : Result A BadLine) (x : A) → (if long then Err bad else said) ≡ Ok x → said ≡ Ok x
short_by true bad said x h = absurd (let no : ⊥ = cc in no)
short_by false bad said x h = h

short : {A : Type 0} (number : ℕ) (line : InputLine) (said : Result A BadLine) (x : A) → unless_long number line said ≡ Ok x → said ≡ Ok x
short number line said x h = short_by (nat_lt most_line_bytes (length line.bytes)) (record { line = number; fault = LineTooLong }) said x h

-- one that is skipped, or not
by_skip : {A : Type 0} (P : Type 0) (b : Bool) (skipped plain : Result A BadLine) (x : A) → (elim b as (λ _. Result A BadLine) [ true ↦ skipped | false ↦ plain ]) ≡ Ok x → (skipped ≡ Ok x → P) → (plain ≡ Ok x → P) → P
by_skip P true skipped plain x h f g = f h
by_skip P false skipped plain x h f g = g h

module _ (valid : (line : List ℕ) (c : ClusterRecord) → cluster_of line ≡ Ok c → is_valid_cluster c ≡ true) (given : (line : List ℕ) (e : LineEvent) → event_of line ≡ Ok e → is_from_line (event_as e) ≡ true) where
  abbrev AreGiven : List Event → Type 0
  AreGiven es = AllByRecursion (λ e. is_from_line e ≡ true) es

  more : (e : Event) (rest : Result (List Event) BadLine) (es : List Event) → is_from_line e ≡ true → ((ts : List Event) → rest ≡ Ok ts → AreGiven ts) → then_do rest (λ ts. Ok (e ∷ ts)) ≡ Ok es → AreGiven es
  more e (Ok ts) es h k is = let same : e ∷ ts ≡ es = cc in subst AreGiven same (h, k ts refl)
  more e (Err bad) es h k is = absurd (let no : ⊥ = cc in no)

  said : (line : List ℕ) (number : ℕ) (r : Result LineEvent LineFault) (rest : Result (List Event) BadLine) (es : List Event) → event_of line ≡ r → ((ts : List Event) → rest ≡ Ok ts → AreGiven ts)
      → then_do (event_said number r) (λ e. then_do rest (λ ts. Ok (e ∷ ts))) ≡ Ok es → AreGiven es
  said line number (Ok e) rest es is k h = more (event_as e) rest es (given line e is) k h
  said line number (Err fault) rest es is k h = absurd (let no : ⊥ = cc in no)

  events_given : (before : ℕ) (lines : List InputLine) (es : List Event) → events_from before lines ≡ Ok es → AreGiven es
  events_given before [] es h = let same : [] ≡ es = cc in subst AreGiven same tt
  events_given before (line ∷ lines) es h =
      by_skip (AreGiven es) (is_skipped (content line)) (events_from (before + 1) lines)
      (then_do (event_said (before + 1) (event_of (content line))) (λ e. then_do (events_from (before + 1) lines) (λ ts. Ok (e ∷ ts)))) es (short (before + 1) line _ es h)
      (λ k. events_given (before + 1) lines es k)
      (λ k. said (content line) (before + 1) (event_of (content line)) (events_from (before + 1) lines) es refl (λ ts t. events_given (before + 1) lines ts t) k)

  whole : (c : ClusterRecord) (rest : Result (List Event) BadLine) (i : Input) → is_valid_cluster c ≡ true → ((ts : List Event) → rest ≡ Ok ts → AreGiven ts)
      → then_do rest (λ es. Ok (record { cluster = c; events = es })) ≡ Ok i → IsInput i.cluster i.events
  whole c (Ok ts) i v k is = let same : record { cluster = c; events = ts } ≡ i = cc in subst (λ (x : Input). IsInput x.cluster x.events) same (record { cluster = v; lines = k ts refl })
  whole c (Err bad) i v k is = absurd (let no : ⊥ = cc in no)

  described : (line : List ℕ) (number : ℕ) (r : Result ClusterRecord ClusterFault) (rest : Result (List Event) BadLine) (i : Input) → cluster_of line ≡ r → ((ts : List Event) → rest ≡ Ok ts → AreGiven ts)
      → then_do (cluster_said number r) (λ c. then_do rest (λ es. Ok (record { cluster = c; events = es }))) ≡ Ok i → IsInput i.cluster i.events
  described line number (Ok c) rest i is k h = whole c rest i (valid line c is) k h
  described line number (Err fault) rest i is k h = absurd (let no : ⊥ = cc in no)

  pub input_given : (before : ℕ) (lines : List InputLine) (i : Input) → input_from before lines ≡ Ok i → IsInput i.cluster i.events
  input_given before [] i h = absurd (let no : ⊥ = cc in no)
  input_given before (line ∷ lines) i h =
      by_skip (IsInput i.cluster i.events) (is_skipped (content line)) (input_from (before + 1) lines)
      (then_do (cluster_said (before + 1) (cluster_of (content line))) (λ c. then_do (events_from (before + 1) lines) (λ es. Ok (record { cluster = c; events = es })))) i (short (before + 1) line _ i h)
      (λ k. input_given (before + 1) lines i k)
      (λ k. described (content line) (before + 1) (cluster_of (content line)) (events_from (before + 1) lines) i refl (λ ts t. events_given (before + 1) lines ts t) k)
