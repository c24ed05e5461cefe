-- Where the lines of a node end, whatever comes in its rounds and whatever its door tells.
use Rattle.std.proofs.Common.{◌≡◌, ◌≢◌, ℕ, ◌+◌, ◌<◌, ◌≤◌, Bool, true, false, not, nat_lt, if◌then◌else◌, List, [], ◌∷◌, length, Option, None, Some, IfSome, IfOk, Result, Ok, Err, refl, sym, ap, subst, ◌∙◌, arith}
use Rattle.std.proofs.lemmas.Bool.Decides.{nat_tests}
use Rattle.std.specs.Io.KnownBytes.{IsAtEnd, prepend_known}
use Rattle.fuxi_io.specs.Lines.{InputLine, lines_of, GivesKnown, FirstLonger, FirstTooLongKnown, MoreKnown}
use Rattle.fuxi_io.specs.declared.lines.Got.TheVariants.{Line, End}
use Rattle.fuxi_io.specs.declared.lines.LineStop.{LineStop}
use Rattle.fuxi_io.specs.declared.lines.LineStop.TheVariants.{ReadFault as ReadStop, LineTooLong as LongStop, TooManyLines as ManyStop}
use Rattle.fuxi_io.specs.declared.status.InputFault.{InputFault}
use Rattle.fuxi_io.specs.declared.status.InputFault.TheVariants.{LineTooLong}
use Rattle.fuxi_io.specs.declared.status.Status.{Status}
use Rattle.fuxi_io.specs.declared.status.Status.TheVariants.{Done, Usage, BadInput, ReadFault, WriteFault, Limit, OutOfMemory, DiskFault, StaleEpoch, DamagedCheckpoint}
use Rattle.fuxi_terms.specs.Limits.{most_line_bytes, most_lines}
use Rattle.schedule_text.specs.declared.event.LineFault.{LineFault}
use Rattle.input_lines.specs.Contents.{content, is_skipped}
use Rattle.schedule_text.specs.declared.event.LineFault.TheVariants.{UnknownWord, WrongCount, BadNumber, Range, OutOfMemory as NoMemory}
use Rattle.schedule_text.specs.ReadEvents.{IsFault}
use Rattle.input_lines.specs.InputStatuses.{event_fault, event_status, stop_status}
use Rattle.input_lines.specs.Wholes.{TakesLines}
use Rattle.node_core.specs.declared.line.NodeLine.{NodeLine}
use Rattle.node_core.specs.NodeLines.{node_line}
use Rattle.fuxi_node.specs.declared.taking.Stop.{Stop}
use Rattle.fuxi_node.specs.declared.taking.Stop.TheVariants.{Ends}
use Rattle.fuxi_node.specs.NodeRuns.{Ending, AtEnd, AtBadLine, AtLimit, ending_at, ending_from}
use Rattle.fuxi_node.specs.NodeEnds.{EndsBy}
use Rattle.fuxi_node.specs.NodeProgress.{IsNone, IsSaid, IsLastStatus, IsWriteStop, IsLineStop, Reaches}

-- one line, of which so many went before
module _ (before : ℕ) (line : InputLine) (lines : List InputLine) where
  abbrev by_skip : Bool → Ending
  by_skip b = elim b as (λ _. Ending) [
    | true ↦ ending_from (before + 1) lines
    | false ↦ ending_at (before + 1) (node_line (content line)) (ending_from (before + 1) lines)
  ]

  abbrev by_limits : Bool → Bool → Ending
  by_limits few long = if not few then AtLimit most_lines else (if long then AtBadLine (before + 1) LineTooLong else by_skip (is_skipped (content line)))

  in_limits : before < most_lines → length line.bytes ≤ most_line_bytes → ending_from before (line ∷ lines) ≡ by_skip (is_skipped (content line))
  in_limits more short =
      let m : nat_lt before most_lines ≡ true = grind (arith, nat_tests) in
      let s : nat_lt most_line_bytes (length line.bytes) ≡ false = grind (arith, nat_tests) in
      ap (λ few. by_limits few (nat_lt most_line_bytes (length line.bytes))) m ∙ ap (λ long. by_limits true long) s

  end_skipped : before < most_lines → length line.bytes ≤ most_line_bytes → is_skipped (content line) ≡ true → ending_from before (line ∷ lines) ≡ ending_from (before + 1) lines
  end_skipped more short skip = in_limits more short ∙ ap by_skip skip

  end_taken : before < most_lines → length line.bytes ≤ most_line_bytes → is_skipped (content line) ≡ false
      → ending_from before (line ∷ lines) ≡ ending_at (before + 1) (node_line (content line)) (ending_from (before + 1) lines)
  end_taken more short skip = in_limits more short ∙ ap by_skip skip

  end_too_long : before < most_lines → most_line_bytes < length line.bytes → ending_from before (line ∷ lines) ≡ AtBadLine (before + 1) LineTooLong
  end_too_long more long =
      let m : nat_lt before most_lines ≡ true = grind (arith, nat_tests) in
      let s : nat_lt most_line_bytes (length line.bytes) ≡ true = grind (arith, nat_tests) in
      ap (λ few. by_limits few (nat_lt most_line_bytes (length line.bytes))) m ∙ ap (λ long. by_limits true long) s

  end_too_many : before ≡ most_lines → ending_from before (line ∷ lines) ≡ AtLimit most_lines
  end_too_many many =
      let m : nat_lt before most_lines ≡ false = grind (arith, nat_tests) in
      ap (λ few. by_limits few (nat_lt most_line_bytes (length line.bytes))) m

end_long : (before : ℕ) (lines : List InputLine) → before < most_lines → FirstLonger most_line_bytes lines → ending_from before lines ≡ AtBadLine (before + 1) LineTooLong
end_long before [] more long = absurd long
end_long before (line ∷ lines) more long = end_too_long before line lines more long

end_many : (before : ℕ) (lines : List InputLine) → before ≡ most_lines → lines ≢ [] → ending_from before lines ≡ AtLimit most_lines
end_many before [] many some = absurd (some refl)
end_many before (line ∷ lines) many some = end_too_many before line lines many

goes_on : (number : ℕ) (what : Result NodeLine LineFault) (later : Ending) → IsSaid what → ending_at number what later ≡ later
goes_on number (Ok said) later good = refl
goes_on number (Err fault) later good = absurd good

-- how far the lines were taken
pub start_reaches : (first : ℕ) (known : Option (List ℕ)) (ends : Bool) → (ends ≡ false → IsAtEnd known) → IfSome known (λ bytes. Reaches first bytes first ends known)
start_reaches first None ends last = tt
start_reaches first (Some bytes) ends last = record { left = bytes; is_left = refl; same = refl; last = last }

some_more : (o : Option (List ℕ)) (P Q : List ℕ → Type 0) → ((x : List ℕ) → P x → Q x) → IfSome o P → IfSome o Q
some_more None P Q f h = tt
some_more (Some x) P Q f h = f x h

module _ (laws : TakesLines) (first : ℕ) (input : Option (List ℕ)) (number : ℕ) (ends : Bool) (rest : Option (List ℕ)) (a : IfSome input (λ bytes. Reaches first bytes number ends rest)) where
  -- one line more
  pub on_reaches : (rest' : Option (List ℕ)) (line : InputLine) (said : List ℕ) (number' : ℕ) → number' ≡ number + 1 → number < most_lines → GivesKnown Line rest line rest' → said ≡ content line → (is_skipped said ≡ false → IsSaid (node_line said))
      → IfSome input (λ bytes. Reaches first bytes number' line.ended rest')
  on_reaches rest' line said number' is_number more gives is_said good = some_more input _ _ (λ bytes x.
      let n = laws.next x.left line rest rest' x.is_left gives in
      record {
        left = n.behind;
        is_left = n.is_left;
        same = x.same ∙ ap (ending_from number) n.first.first ∙ by n.behind n.first.short (is_skipped (content line)) refl ∙ ap (λ k. ending_from k (lines_of n.behind)) (sym is_number);
        last = n.first.last;
      }) a
    where
      by : (behind : List ℕ) → length line.bytes ≤ most_line_bytes → (b : Bool) → is_skipped (content line) ≡ b → ending_from number (line ∷ lines_of behind) ≡ ending_from (number + 1) (lines_of behind)
      by behind short true skip = end_skipped number line (lines_of behind) more short skip
      by behind short false skip = end_taken number line (lines_of behind) more short skip
          ∙ goes_on (number + 1) (node_line (content line)) (ending_from (number + 1) (lines_of behind)) (subst (λ l. IsSaid (node_line l)) is_said (good (ap is_skipped is_said ∙ skip)))

  at_end : (status : Status) (left : Option (List ℕ)) (ending : Ending) → ending ≡ AtEnd → left ≡ Some [] → IsLastStatus status → EndsBy ending status left
  at_end Done left ending is empty last = (is, empty)
  at_end WriteFault left ending is empty last = tt
  at_end OutOfMemory left ending is empty last = tt
  at_end (BadInput line fault) left ending is empty last = absurd last
  at_end Usage left ending is empty last = absurd last
  at_end ReadFault left ending is empty last = absurd last
  at_end (Limit what kept) left ending is empty last = absurd last
  at_end DiskFault left ending is empty last = absurd last
  at_end (StaleEpoch fence) left ending is empty last = absurd last
  at_end (DamagedCheckpoint offset) left ending is empty last = absurd last

  -- the end was told by an answer, or by the last line
  pub end_placed : (pending : List ℕ) (source : Option (List ℕ)) (line : InputLine) (status : Status) → GivesKnown End rest line (prepend_known pending source) → IsLastStatus status → IfSome input (λ bytes. EndsBy (ending_from first (lines_of bytes)) status source)
  end_placed pending source line status gives last = some_more input _ _ (λ bytes x.
      let e = laws.end x.left line rest (prepend_known pending source) x.is_left gives in
      at_end status source (ending_from first (lines_of bytes)) (x.same ∙ ap (λ l. ending_from number (lines_of l)) e.0) (laws.no_more pending source e.1) last) a

  pub last_placed : (pending : List ℕ) (source : Option (List ℕ)) (status : Status) → rest ≡ prepend_known pending source → ends ≡ false → IsLastStatus status → IfSome input (λ bytes. EndsBy (ending_from first (lines_of bytes)) status source)
  last_placed pending source status is ended last = some_more input _ _ (λ bytes x.
      let none = x.last ended in
      at_end status source (ending_from first (lines_of bytes)) (x.same ∙ ap (λ l. ending_from number (lines_of l)) none) (laws.no_more pending source (sym is ∙ x.is_left ∙ ap (λ l. Some l) none)) last) a

  -- the reader stopped
  pub stop_placed : (source : Option (List ℕ)) (stop : LineStop) → (stop ≡ LongStop → (number < most_lines) × FirstTooLongKnown rest) → (stop ≡ ManyStop → (number ≡ most_lines) × MoreKnown rest)
      → IfSome input (λ bytes. EndsBy (ending_from first (lines_of bytes)) (stop_status stop number) source)
  stop_placed source ReadStop long many = some_more input _ _ (λ bytes x. tt) a
  stop_placed source LongStop long many = some_more input _ _ (λ bytes x. let l = long refl in x.same ∙ end_long number (lines_of x.left) l.0 (subst FirstTooLongKnown x.is_left l.1)) a
  stop_placed source ManyStop long many = some_more input _ _ (λ bytes x.
      let m = many refl in
      x.same ∙ end_many number (lines_of x.left) m.0 (laws.some x.left (subst MoreKnown x.is_left m.1)) ∙ ap AtLimit (sym m.0)) a

  -- a line ended it
  pub line_placed : (pending : List ℕ) (source : Option (List ℕ)) (line : InputLine) (said : List ℕ) (number' : ℕ) (status : Status) → number' ≡ number + 1 → number < most_lines → GivesKnown Line rest line (prepend_known pending source) → said ≡ content line → is_skipped said ≡ false
      → IsLineStop (Ends status) → ((at : ℕ) (fault : InputFault) → status ≡ BadInput at fault → (at ≡ number') × IsNone (node_line said) fault)
      → IfSome input (λ bytes. EndsBy (ending_from first (lines_of bytes)) status source)
  line_placed pending source line said number' status is_number more gives is_said unskipped stops bad = some_more input _ _ (λ bytes x.
      let n = laws.next x.left line rest (prepend_known pending source) x.is_left gives in
      by bytes x n.behind n.first.first n.first.short status stops bad) a
    where
      by : (bytes : List ℕ) (x : Reaches first bytes number ends rest) (behind : List ℕ) → lines_of x.left ≡ line ∷ lines_of behind → length line.bytes ≤ most_line_bytes → (status : Status) → IsLineStop (Ends status)
          → ((at : ℕ) (fault : InputFault) → status ≡ BadInput at fault → (at ≡ number') × IsNone (node_line said) fault) → EndsBy (ending_from first (lines_of bytes)) status source
      by bytes x behind cut short (BadInput at fault) stops bad =
          let b = bad at fault refl in
          x.same ∙ ap (ending_from number) cut ∙ end_taken number line (lines_of behind) more short (ap is_skipped (sym is_said) ∙ unskipped)
          ∙ ap (λ what. ending_at (number + 1) what (ending_from (number + 1) (lines_of behind))) (ap node_line (sym is_said) ∙ b.1.is)
          ∙ ap (λ k. AtBadLine k (event_fault b.1.why)) (sym is_number ∙ sym b.0) ∙ ap (AtBadLine at) (sym b.1.same)
      by bytes x behind cut short WriteFault stops bad = tt
      by bytes x behind cut short OutOfMemory stops bad = tt
      by bytes x behind cut short Done stops bad = absurd stops
      by bytes x behind cut short Usage stops bad = absurd stops
      by bytes x behind cut short ReadFault stops bad = absurd stops
      by bytes x behind cut short (Limit what kept) stops bad = absurd stops
      by bytes x behind cut short DiskFault stops bad = absurd stops
      by bytes x behind cut short (StaleEpoch fence) stops bad = absurd stops
      by bytes x behind cut short (DamagedCheckpoint offset) stops bad = absurd stops

-- its disk failed
pub disk_placed : (input : Option (List ℕ)) → IfSome input (λ bytes. Unit {0})
disk_placed None = tt
disk_placed (Some bytes) = tt

-- a stop of writing is one behind the last line, and tells of no bad line
pub last_of : (status : Status) → IsWriteStop status → IsLastStatus status
last_of WriteFault stop = tt
last_of OutOfMemory stop = tt
last_of (BadInput line fault) stop = absurd stop
last_of Done stop = absurd stop
last_of Usage stop = absurd stop
last_of ReadFault stop = absurd stop
last_of (Limit what kept) stop = absurd stop
last_of DiskFault stop = absurd stop
last_of (StaleEpoch fence) stop = absurd stop
last_of (DamagedCheckpoint offset) stop = absurd stop

pub not_bad : {C : Type 0} (status : Status) (at : ℕ) (fault : InputFault) → IsWriteStop status → ◌≢◌ {A = Result C Stop} (Err (Ends status)) (Err (Ends (BadInput at fault)))
not_bad {C} status at fault stop is = let same : status ≡ BadInput at fault = cc in absurd (subst IsWriteStop same stop)

pub ok_always : {A E : Type 0} (P : Type 0) (r : Result A E) → P → IfOk r (λ a. P)
ok_always P (Ok a) p = p
ok_always P (Err e) p = tt

-- the status of a fault of a line that is none
ends_is : {C : Type 0} (s t : Status) → ◌≡◌ {A = Result C Stop} (Err (Ends s)) (Err (Ends t)) → s ≡ t
ends_is s t is = cc

bad_is : (n m : ℕ) (a b : InputFault) → BadInput n a ≡ BadInput m b → (n ≡ m) × (a ≡ b)
bad_is n m a b is = (cc, cc)

fault_is : (what : Result NodeLine LineFault) (why : LineFault) (number at : ℕ) (fault : InputFault) → what ≡ Err why → BadInput number (event_fault why) ≡ BadInput at fault → (at ≡ number) × IsNone what fault
fault_is what why number at fault is same =
    let b = bad_is number at (event_fault why) fault same in
    (sym b.0, record { why = why; is = is; same = sym b.1 })

fault_said : (what : Result NodeLine LineFault) (why : LineFault) (number at : ℕ) (fault : InputFault) → IsFault what why → event_status why number ≡ BadInput at fault → (at ≡ number) × IsNone what fault
fault_said what UnknownWord number at fault is same = fault_is what UnknownWord number at fault is same
fault_said what WrongCount number at fault is same = fault_is what WrongCount number at fault is same
fault_said what (BadNumber place) number at fault is same = fault_is what (BadNumber place) number at fault is same
fault_said what (Range place) number at fault is same = fault_is what (Range place) number at fault is same
fault_said what NoMemory number at fault is same = let none : OutOfMemory ≡ BadInput at fault = same in absurd (cc)

pub bad_said : {C : Type 0} (what : Result NodeLine LineFault) (why : LineFault) (number at : ℕ) (fault : InputFault) (status : Status) → IsFault what why → status ≡ event_status why number
    → ◌≡◌ {A = Result C Stop} (Err (Ends status)) (Err (Ends (BadInput at fault))) → (at ≡ number) × IsNone what fault
bad_said {C} what why number at fault status is of same = fault_said what why number at fault is (sym of ∙ ends_is {C = C} status (BadInput at fault) same)

pub err_is : {A E : Type 0} (s t : E) → ◌≡◌ {A = Result A E} (Err s) (Err t) → s ≡ t
err_is s t is = cc
