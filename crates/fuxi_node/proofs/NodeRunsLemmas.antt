-- A node's run over the lines of an input goes on by one line, or ends.
use Rattle.std.proofs.Common.{inl, inr, ◌≡◌, ◌≢◌, ℕ, ◌+◌, ◌<◌, ◌≤◌, Bool, true, false, nat_lt, List, [], ◌∷◌, ◌++◌, length, Option, Some, Ok, Err, refl, sym, ◌∙◌, ap, subst, arith, append_assoc, append-nil}
use Rattle.std.specs.List.{concat}
use Rattle.std.specs.Io.KnownBytes.{Appends, Consumes, IsAtEnd, prepend_known}
use Rattle.std.proofs.lemmas.Bool.Decides.{nat_tests}
use Rattle.fuxi_io.specs.Causes.{TakesPart}
use Rattle.fuxi_io.specs.Lines.{InputLine, lines_of, GivesKnown, IsFirst, BreaksOff, FirstLonger, FirstTooLongKnown, MoreKnown}
use Rattle.fuxi_io.specs.Reading.{read_ahead}
use Rattle.fuxi_io.specs.declared.lines.Got.TheVariants.{Line}
use Rattle.fuxi_io.specs.declared.lines.LineStop.{LineStop}
use Rattle.fuxi_io.specs.declared.lines.LineStop.TheVariants.{ReadFault as ReadStop, LineTooLong as LongStop, TooManyLines as ManyStop}
use Rattle.fuxi_io.specs.declared.status.InputFault.TheVariants.{LineTooLong}
use Rattle.fuxi_io.specs.declared.status.Status.{Status}
use Rattle.fuxi_io.specs.declared.status.Status.TheVariants.{Done, Usage, BadInput, ReadFault, WriteFault, Limit, OutOfMemory, DiskFault, StaleEpoch, DamagedCheckpoint}
use Rattle.fuxi_terms.specs.Limits.{most_line_bytes, most_lines}
use Rattle.fuxi_terms.proofs.AppendsLemmas.{appends_none}
use Rattle.schedule_text.specs.declared.event.LineFault.{LineFault}
use Rattle.input_lines.specs.Contents.{content, is_skipped}
use Rattle.input_lines.specs.InputStatuses.{event_fault, stop_status}
use Rattle.input_lines.specs.Wholes.{IsNext, TakesLines, TakesSome}
use Rattle.fuxi_io.specs.Doors.{Told}
use Rattle.node_core.specs.Roles.{Role}
use Rattle.node_core.specs.Rounds.{Breaks}
use Rattle.node_core.specs.NodeLines.{node_line}
use Rattle.node_core.specs.PartyEvents.{accepts}
use Rattle.node_core.specs.NodeTexts.{state_text}
use Rattle.fuxi_node.specs.declared.taking.DiskFailed.{DiskFailed}
use Rattle.fuxi_node.specs.declared.taking.Stop.TheVariants.{Ends, Disk}
use Rattle.fuxi_node.specs.NodeRuns.{Node, Round, Run, Ending, AtEnd, AtBadLine, AtLimit, ended, behind, then_is, takes, within_limits, role_run, role_after, pieces}
use Rattle.fuxi_node.specs.Visits.{Visit, rounds_of, played_of, WasAt}
use Rattle.fuxi_node.specs.NodeEnds.{Start, run_of, Ran, EndsAt, EndsWith, EndsWhole, EitherFits, StopsWanting, Ended}
use Rattle.fuxi_node.specs.NodeProgress.{Taken, TakesLine, WritesEnd, behind_all, Along}
use Rattle.fuxi_node.proofs.VisitsLemmas.{was_both, was_later, rounds_both, played_both}
use Rattle.fuxi_node.proofs.NodeProgressLemmas.{not_there}

-- one line of a run
within : (before : ℕ) (n : Node) (line : InputLine) (run : Run) → before < most_lines → length line.bytes ≤ most_line_bytes → within_limits before n line run ≡ run
within before n line run more short =
    let m : nat_lt before most_lines ≡ true = grind (arith, nat_tests) in
    let s : nat_lt most_line_bytes (length line.bytes) ≡ false = grind (arith, nat_tests) in
    rw (m, s) refl

too_long : (before : ℕ) (n : Node) (line : InputLine) (run : Run) → before < most_lines → most_line_bytes < length line.bytes → within_limits before n line run ≡ ended n (AtBadLine (before + 1) LineTooLong)
too_long before n line run more long =
    let m : nat_lt before most_lines ≡ true = grind (arith, nat_tests) in
    let s : nat_lt most_line_bytes (length line.bytes) ≡ true = grind (arith, nat_tests) in
    rw (m, s) refl

too_many : (before : ℕ) (n : Node) (line : InputLine) (run : Run) → before ≡ most_lines → within_limits before n line run ≡ ended n (AtLimit most_lines)
too_many before n line run many = let m : nat_lt before most_lines ≡ false = grind (arith, nat_tests) in rw m refl

module _ (most before : ℕ) (n : Node) (rounds : List Round) (line : InputLine) (lines : List InputLine) (more : before < most_lines) (short : length line.bytes ≤ most_line_bytes) where
  abbrev by_skip : Bool → Run
  by_skip b = elim b as (λ _. Run) [
    | true ↦ role_run most (before + 1) n rounds lines
    | false ↦ takes most (before + 1) n rounds (node_line (content line)) (λ n rounds. role_run most (before + 1) n rounds lines)
  ]

  run_skipped : is_skipped (content line) ≡ true → role_run most before n rounds (line ∷ lines) ≡ role_run most (before + 1) n rounds lines
  run_skipped skip = within before n line _ more short ∙ ap by_skip skip

  run_taken : is_skipped (content line) ≡ false → role_run most before n rounds (line ∷ lines) ≡ takes most (before + 1) n rounds (node_line (content line)) (λ n rounds. role_run most (before + 1) n rounds lines)
  run_taken skip = within before n line _ more short ∙ ap by_skip skip

run_long : (most before : ℕ) (n : Node) (rounds : List Round) (lines : List InputLine) → before < most_lines → FirstLonger most_line_bytes lines → role_run most before n rounds lines ≡ ended n (AtBadLine (before + 1) LineTooLong)
run_long most before n rounds [] more long = absurd long
run_long most before n rounds (line ∷ lines) more long = too_long before n line _ more long

run_many : (most before : ℕ) (n : Node) (rounds : List Round) (lines : List InputLine) → before ≡ most_lines → lines ≢ [] → role_run most before n rounds lines ≡ ended n (AtLimit most_lines)
run_many most before n rounds [] many some = absurd (some refl)
run_many most before n rounds (line ∷ lines) many some = too_many before n line _ many

-- before the first line
pub begin : TakesLines → (s : Start) (bytes : List ℕ) (ends : Bool) (now : Role → Type 0) (w : Option (List ℕ)) (f : ℕ) (t : Told) → now s.node.role → s.node.events ≡ 0 → (ends ≡ false → IsAtEnd (Some bytes)) → Along s bytes s.first ends 0 now (Some bytes) w w f f t t
begin laws s bytes ends now w f t stands none last = record {
  lines = [];
  left = bytes;
  is_left = refl;
  cut = refl;
  taken = record { whole = λ e. laws.none bytes; last = last };
  visits = [];
  was = not_there s.most s.addr f f t (omega arith);
  front = [];
  writes = appends_none w;
  role = s.node.role;
  stands = stands;
  through = λ rounds more. ap (λ e. let n : Node = record { role = s.node.role; events = e } in role_run s.most s.first n rounds more) none;
}

module _ (laws : TakesLines) (s : Start) (bytes : List ℕ) (number : ℕ) (ends : Bool) (events : ℕ) (now : Role → Type 0) (rest w0 w : Option (List ℕ)) (f0 f1 : ℕ) (old mid : Told) (a : Along s bytes number ends events now rest w0 w f0 f1 old mid) where
  abbrev pub here : Node
  here = record { role = a.role; events = events }

  cut_more : (line : InputLine) (behind : List ℕ) → IsFirst a.left line behind → lines_of bytes ≡ (a.lines ++ line ∷ []) ++ lines_of behind
  cut_more line behind f = a.cut ∙ ap (λ ls. a.lines ++ ls) f.first ∙ sym (append_assoc a.lines (line ∷ []) (lines_of behind))

  through_more : (rounds : List Round) (line : InputLine) (more : List InputLine)
      → role_run s.most s.first s.node (rounds_of a.visits ++ rounds) ((a.lines ++ line ∷ []) ++ more) ≡ behind_all a.front (played_of a.visits) (role_run s.most number here rounds (line ∷ more))
  through_more rounds line more = ap (role_run s.most s.first s.node (rounds_of a.visits ++ rounds)) (append_assoc a.lines (line ∷ []) more) ∙ a.through rounds (line ∷ more)

  -- a line that is skipped
  pub skip : (rest' : Option (List ℕ)) (line : InputLine) → ends ≡ true → number < most_lines → GivesKnown Line rest line rest' → is_skipped (content line) ≡ true → Along s bytes (number + 1) line.ended events now rest' w0 w f0 f1 old mid
  skip rest' line ended more gives skipped =
      let n = laws.next a.left line rest rest' a.is_left gives in
      record {
        lines = a.lines ++ line ∷ [];
        left = n.behind;
        is_left = n.is_left;
        cut = cut_more line n.behind n.first;
        taken = record { whole = λ e. laws.more bytes a.left n.behind a.lines line (a.taken.whole ended) n.first e; last = n.first.last };
        visits = a.visits;
        was = a.was;
        front = a.front;
        writes = a.writes;
        role = a.role;
        stands = a.stands;
        through = λ rounds ls. through_more rounds line ls ∙ ap (behind_all a.front (played_of a.visits)) (run_skipped s.most number here rounds line ls more n.first.short skipped);
      }

  -- one that was taken, and what the run over it and more is
  module _ (line : InputLine) (behind' : List ℕ) (more : number < most_lines) (first : IsFirst a.left line behind') (unskipped : is_skipped (content line) ≡ false) (now' : Role → Type 0) (Writes : List ℕ → Type 0) (f2 : ℕ) (new : Told)
      (t : Taken s.most s.addr here (number + 1) (node_line (content line)) now' Writes f1 f2 mid new) where
    abbrev all_visits : List Visit
    all_visits = a.visits ++ t.visits

    was_all : WasAt s.most s.addr all_visits f0 f2 old new
    was_all = was_both s.most s.addr a.visits t.visits f0 f1 f2 old mid new a.was t.was

    through_line : (rounds : List Round) (ls : List InputLine)
        → role_run s.most s.first s.node (rounds_of all_visits ++ rounds) ((a.lines ++ line ∷ []) ++ ls) ≡ behind_all (a.front ++ t.output ∷ []) (played_of all_visits) (role_run s.most (number + 1) (then_is here t.role) rounds ls)
    through_line rounds ls =
        let r = role_run s.most (number + 1) (then_is here t.role) rounds ls in
        ap (λ rs. role_run s.most s.first s.node rs ((a.lines ++ line ∷ []) ++ ls)) (rounds_both a.visits t.visits rounds)
        ∙ through_more (rounds_of t.visits ++ rounds) line ls
        ∙ ap (behind_all a.front (played_of a.visits)) (run_taken s.most number here (rounds_of t.visits ++ rounds) line ls more first.short unskipped
        ∙ t.through rounds (λ n rs. role_run s.most (number + 1) n rs ls))
        ∙ ap (λ os. let x : Run = record { outputs = os; rounds = played_of a.visits ++ (played_of t.visits ++ r.rounds); node = r.node; ending = r.ending } in x) (sym (append_assoc a.front (t.output ∷ []) r.outputs))
        ∙ ap (λ ps. let x : Run = record { outputs = (a.front ++ t.output ∷ []) ++ r.outputs; rounds = ps; node = r.node; ending = r.ending } in x) (played_both a.visits t.visits r.rounds)

  pub step : (rest' w' : Option (List ℕ)) (line : InputLine) (now' : Role → Type 0) (f2 : ℕ) (new : Told) → ends ≡ true → number < most_lines → GivesKnown Line rest line rest' → is_skipped (content line) ≡ false
      → Taken s.most s.addr here (number + 1) (node_line (content line)) now' (Appends w w') f1 f2 mid new → Along s bytes (number + 1) line.ended (events + 1) now' rest' w0 w' f0 f2 old new
  step rest' w' line now' f2 new ended more gives unskipped t =
      let n = laws.next a.left line rest rest' a.is_left gives in
      record {
        lines = a.lines ++ line ∷ [];
        left = n.behind;
        is_left = n.is_left;
        cut = cut_more line n.behind n.first;
        taken = record { whole = λ e. laws.more bytes a.left n.behind a.lines line (a.taken.whole ended) n.first e; last = n.first.last };
        visits = a.visits ++ t.visits;
        was = was_all line n.behind more n.first unskipped now' (Appends w w') f2 new t;
        front = a.front ++ t.output ∷ [];
        writes = laws.both a.front t.output w0 w w' a.writes t.writes;
        role = t.role;
        stands = t.stands;
        through = through_line line n.behind more n.first unskipped now' (Appends w w') f2 new t;
      }

  -- where the run ends now: the run over the lines taken, with the rounds so far
  closed : (lines : List InputLine) (ending : Ending) → role_run s.most number here [] lines ≡ ended here ending → run_of s a.visits (a.lines ++ lines) ≡ record { outputs = a.front; rounds = played_of a.visits; node = here; ending = ending }
  closed lines ending is =
      ap (λ rs. role_run s.most s.first s.node rs (a.lines ++ lines)) (sym (append-nil (rounds_of a.visits))) ∙ a.through [] lines ∙ ap (behind_all a.front (played_of a.visits)) is
      ∙ ap (λ os. let x : Run = record { outputs = os; rounds = played_of a.visits ++ []; node = here; ending = ending } in x) (append-nil a.front)
      ∙ ap (λ ps. let x : Run = record { outputs = a.front; rounds = ps; node = here; ending = ending } in x) (append-nil (played_of a.visits))

  so_far : run_of s a.visits a.lines ≡ record { outputs = a.front; rounds = played_of a.visits; node = here; ending = AtEnd }
  so_far = ap (run_of s a.visits) (sym (append-nil a.lines)) ∙ closed [] AtEnd refl

  known_end : (ending : Ending) → role_run s.most number here [] (lines_of a.left) ≡ ended here ending → run_of s a.visits (lines_of bytes) ≡ record { outputs = a.front; rounds = played_of a.visits; node = here; ending = ending }
  known_end ending is = ap (run_of s a.visits) a.cut ∙ closed (lines_of a.left) ending is

  ends_there : (lines : List InputLine) (ending : Ending) (w' : Option (List ℕ)) (f2 : ℕ) (new : Told) → w' ≡ w → WasAt s.most s.addr a.visits f0 f2 old new
      → run_of s a.visits lines ≡ record { outputs = a.front; rounds = played_of a.visits; node = here; ending = ending } → Ran s lines (EndsAt ending w0 w') f0 f2 old new
  ends_there lines ending w' f2 new kept was is = record {
    visits = a.visits;
    was = was;
    rounds = ap (λ (r : Run). r.rounds) is;
    holds = subst (EndsAt ending w0 w') (sym is) (refl, subst (λ t. Appends w0 t (concat a.front)) (sym kept) a.writes);
  }

  ends_with : (Fits : Role → Type 0) → Fits a.role → (lines : List InputLine) (ending : Ending) (w' : Option (List ℕ)) (f2 : ℕ) (new : Told) → w' ≡ w → WasAt s.most s.addr a.visits f0 f2 old new
      → run_of s a.visits lines ≡ record { outputs = a.front; rounds = played_of a.visits; node = here; ending = ending } → Ran s lines (EndsWith Fits ending w0 w') f0 f2 old new
  ends_with Fits fits lines ending w' f2 new kept was is = record {
    visits = a.visits;
    was = was;
    rounds = ap (λ (r : Run). r.rounds) is;
    holds = subst (EndsWith Fits ending w0 w') (sym is) (refl, subst (λ t. Appends w0 t (concat a.front)) (sym kept) a.writes, fits);
  }

  -- the party now, and the one behind a line more
  one_of : (FitsOne : Role → Role → Type 0) (next : List InputLine) (p : Role) → (run_of s a.visits (a.lines ++ next)).node.role ≡ p → FitsOne a.role p → EitherFits FitsOne s a.visits a.lines next
  one_of FitsOne next p is one = subst (λ q. FitsOne q (run_of s a.visits (a.lines ++ next)).node.role) (sym (ap (λ (r : Run). r.node.role) so_far)) (subst (FitsOne a.role) (sym is) one)

  role_more : (line : InputLine) (behind' : List ℕ) → number < most_lines → IsFirst a.left line behind' → is_skipped (content line) ≡ false → (run_of s a.visits (a.lines ++ line ∷ [])).node.role ≡ role_after s.most (number + 1) here (node_line (content line))
  role_more line behind' more first unskipped = ap (λ (r : Run). r.node.role) (ap (λ rs. role_run s.most s.first s.node rs (a.lines ++ line ∷ [])) (sym (append-nil (rounds_of a.visits))) ∙ a.through [] (line ∷ [])
      ∙ ap (behind_all a.front (played_of a.visits)) (run_taken s.most number here [] line [] more first.short unskipped))

  wants : (FitsOne : Role → Role → Type 0) (source w' : Option (List ℕ)) (next : List InputLine) (p : Role) (f2 : ℕ) (new : Told) → (run_of s a.visits (a.lines ++ next)).node.role ≡ p → FitsOne a.role p → length next ≤ 1 → TakesSome bytes source (a.lines ++ next) → w' ≡ w → f1 ≤ f2 → Breaks (accepts a.role) s.addr a.role mid new → StopsWanting FitsOne s bytes source w0 w' f0 f2 old new
  wants FitsOne source w' next p f2 new is fits one takes kept later breaks = record {
    lines = a.lines;
    next = next;
    one = one;
    takes = takes;
    mid = mid;
    ran = record {
      visits = a.visits;
      was = was_later s.most s.addr a.visits f0 f1 f2 old mid a.was later;
      rounds = ap (λ (r : Run). r.rounds) so_far;
      holds = subst (λ (r : Run). EndsAt AtEnd w0 w' r × Breaks (accepts r.node.role) s.addr r.node.role mid new) (sym so_far) ((refl, subst (λ t. Appends w0 t (concat a.front)) (sym kept) a.writes), breaks);
    };
    fits = one_of FitsOne next p is fits;
  }

  -- behind the last line
  pub state_ended : (Fits : Role → Type 0) (FitsOne : Role → Role → Type 0) → Fits a.role → FitsOne a.role a.role → (source w' : Option (List ℕ)) (status : Status) → a.left ≡ [] → source ≡ Some [] → WritesEnd (state_text events a.role) status w w' → Ended Fits FitsOne s bytes (Ok status) source w0 w' f0 f1 old mid
  state_ended Fits FitsOne fits one source w' status end empty = by_status status
    where
      cut : lines_of bytes ≡ a.lines
      cut = a.cut ∙ ap (λ xs. a.lines ++ lines_of xs) end ∙ append-nil a.lines

      all : run_of s a.visits (lines_of bytes) ≡ record { outputs = a.front; rounds = played_of a.visits; node = here; ending = AtEnd }
      all = ap (run_of s a.visits) cut ∙ so_far

      some : TakesSome bytes source (a.lines ++ [])
      some = record {
        behind = [];
        cut = cut ∙ sym (append-nil a.lines) ∙ sym (append-nil (a.lines ++ []));
        ahead = [];
        gave = subst (λ s. Consumes (Some []) s []) (sym empty) refl;
        few = omega arith;
      }

      by_status : (status : Status) → WritesEnd (state_text events a.role) status w w' → Ended Fits FitsOne s bytes (Ok status) source w0 w' f0 f1 old mid
      by_status Done h = (
        empty,
        record {
          visits = a.visits;
          was = a.was;
          rounds = ap (λ (r : Run). r.rounds) all;
          holds = subst (EndsWhole Fits w0 w') (sym all) (refl, laws.both a.front (state_text events a.role) w0 w w' a.writes h, fits);
        },
      )
      by_status WriteFault h = record {
        lines = a.lines;
        takes = subst (TakesSome bytes source) (append-nil a.lines) some;
        ran = record {
          visits = a.visits;
          was = a.was;
          rounds = ap (λ (r : Run). r.rounds) so_far;
          holds = (inr (cut, laws.last (pieces (run_of s a.visits a.lines)) a.front (state_text events a.role) h.0 w0 w w' (ap pieces so_far) a.writes h.2), subst Fits (sym (ap (λ (r : Run). r.node.role) so_far)) fits);
        };
      }
      by_status OutOfMemory h = wants FitsOne source w' [] a.role f1 mid (ap (λ (r : Run). r.node.role) (ap (run_of s a.visits) (append-nil a.lines) ∙ so_far)) one (omega arith) some h (omega arith) (inl refl)
      by_status Usage h = h
      by_status (BadInput line fault) h = absurd h
      by_status ReadFault h = absurd h
      by_status (Limit what kept) h = absurd h
      by_status DiskFault h = absurd h
      by_status (StaleEpoch fence) h = absurd h
      by_status (DamagedCheckpoint offset) h = absurd h

  -- the reader stopped
  pub stop_ended : (Fits : Role → Type 0) (FitsOne : Role → Role → Type 0) → Fits a.role → (source : Option (List ℕ)) (stop : LineStop) → ends ≡ true → (stop ≡ ReadStop → BreaksOff rest source) → (stop ≡ LongStop → (number < most_lines) × FirstTooLongKnown rest) → (stop ≡ ManyStop → (number ≡ most_lines) × MoreKnown rest)
      → Ended Fits FitsOne s bytes (Ok (stop_status stop number)) source w0 w f0 f1 old mid
  stop_ended Fits FitsOne fits source ReadStop ended broke long many =
      let b = laws.broken bytes a.left source a.lines (a.taken.whole ended) (subst (λ r. BreaksOff r source) a.is_left (broke refl)) in
      record {
        given = b.given;
        gave = b.gave;
        ran = subst (λ ls. Ran s ls (EndsWith Fits AtEnd w0 w) f0 f1 old mid) (sym b.whole) (ends_with Fits fits a.lines AtEnd w f1 mid refl a.was so_far);
      }
  stop_ended Fits FitsOne fits source LongStop ended broke long many =
      let l = long refl in
      ends_with Fits fits (lines_of bytes) (AtBadLine (number + 1) LineTooLong) w f1 mid refl a.was (known_end (AtBadLine (number + 1) LineTooLong) (run_long s.most number here [] (lines_of a.left) l.0 (subst FirstTooLongKnown a.is_left l.1)))
  stop_ended Fits FitsOne fits source ManyStop ended broke long many =
      let m = many refl in
      subst (λ k. Ran s (lines_of bytes) (EndsWith Fits (AtLimit k) w0 w) f0 f1 old mid) (sym m.0)
      (ends_with Fits fits (lines_of bytes) (AtLimit most_lines) w f1 mid refl a.was (known_end (AtLimit most_lines) (run_many s.most number here [] (lines_of a.left) m.0 (laws.some a.left (subst MoreKnown a.is_left m.1)))))

  -- a line at which the node ended
  pub line_ended : {C : Type 0} (Fits : Role → Type 0) (FitsOne : Role → Role → Type 0) (stands : C → Role → Type 0) (pending : List ℕ) (source w' : Option (List ℕ)) (line : InputLine) (status : Status) (f2 : ℕ) (new : Told) → number < most_lines → length pending ≤ read_ahead → GivesKnown Line rest line (prepend_known pending source)
      → is_skipped (content line) ≡ false → TakesLine {C = C} stands Fits FitsOne s.most s.addr here (node_line (content line)) (number + 1) (Err (Ends status)) w w' f1 f2 mid new → Ended Fits FitsOne s bytes (Ok status) source w0 w' f0 f2 old new
  line_ended {C} Fits FitsOne stands pending source w' line status f2 new more few gives unskipped = by_status status
    where
      n : IsNext a.left line (prepend_known pending source)
      n = laws.next a.left line rest (prepend_known pending source) a.is_left gives

      some : TakesSome bytes source (a.lines ++ line ∷ [])
      some = record { behind = n.behind; cut = cut_more line n.behind n.first; ahead = pending; gave = laws.ahead pending n.behind source n.is_left; few = few }

      bad : (why : LineFault) → node_line (content line) ≡ Err why → role_run s.most number here [] (lines_of a.left) ≡ ended here (AtBadLine (number + 1) (event_fault why))
      bad why is = ap (role_run s.most number here []) n.first.first ∙ run_taken s.most number here [] line (lines_of n.behind) more n.first.short unskipped
          ∙ ap (λ what. takes s.most (number + 1) here [] what (λ m rs. role_run s.most (number + 1) m rs (lines_of n.behind))) is

      by_status : (status : Status) → TakesLine {C = C} stands Fits FitsOne s.most s.addr here (node_line (content line)) (number + 1) (Err (Ends status)) w w' f1 f2 mid new → Ended Fits FitsOne s bytes (Ok status) source w0 w' f0 f2 old new
      by_status (BadInput m fault) h =
          let was : WasAt s.most s.addr a.visits f0 f2 old new = subst (λ vs. WasAt s.most s.addr vs f0 f2 old new) (append-nil a.visits) (was_both s.most s.addr a.visits [] f0 f1 f2 old mid new a.was h.3) in
          subst (λ k. Ran s (lines_of bytes) (EndsWith Fits (AtBadLine k fault) w0 w') f0 f2 old new) (sym h.1)
          (subst (λ x. Ran s (lines_of bytes) (EndsWith Fits (AtBadLine (number + 1) x) w0 w') f0 f2 old new) (sym h.0.same)
          (ends_with Fits h.4 (lines_of bytes) (AtBadLine (number + 1) (event_fault h.0.why)) w' f2 new h.2 was (known_end (AtBadLine (number + 1) (event_fault h.0.why)) (bad h.0.why h.0.is))))
      by_status WriteFault t =
          let vs = a.visits ++ t.visits in
          let over : run_of s vs (a.lines ++ line ∷ []) ≡ behind_all (a.front ++ t.output ∷ []) (played_of vs) (ended (then_is here t.role) AtEnd) =
          ap (λ rs. role_run s.most s.first s.node rs (a.lines ++ line ∷ [])) (sym (append-nil (rounds_of vs))) ∙ ap (role_run s.most s.first s.node (rounds_of vs ++ [])) (sym (append-nil (a.lines ++ line ∷ [])))
          ∙ through_line line n.behind more n.first unskipped Fits (TakesPart w w') f2 new t [] [] in
          record {
            lines = a.lines ++ line ∷ [];
            takes = some;
            ran = record {
              visits = vs;
              was = was_all line n.behind more n.first unskipped Fits (TakesPart w w') f2 new t;
              rounds = ap (λ (r : Run). r.rounds) over ∙ append-nil (played_of vs);
              holds = (inl (laws.last (run_of s vs (a.lines ++ line ∷ [])).outputs a.front t.output t.writes.0 w0 w w' (ap (λ (r : Run). r.outputs) over ∙ append-nil (a.front ++ t.output ∷ [])) a.writes t.writes.2), subst Fits (sym (ap (λ (r : Run). r.node.role) over)) t.stands);
            };
          }
      by_status OutOfMemory h = wants FitsOne source w' (line ∷ []) (role_after s.most (number + 1) here (node_line (content line))) f2 new (role_more line n.behind more n.first unskipped) h.3 (omega arith) some h.0 h.1 h.2
      by_status (Limit what kept) h = absurd h
      by_status Done h = absurd h
      by_status Usage h = h
      by_status ReadFault h = absurd h
      by_status DiskFault h = absurd h
      by_status (StaleEpoch fence) h = absurd h
      by_status (DamagedCheckpoint offset) h = absurd h

  -- a line at which the disk failed
  pub disk_ended : {C : Type 0} (Fits : Role → Type 0) (FitsOne : Role → Role → Type 0) (failed : DiskFailed) (stands : C → Role → Type 0) (pending : List ℕ) (source w' : Option (List ℕ)) (line : InputLine) (f2 : ℕ) (new : Told) → number < most_lines → length pending ≤ read_ahead → GivesKnown Line rest line (prepend_known pending source)
      → is_skipped (content line) ≡ false → TakesLine {C = C} stands Fits FitsOne s.most s.addr here (node_line (content line)) (number + 1) (Err Disk) w w' f1 f2 mid new → Ended Fits FitsOne s bytes (Err failed) source w0 w' f0 f2 old new
  unfolding ends_there
  disk_ended {C} Fits FitsOne failed stands pending source w' line f2 new more few gives unskipped h =
      let n = laws.next a.left line rest (prepend_known pending source) a.is_left gives in
      record {
        lines = a.lines;
        next = line ∷ [];
        one = omega arith;
        takes = record { behind = n.behind; cut = cut_more line n.behind n.first; ahead = pending; gave = laws.ahead pending n.behind source n.is_left; few = few };
        ran = ends_there a.lines AtEnd w' f2 new h.0 (subst (λ vs. WasAt s.most s.addr vs f0 f2 old new) (append-nil a.visits) (was_both s.most s.addr a.visits [] f0 f1 f2 old mid new a.was h.1)) so_far;
        fits = one_of FitsOne (line ∷ []) (role_after s.most (number + 1) here (node_line (content line))) (role_more line n.behind more n.first unskipped) h.2;
      }
