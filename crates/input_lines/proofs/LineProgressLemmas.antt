-- A run over the lines of an input goes on by one line, or ends.
use Rattle.std.proofs.Common.{◌⊎◌, inl, inr, ◌≡◌, ℕ, ◌+◌, ◌<◌, ◌≤◌, Bool, true, false, List, [], ◌∷◌, ◌++◌, length, take, Option, None, Some, IfSome, Result, Ok, Err, refl, sym, ◌∙◌, ap, subst, arith, append_assoc, append-nil}
use Rattle.std.specs.List.{concat}
use Rattle.std.specs.Io.KnownBytes.{Appends, Consumes, IsAtEnd, prepend_known}
use Rattle.std.proofs.lemmas.Bool.{false≢true}
use Rattle.fuxi_io.specs.Causes.{TakesPart}
use Rattle.fuxi_io.specs.Lines.{InputLine, lines_of, GivesKnown, IsFirst, BreaksOff, FirstTooLongKnown, MoreKnown}
use Rattle.fuxi_io.specs.Reading.{Reading, read_ahead, rest_of}
use Rattle.fuxi_io.specs.declared.lines.Got.TheVariants.{Line, End}
use Rattle.fuxi_io.specs.declared.lines.LineStop.{LineStop}
use Rattle.fuxi_io.specs.declared.lines.LineStop.TheVariants.{ReadFault as ReadStop, LineTooLong as LongStop, TooManyLines as ManyStop}
use Rattle.fuxi_io.specs.declared.status.InputFault.TheVariants.{LineTooLong}
use Rattle.fuxi_io.specs.declared.status.LimitOf.TheVariants.{Lines}
use Rattle.fuxi_io.specs.declared.status.Status.{Status}
use Rattle.fuxi_io.specs.declared.status.Status.TheVariants.{Done, Usage, BadInput, ReadFault, WriteFault, Limit, OutOfMemory, DiskFault, StaleEpoch, DamagedCheckpoint}
use Rattle.fuxi_terms.proofs.AppendsLemmas.{appends_none}
use Rattle.fuxi_terms.specs.Limits.{most_line_bytes, most_lines}
use Rattle.schedule_text.specs.ReadEvents.{IsFault}
use Rattle.schedule_text.specs.declared.event.LineFault.{LineFault}
use Rattle.schedule_text.specs.declared.event.LineFault.TheVariants.{UnknownWord as LineUnknownWord, WrongCount as LineWrongCount, BadNumber as LineBadNumber, Range as LineRange, OutOfMemory as LineOutOfMemory}
use Rattle.input_lines.specs.Contents.{content, is_skipped}
use Rattle.fuxi_io.specs.WriteBuffers.{with_waiting}
use Rattle.input_lines.specs.LineProgress.{TakesLine, Flushes, MayBreak, WritesEnd, WritesItsEnd, Along}
use Rattle.input_lines.specs.LineRuns.{Ending, AtEnd, AtBadLine, AtLimit, Run, Said, IsBad, IsPast, Prints, Runner, Ends, ended, behind_all, with_said, run_from, ReadsWhole, StopsWithin, Ended}
use Rattle.input_lines.specs.InputStatuses.{event_fault, event_status, stop_status}
use Rattle.input_lines.specs.Wholes.{IsBroken, TakesLines, TakesSome, WritesLast}
use Rattle.input_lines.proofs.Known.{weaker}
use Rattle.input_lines.proofs.LineRunsLemmas.{run_skipped, run_said, run_long, run_many, behind_both}

-- a line that has no event, for this reason
pub bad_line : {W E : Type 0} (A : Type 0) (says : W → List ℕ → Said W) (Stands : W → Type 0) (line : List ℕ) (number : ℕ) (w : W) (event : Result E LineFault) (fault : LineFault) (took : Option (List ℕ)) → is_skipped line ≡ false → IsFault event fault
    → ((why : LineFault) → event ≡ Err why → says w line ≡ IsBad (event_fault why)) → TakesLine {A = A} says Stands line number w (Err (event_status fault number)) took took
bad_line A says Stands line number w event LineUnknownWord took unskipped is bad = (unskipped, bad LineUnknownWord is, refl, refl)
bad_line A says Stands line number w event LineWrongCount took unskipped is bad = (unskipped, bad LineWrongCount is, refl, refl)
bad_line A says Stands line number w event (LineBadNumber place) took unskipped is bad = (unskipped, bad (LineBadNumber place) is, refl, refl)
bad_line A says Stands line number w event (LineRange place) took unskipped is bad = (unskipped, bad (LineRange place) is, refl, refl)
bad_line A says Stands line number w event LineOutOfMemory took unskipped is bad = (unskipped, refl)

-- nothing was taken where memory was refused at once
pub nothing_taken : {W S : Type 0} (e : Ends W S) (run : List InputLine → Run S) (pending : List ℕ) (source took : Option (List ℕ)) → (run []).outputs ≡ [] → length pending ≤ read_ahead → IfSome (prepend_known pending source) (λ bytes. Ended e run bytes OutOfMemory source took took)
nothing_taken e run pending None took silent few = tt
nothing_taken e run pending (Some left) took silent few = record {
  lines = [];
  behind = pending ++ left;
  cut = refl;
  ahead = pending;
  gave = refl;
  few = few;
  writes = inl (subst (λ ps. WritesLast ps took took) (sym silent) (record { part = 0; writes = appends_none took }));
}

-- a run that is done, where no line, no stream and no disk may have ended it
pub ends_done : {W S : Type 0} (e : Ends W S) (run : List InputLine → Run S) (bytes : List ℕ) (left before after : Option (List ℕ)) → (run (lines_of bytes)).ending ≡ AtEnd → (status : Status) → Ended e run bytes status left before after
    → (status ≡ ReadFault → ⊥) → (status ≡ WriteFault → ⊥) → (status ≡ Done) ⊎ (status ≡ OutOfMemory)
ends_done e run bytes left before after good Done h read write = inl refl
ends_done e run bytes left before after good OutOfMemory h read write = inr refl
ends_done e run bytes left before after good ReadFault h read write = absurd (read refl)
ends_done e run bytes left before after good WriteFault h read write = absurd (write refl)
ends_done e run bytes left before after good (BadInput line fault) h read write = absurd (let two = sym good ∙ h.0 in let no : ⊥ = cc in no)
ends_done e run bytes left before after good (Limit what kept) h read write = absurd (let two = sym good ∙ h.0 in let no : ⊥ = cc in no)
ends_done e run bytes left before after good Usage h read write = absurd h
ends_done e run bytes left before after good DiskFault h read write = absurd h
ends_done e run bytes left before after good (StaleEpoch fence) h read write = absurd h
ends_done e run bytes left before after good (DamagedCheckpoint offset) h read write = absurd h

-- the beginning, with a reader that has so much before it
pub start : {W S : Type 0} (k : Runner W S) → TakesLines → (known took : Option (List ℕ)) (w : W) (first : ℕ) (ends : Bool) (Stands : W → Type 0) → Stands w → (ends ≡ false → IsAtEnd known) → IfSome known (λ bytes. Along k w bytes first first ends Stands known took took)
start k laws None took w first ends Stands stands last = tt
start k laws (Some bytes) took w first ends Stands stands last = record {
  lines = [];
  left = bytes;
  is_left = refl;
  cut = refl;
  taken = record { whole = λ e. laws.none bytes; last = last };
  front = [];
  writes = appends_none took;
  state = w;
  stands = stands;
  through = λ more. refl;
}

-- a reader that has read nothing has all of its source before it
abbrev fresh : Reading
fresh = record { pending = []; line = []; ended = false; number = 0; stop = None }

fresh_rest : (known : Option (List ℕ)) → prepend_known [] known ≡ known
fresh_rest None = refl
fresh_rest (Some bytes) = refl

pub nothing_read : {W S : Type 0} (e : Ends W S) (run : List InputLine → Run S) (source took : Option (List ℕ)) → (run []).outputs ≡ [] → IfSome source (λ bytes. Ended e run bytes OutOfMemory source took took)
nothing_read e run source took silent = subst (λ o. IfSome o (λ bytes. Ended e run bytes OutOfMemory source took took)) (fresh_rest source) (nothing_taken e run [] source took silent (omega arith))

pub start_fresh : {W S : Type 0} (k : Runner W S) → TakesLines → (r : Reading) → r ≡ fresh → (known took : Option (List ℕ)) (w : W) (Stands : W → Type 0) → Stands w → IfSome known (λ bytes. Along k w bytes 0 r.number true Stands (rest_of r known) took took)
start_fresh k laws r is known took w Stands stands =
    subst (λ (x : Reading). IfSome known (λ bytes. Along k w bytes 0 x.number true Stands (rest_of x known) took took)) (sym is)
    (subst (λ o. IfSome known (λ bytes. Along k w bytes 0 0 true Stands o took took)) (sym (fresh_rest known)) (start k laws known took w 0 true Stands stands (λ e. absurd (false≢true (sym e)))))

-- a run along which so much is known
module _ {W S : Type 0} (k : Runner W S) (laws : TakesLines) (start : W) (bytes : List ℕ) (first number : ℕ) (ends : Bool) (Stands : W → Type 0) (rest w0 w : Option (List ℕ)) (a : Along k start bytes first number ends Stands rest w0 w) where
  cut_more : (line : InputLine) (after : List ℕ) → IsFirst a.left line after → lines_of bytes ≡ (a.lines ++ line ∷ []) ++ lines_of after
  cut_more line after f = a.cut ∙ ap (λ ls. a.lines ++ ls) f.first ∙ sym (append_assoc a.lines (line ∷ []) (lines_of after))

  through_more : (line : InputLine) (more : List InputLine) → run_from k first start ((a.lines ++ line ∷ []) ++ more) ≡ behind_all a.front (run_from k number a.state (line ∷ more))
  through_more line more = ap (run_from k first start) (append_assoc a.lines (line ∷ []) more) ∙ a.through (line ∷ more)

  -- the next line was taken: it printed this much more, and the run goes on from this state
  goes_on : (Stands' : W → Type 0) (rest' w' : Option (List ℕ)) (line : InputLine) (front : List (List ℕ)) (state : W) → ends ≡ true → GivesKnown Line rest line rest' → Appends w0 w' (concat front) → Stands' state
      → ((short : length line.bytes ≤ most_line_bytes) (more : List InputLine) → behind_all a.front (run_from k number a.state (line ∷ more)) ≡ behind_all front (run_from k (number + 1) state more))
      → Along k start bytes first (number + 1) line.ended Stands' rest' w0 w'
  goes_on Stands' rest' w' line front state before gives writes stands is =
      let n = laws.next a.left line rest rest' a.is_left gives in
      record {
        lines = a.lines ++ line ∷ [];
        left = n.behind;
        is_left = n.is_left;
        cut = cut_more line n.behind n.first;
        taken = record { whole = λ e. laws.more bytes a.left n.behind a.lines line (a.taken.whole before) n.first e; last = n.first.last };
        front = front;
        writes = writes;
        state = state;
        stands = stands;
        through = λ ls. through_more line ls ∙ is n.first.short ls;
      }

  step : (Stands' : W → Type 0) (rest' w' : Option (List ℕ)) (line : InputLine) → ends ≡ true → number < most_lines → GivesKnown Line rest line rest' → TakesLine {A = Unit {0}} k.says Stands' (content line) (number + 1) a.state (Ok tt) w w'
      → Along k start bytes first (number + 1) line.ended Stands' rest' w0 w'
  step Stands' rest' w' line before more gives (inl h) =
      goes_on Stands' rest' w' line a.front a.state before gives (subst (λ t. Appends w0 t (concat a.front)) (sym h.2) a.writes) h.1
      (λ short ls. ap (behind_all a.front) (run_skipped k number a.state line ls more short h.0))
  step Stands' rest' w' line before more gives (inr h) =
      let t = h.1.1 in
      let x = h.1.0 in
      goes_on Stands' rest' w' line (a.front ++ x ∷ []) t.after before gives (laws.both a.front x w0 w w' a.writes h.1.2) t.stands
      (λ short ls. ap (behind_all a.front) (run_said k number a.state line ls more short h.0 (Prints x t.after) t.is) ∙ behind_both a.front x (run_from k (number + 1) t.after ls))

  -- where the run ends now, and the run over the lines taken alone
  pub known_end : (ending : Ending) → run_from k number a.state (lines_of a.left) ≡ ended (k.tells a.state) ending → run_from k first start (lines_of bytes) ≡ record { outputs = a.front; state = k.tells a.state; ending = ending }
  known_end ending is =
      ap (run_from k first start) a.cut ∙ a.through (lines_of a.left) ∙ ap (behind_all a.front) is ∙ ap {A = List (List ℕ)} {B = Run S} (λ os. record { outputs = os; state = k.tells a.state; ending = ending }) (append-nil a.front)

  pub so_far : run_from k first start a.lines ≡ record { outputs = a.front; state = k.tells a.state; ending = AtEnd }
  so_far = ap (run_from k first start) (sym (append-nil a.lines)) ∙ a.through [] ∙ ap {A = List (List ℕ)} {B = Run S} (λ os. record { outputs = os; state = k.tells a.state; ending = AtEnd }) (append-nil a.front)

  -- the lines taken with one more, and what its source gave
  pub takes_more : (pending : List ℕ) (source : Option (List ℕ)) (line : InputLine) → length pending ≤ read_ahead → GivesKnown Line rest line (prepend_known pending source) → TakesSome bytes source (a.lines ++ line ∷ [])
  takes_more pending source line few gives =
      let n = laws.next a.left line rest (prepend_known pending source) a.is_left gives in
      record { behind = n.behind; cut = cut_more line n.behind n.first; ahead = pending; gave = laws.ahead pending n.behind source n.is_left; few = few }

  pub is_short : (rest' : Option (List ℕ)) (line : InputLine) → GivesKnown Line rest line rest' → length line.bytes ≤ most_line_bytes
  is_short rest' line gives = (laws.next a.left line rest rest' a.is_left gives).first.short

  -- the run over the lines taken with one more, which is not skipped and says this
  pub one_more : (line : InputLine) (said : Said W) → number < most_lines → length line.bytes ≤ most_line_bytes → is_skipped (content line) ≡ false → k.says a.state (content line) ≡ said
      → run_from k first start (a.lines ++ line ∷ []) ≡ behind_all a.front (with_said k (number + 1) a.state said (λ v. ended (k.tells v) AtEnd))
  one_more line said more short unskipped is = a.through (line ∷ []) ∙ ap (behind_all a.front) (run_said k number a.state line [] more short unskipped said is)

  -- the run over all lines ends at this one, of which those behind it say nothing
  pub ends_at : (source : Option (List ℕ)) (line : InputLine) (said : Said W) (ending : Ending) → number < most_lines → GivesKnown Line rest line source → is_skipped (content line) ≡ false → k.says a.state (content line) ≡ said
      → ((run : W → Run S) → with_said k (number + 1) a.state said run ≡ ended (k.tells a.state) ending) → run_from k first start (lines_of bytes) ≡ record { outputs = a.front; state = k.tells a.state; ending = ending }
  ends_at source line said ending more gives unskipped is ends =
      let n = laws.next a.left line rest source a.is_left gives in
      known_end ending (ap (run_from k number a.state) n.first.first ∙ run_said k number a.state line (lines_of n.behind) more n.first.short unskipped said is ∙ ends (λ v. run_from k (number + 1) v (lines_of n.behind)))

  module _ (e : Ends W S) (final : WritesItsEnd k e) where
    last_ended : (source w' : Option (List ℕ)) (status : Status) → a.left ≡ [] → source ≡ Some [] → WritesEnd e a.state status w w' → Ended e (run_from k first start) bytes status source w0 w'
    last_ended source w' status end empty = by_status status
      where
        all : run_from k first start (lines_of bytes) ≡ record { outputs = a.front; state = k.tells a.state; ending = AtEnd }
        all = known_end AtEnd (ap (λ xs. run_from k number a.state (lines_of xs)) end)

        stops : WritesLast (run_from k first start a.lines).outputs w0 w' ⊎ ((◌≡◌ {A = List ℕ} [] []) × e.BreaksAll (run_from k first start a.lines) w0 w') → StopsWithin e (run_from k first start) bytes source w0 w'
        stops writes = record {
          lines = a.lines;
          behind = [];
          cut = a.cut ∙ ap (λ xs. a.lines ++ lines_of xs) end;
          ahead = [];
          gave = subst (λ s. Consumes (Some []) s []) (sym empty) refl;
          few = omega arith;
          writes = writes;
        }

        by_status : (status : Status) → WritesEnd e a.state status w w' → Ended e (run_from k first start) bytes status source w0 w'
        by_status Done h = (
          empty,
          ap (λ (r : Run S). r.ending) all,
          final.all (run_from k first start (lines_of bytes)) a.state w0 w w' (ap (λ (r : Run S). r.state) all) (ap (λ (r : Run S). r.ending) all) (subst (λ (r : Run S). Appends w0 w (concat r.outputs)) (sym all) a.writes) h,
        )
        by_status WriteFault h =
            stops (inr (refl, final.part (run_from k first start a.lines) a.state w0 w w' (ap (λ (r : Run S). r.state) so_far) (ap (λ (r : Run S). r.ending) so_far) (subst (λ (r : Run S). Appends w0 w (concat r.outputs)) (sym so_far) a.writes) h))
        by_status OutOfMemory h = stops (inl (subst (λ (r : Run S). WritesLast r.outputs w0 w') (sym so_far) (laws.all a.front w0 w' (subst (λ t. Appends w0 t (concat a.front)) (sym h) a.writes))))
        by_status Usage h = absurd h
        by_status (BadInput n fault) h = absurd h
        by_status ReadFault h = absurd h
        by_status (Limit what kept) h = absurd h
        by_status DiskFault h = absurd h
        by_status (StaleEpoch fence) h = absurd h
        by_status (DamagedCheckpoint offset) h = absurd h

    -- the run over all lines ends so, and nothing more is written
    whole : (ending : Ending) (w' : Option (List ℕ)) → w' ≡ w → run_from k first start (lines_of bytes) ≡ record { outputs = a.front; state = k.tells a.state; ending = ending }
        → ((run_from k first start (lines_of bytes)).ending ≡ ending) × Appends w0 w' (concat (run_from k first start (lines_of bytes)).outputs)
    whole ending w' kept is =
        (ap (λ (r : Run S). r.ending) is, subst (λ (r : Run S). Appends w0 w' (concat r.outputs)) (sym is) (subst (λ t. Appends w0 t (concat a.front)) (sym kept) a.writes))

    reads_whole : (source : Option (List ℕ)) → IsBroken bytes source a.lines → ReadsWhole e (run_from k first start) bytes source w0 w
    reads_whole source b =
        let same : run_from k first start a.lines ≡ record { outputs = a.front; state = k.tells a.state; ending = AtEnd } = so_far in
        let is = sym (ap (run_from k first start) b.whole ∙ same) in
        record {
          given = b.given;
          gave = b.gave;
          unended = subst (λ (r : Run S). e.IsOpen r.ending) is final.unended;
          writes = subst (λ (r : Run S). Appends w0 w (concat r.outputs)) is a.writes;
        }

    stop_ended : (source : Option (List ℕ)) (stop : LineStop) → ends ≡ true → (stop ≡ ReadStop → BreaksOff rest source) → (stop ≡ LongStop → (number < most_lines) × FirstTooLongKnown rest) → (stop ≡ ManyStop → (number ≡ most_lines) × MoreKnown rest)
        → Ended e (run_from k first start) bytes (stop_status stop number) source w0 w
    stop_ended source ReadStop before broke long many = reads_whole source (laws.broken bytes a.left source a.lines (a.taken.whole before) (subst (λ r. BreaksOff r source) a.is_left (broke refl)))
    stop_ended source LongStop before broke long many =
        let l = long refl in
        whole (AtBadLine (number + 1) LineTooLong) w refl (known_end (AtBadLine (number + 1) LineTooLong) (run_long k number a.state (lines_of a.left) l.0 (subst FirstTooLongKnown a.is_left l.1)))
    stop_ended source ManyStop before broke long many =
        let m = many refl in
        let same = whole (AtLimit Lines most_lines) w refl (known_end (AtLimit Lines most_lines) (run_many k number a.state (lines_of a.left) m.0 (laws.some a.left (subst MoreKnown a.is_left m.1)))) in
        (same.0 ∙ ap (AtLimit Lines) (sym m.0), same.1)

    line_ended : (pending : List ℕ) (source w' : Option (List ℕ)) (line : InputLine) (status : Status) (Stands' : W → Type 0) → number < most_lines → length pending ≤ read_ahead → GivesKnown Line rest line (prepend_known pending source)
        → TakesLine {A = Unit {0}} k.says Stands' (content line) (number + 1) a.state (Err status) w w' → Ended e (run_from k first start) bytes status source w0 w'
    line_ended pending source w' line status Stands' more few gives = by_status status
      where
        stops : WritesLast (run_from k first start (a.lines ++ line ∷ [])).outputs w0 w' → StopsWithin e (run_from k first start) bytes source w0 w'
        stops writes =
            let t = takes_more pending source line few gives in
            record {
              lines = a.lines ++ line ∷ [];
              behind = t.behind;
              cut = t.cut;
              ahead = t.ahead;
              gave = t.gave;
              few = t.few;
              writes = inl writes;
            }

        short : length line.bytes ≤ most_line_bytes
        short = is_short (prepend_known pending source) line gives

        stops_in : (text : List ℕ) (after : W) (n : ℕ) → is_skipped (content line) ≡ false → k.says a.state (content line) ≡ Prints text after → Appends w w' (take n text) → StopsWithin e (run_from k first start) bytes source w0 w'
        stops_in text after n unskipped is part =
            stops (laws.last (run_from k first start (a.lines ++ line ∷ [])).outputs a.front text n w0 w w' (ap (λ (r : Run S). r.outputs) (one_more line (Prints text after) more short unskipped is)) a.writes part)

        -- want of memory at a line that is bad, at one that would pass a limit, and at one that would be taken
        wants : is_skipped (content line) ≡ false → w' ≡ w → StopsWithin e (run_from k first start) bytes source w0 w'
        wants unskipped kept = by_said (k.says a.state (content line)) refl
          where
            silent : (run_from k first start (a.lines ++ line ∷ [])).outputs ≡ a.front ++ [] → StopsWithin e (run_from k first start) bytes source w0 w'
            silent is = stops (subst (λ ps. WritesLast ps w0 w') (sym (is ∙ append-nil a.front)) (laws.all a.front w0 w' (subst (λ t. Appends w0 t (concat a.front)) (sym kept) a.writes)))

            by_said : (said : Said W) → k.says a.state (content line) ≡ said → StopsWithin e (run_from k first start) bytes source w0 w'
            by_said (IsBad fault) is = silent (ap (λ (r : Run S). r.outputs) (one_more line (IsBad fault) more short unskipped is))
            by_said (IsPast what stays) is = silent (ap (λ (r : Run S). r.outputs) (one_more line (IsPast what stays) more short unskipped is))
            by_said (Prints text after) is = stops_in text after 0 unskipped is (subst (λ t. Appends w t []) (sym kept) (appends_none w))

        by_status : (status : Status) → TakesLine {A = Unit {0}} k.says Stands' (content line) (number + 1) a.state (Err status) w w' → Ended e (run_from k first start) bytes status source w0 w'
        by_status (BadInput m fault) h =
            let same = whole (AtBadLine (number + 1) fault) w' h.3 (ends_at (prepend_known pending source) line (IsBad fault) (AtBadLine (number + 1) fault) more gives h.0 h.1 (λ run. refl)) in
            (same.0 ∙ ap (λ n. AtBadLine n fault) (sym h.2), same.1)
        by_status (Limit what stays) h = whole (AtLimit what stays) w' h.2 (ends_at (prepend_known pending source) line (IsPast what stays) (AtLimit what stays) more gives h.0 h.1 (λ run. refl))
        by_status WriteFault h = stops_in h.1.0 h.1.1.after h.1.2.0 h.0 h.1.1.is h.1.2.2
        by_status OutOfMemory h = wants h.0 h.1
        by_status Done h = absurd h
        by_status Usage h = absurd h
        by_status ReadFault h = absurd h
        by_status DiskFault h = absurd h
        by_status (StaleEpoch fence) h = absurd h
        by_status (DamagedCheckpoint offset) h = absurd h

-- the same of an input that may be known, and of all states that what runs stands for
module _ {W S : Type 0} (k : Runner W S) (laws : TakesLines) (start : W) (input : Option (List ℕ)) (first number : ℕ) (ends : Bool) (Stands : W → Type 0) (rest w0 w : Option (List ℕ)) (a : IfSome input (λ bytes. Along k start bytes first number ends Stands rest w0 w)) where
  -- the line that was given is taken by what it says and by its number
  module _ (line : InputLine) (said : List ℕ) (told : ℕ) (says : said ≡ content line) (counted : told ≡ number + 1) (Stands' : W → Type 0) (w' : Option (List ℕ)) (result : Result (Unit {0}) Status) where
    of_line : ((v : W) → Stands v → TakesLine k.says Stands' said told v result w w') → (v : W) → Stands v → TakesLine k.says Stands' (content line) (number + 1) v result w w'
    of_line takes v stands = subst (λ n. TakesLine k.says Stands' (content line) n v result w w') counted (subst (λ l. TakesLine k.says Stands' l told v result w w') says (takes v stands))

  pub step_along : (Stands' : W → Type 0) (rest' w' : Option (List ℕ)) (line : InputLine) (said : List ℕ) (told number' : ℕ) (ended' : Bool) → said ≡ content line → told ≡ number' → number' ≡ number + 1 → line.ended ≡ ended' → ends ≡ true → number < most_lines → GivesKnown Line rest line rest'
      → ((v : W) → Stands v → TakesLine {A = Unit {0}} k.says Stands' said told v (Ok tt) w w') → IfSome input (λ bytes. Along k start bytes first number' ended' Stands' rest' w0 w')
  step_along Stands' rest' w' line said told number' ended' says same next newline before more gives takes =
      weaker input _ _ (λ bytes (along : Along k start bytes first number ends Stands rest w0 w). subst (λ n. Along k start bytes first n ended' Stands' rest' w0 w') (sym next) (subst (λ b. Along k start bytes first (number + 1) b Stands' rest' w0 w') newline
      (step k laws start bytes first number ends Stands rest w0 w along Stands' rest' w' line before more gives (of_line line said told says (same ∙ next) Stands' w' (Ok tt) takes along.state along.stands)))) a

  module _ (e : Ends W S) (final : WritesItsEnd k e) where
    -- the end was told by an answer, or by the last line
    pub end_along : (pending : List ℕ) (source w' : Option (List ℕ)) (line : InputLine) (status : Status) → GivesKnown End rest line (prepend_known pending source) → ((v : W) → Stands v → WritesEnd e v status w w')
        → IfSome input (λ bytes. Ended e (run_from k first start) bytes status source w0 w')
    end_along pending source w' line status gives writes = weaker input _ _ (λ bytes (along : Along k start bytes first number ends Stands rest w0 w).
        let l = laws.end along.left line rest (prepend_known pending source) along.is_left gives in
        last_ended k laws start bytes first number ends Stands rest w0 w along e final source w' status l.0 (laws.no_more pending source l.1) (writes along.state along.stands)) a

    pub last_along : (pending : List ℕ) (source w' : Option (List ℕ)) (status : Status) → rest ≡ prepend_known pending source → ends ≡ false → ((v : W) → Stands v → WritesEnd e v status w w')
        → IfSome input (λ bytes. Ended e (run_from k first start) bytes status source w0 w')
    last_along pending source w' status is before writes = weaker input _ _ (λ bytes (along : Along k start bytes first number ends Stands rest w0 w).
        let end = along.taken.last before in
        last_ended k laws start bytes first number ends Stands rest w0 w along e final source w' status end (laws.no_more pending source (sym is ∙ along.is_left ∙ ap (λ l. Some l) end)) (writes along.state along.stands)) a

    pub stop_along : (source : Option (List ℕ)) (stop : LineStop) → ends ≡ true → (stop ≡ ReadStop → BreaksOff rest source) → (stop ≡ LongStop → (number < most_lines) × FirstTooLongKnown rest) → (stop ≡ ManyStop → (number ≡ most_lines) × MoreKnown rest)
        → IfSome input (λ bytes. Ended e (run_from k first start) bytes (stop_status stop number) source w0 w)
    stop_along source stop before broke long many = weaker input _ _ (λ bytes (along : Along k start bytes first number ends Stands rest w0 w). stop_ended k laws start bytes first number ends Stands rest w0 w along e final source stop before broke long many) a

    pub line_along : (pending : List ℕ) (source w' : Option (List ℕ)) (line : InputLine) (said : List ℕ) (told : ℕ) (status : Status) (Stands' : W → Type 0) → said ≡ content line → told ≡ number + 1 → number < most_lines → length pending ≤ read_ahead
        → GivesKnown Line rest line (prepend_known pending source) → ((v : W) → Stands v → TakesLine {A = Unit {0}} k.says Stands' said told v (Err status) w w') → IfSome input (λ bytes. Ended e (run_from k first start) bytes status source w0 w')
    line_along pending source w' line said told status Stands' says counted more few gives takes = weaker input _ _ (λ bytes (along : Along k start bytes first number ends Stands rest w0 w).
        line_ended k laws start bytes first number ends Stands rest w0 w along e final pending source w' line status Stands' more few gives (of_line line said told says counted Stands' w' (Err status) takes along.state along.stands)) a

-- the outputs with those that wait, once what waits was written
pub appends_flushed : (before took now : Option (List ℕ)) (waiting text : List ℕ) → Appends took now waiting → Appends before (with_waiting took waiting) text → Appends before now text
appends_flushed None took now waiting text k h = tt
appends_flushed (Some p) None now waiting text k h = absurd h
appends_flushed (Some p) (Some q) None waiting text k h = absurd k
appends_flushed (Some p) (Some q) (Some r) waiting text k h = k ∙ h

pub appends_alone : (before took : Option (List ℕ)) (text : List ℕ) → Appends before took text → Appends before (with_waiting took []) text
appends_alone None took text h = tt
appends_alone (Some p) None text h = absurd h
appends_alone (Some p) (Some q) text h = append-nil q ∙ h

-- the same outputs are out in other words
pub along_with : {W S : Type 0} (k : Runner W S) (start : W) (input : Option (List ℕ)) (first number : ℕ) (ends : Bool) (Stands : W → Type 0) (rest w0 w now : Option (List ℕ)) → IfSome input (λ bytes. Along k start bytes first number ends Stands rest w0 w)
    → ((before : Option (List ℕ)) (text : List ℕ) → Appends before w text → Appends before now text) → IfSome input (λ bytes. Along k start bytes first number ends Stands rest w0 now)
along_with k start input first number ends Stands rest w0 w now a same = weaker input _ _ (λ bytes (along : Along k start bytes first number ends Stands rest w0 w). record {
  lines = along.lines;
  left = along.left;
  is_left = along.is_left;
  cut = along.cut;
  taken = along.taken;
  front = along.front;
  writes = same w0 (concat along.front) along.writes;
  state = along.state;
  stands = along.stands;
  through = along.through;
}) a

-- what waits is written, and the run ends; or it ends within what waited
pub ends_flushed : {W S : Type 0} (e : Ends W S) (run : List InputLine → Run S) (input source w0 took now : Option (List ℕ)) (waiting : List ℕ) (status : Status) (does : Option (List ℕ) → Type 0) → IfSome input (λ bytes. MayBreak e run bytes source w0 took waiting)
    → Flushes waiting status took now does → ((mid : Option (List ℕ)) → Appends took mid waiting → does mid → IfSome input (λ bytes. Ended e run bytes status source w0 now)) → IfSome input (λ bytes. Ended e run bytes status source w0 now)
ends_flushed e run input source w0 took now waiting status does cut (inl h) ends = weaker input _ _ (λ bytes (c : MayBreak e run bytes source w0 took waiting). subst (λ s. Ended e run bytes s source w0 now) (sym h.0) (c now h.1)) cut
ends_flushed e run input source w0 took now waiting status does cut (inr h) ends = ends h.0 h.1 h.2

-- nothing that waits can break off
pub none_waits : {W S : Type 0} (e : Ends W S) (run : List InputLine → Run S) (input source w0 took : Option (List ℕ)) → IfSome input (λ bytes. MayBreak e run bytes source w0 took [])
none_waits e run None source w0 took = tt
none_waits e run (Some bytes) source w0 took = λ after part. absurd (omega (arith, part.1))

-- nothing waits any more, or all is as it was and so is the source
pub breaks_still : {W S H : Type 0} (e : Ends W S) (run : List InputLine → Run S) (input source source' w0 took took' : Option (List ℕ)) (waiting waiting' : List ℕ) → IfSome input (λ bytes. MayBreak e run bytes source w0 took waiting)
    → (waiting' ≡ []) ⊎ ((waiting' ≡ waiting) × (took' ≡ took) × H) → (H → source' ≡ source) → IfSome input (λ bytes. MayBreak e run bytes source' w0 took' waiting')
breaks_still e run input source source' w0 took took' waiting waiting' cut (inl none) still = subst (λ xs. IfSome input (λ bytes. MayBreak e run bytes source' w0 took' xs)) (sym none) (none_waits e run input source' w0 took')
breaks_still e run input source source' w0 took took' waiting waiting' cut (inr h) still =
    subst (λ xs. IfSome input (λ bytes. MayBreak e run bytes source' w0 took' xs)) (sym h.0)
    (subst (λ t. IfSome input (λ bytes. MayBreak e run bytes source' w0 t waiting)) (sym h.1)
    (subst (λ s. IfSome input (λ bytes. MayBreak e run bytes s w0 took waiting)) (sym (still h.2)) cut))

pub breaks_by : {W S : Type 0} (e : Ends W S) (run : List InputLine → Run S) (input source w0 took : Option (List ℕ)) (waiting : List ℕ) → ((after : Option (List ℕ)) → TakesPart took after waiting → IfSome input (λ bytes. Ended e run bytes WriteFault source w0 after))
    → IfSome input (λ bytes. MayBreak e run bytes source w0 took waiting)
breaks_by e run None source w0 took waiting ends = tt
breaks_by e run (Some bytes) source w0 took waiting ends = λ after part. ends after part
