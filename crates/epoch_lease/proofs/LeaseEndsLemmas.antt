-- How a run of a lease ends.
use Rattle.std.proofs.Common.{◌⊎◌, inl, inr, ◌≡◌, ◌≢◌, ℕ, ◌+◌, ◌<◌, ◌≤◌, Bool, true, false, List, [], ◌∷◌, ◌++◌, length, Option, None, Some, IfSome, Ok, Err, refl, sym, ◌∙◌, ap, subst, arith}
use Rattle.std.specs.List.{concat}
use Rattle.std.specs.Io.KnownBytes.{Appends, Consumes, prepend_known}
use Rattle.fuxi_io.specs.Disks.{Told, WhereTold}
use Rattle.fuxi_io.specs.Lines.{InputLine, lines_of, GivesKnown, BreaksOff as SourceBreaks, FirstTooLongKnown, MoreKnown}
use Rattle.fuxi_io.specs.Reading.{read_ahead}
use Rattle.fuxi_io.specs.declared.lines.Got.TheVariants.{Line, End}
use Rattle.fuxi_io.specs.declared.lines.LineStop.{LineStop}
use Rattle.fuxi_io.specs.declared.lines.LineStop.TheVariants.{ReadFault as ReadStop, LineTooLong as LongStop, TooManyLines as ManyStop}
use Rattle.fuxi_io.specs.declared.status.InputFault.TheVariants.{LineTooLong}
use Rattle.fuxi_io.specs.declared.status.LimitOf.TheVariants.{Lines, Packets, Bytes, Records, Calls}
use Rattle.fuxi_io.specs.declared.status.Status.{Status}
use Rattle.fuxi_io.specs.declared.status.Status.TheVariants.{Done, Usage, BadInput, ReadFault, WriteFault, Limit, OutOfMemory, DiskFault, StaleEpoch, DamagedCheckpoint}
use Rattle.fuxi_terms.specs.Limits.{most_lines}
use Rattle.spec_roles.specs.HardState.{HardState}
use Rattle.hard_state.specs.HardFiles.{IsDamagedAt, Opens, SyncsAll, records_of}
use Rattle.input_lines.specs.Contents.{content, is_skipped}
use Rattle.input_lines.specs.LineProgress.{Along, WritesEnd}
use Rattle.input_lines.specs.LineRuns.{Ending, AtEnd, AtBadLine, AtLimit, Run, IsBad, Prints, pieces}
use Rattle.input_lines.specs.InputStatuses.{stop_status}
use Rattle.input_lines.specs.RunEnds.{Faults, Failed, Served, Causes, CanEnd}
use Rattle.input_lines.specs.Wholes.{IsBroken, TakesLines}
use Rattle.input_lines.proofs.Known.{weaker}
use Rattle.input_lines.proofs.LineProgressLemmas.{ends_at, is_short, known_end, one_more, so_far, takes_more}
use Rattle.input_lines.proofs.LineRunsLemmas.{run_long, run_many}
use Rattle.input_lines.proofs.RunEndsLemmas.{Within, ends_so}
use Rattle.epoch_lease.specs.declared.event.LeaseFault.{LeaseFault}
use Rattle.epoch_lease.specs.declared.event.LeaseFault.TheVariants.{NotCheckpoint, DiskFault as NoDisk, OutOfMemory as NoMemory}
use Rattle.epoch_lease.specs.Files.{KeptLease, OpensLease, lease_of}
use Rattle.epoch_lease.specs.Leases.{LeaseState, lease_step}
use Rattle.epoch_lease.specs.LeaseEnds.{Ended, HasEither, HasFile, IsGranted, LeaseEnded, lease_causes, ReadsWhole, StaysShut, StopsAt}
use Rattle.epoch_lease.specs.LeaseProgress.{after_said, fault_status, TakesLine}
use Rattle.epoch_lease.specs.LeaseRuns.{last_texts, lease_ends, lease_in, lease_runner, run_from, run_of, said_of}
use Rattle.epoch_lease.specs.LeaseTexts.{answer_text, last_text}
use Rattle.epoch_lease.proofs.LeaseProgressLemmas.{FileBehind}

-- a run along which so much is known, over a disk that told its moments before, and tells them at the end
module _ (laws : TakesLines) (bytes : List ℕ) (first : LeaseState) (number : ℕ) (ends : Bool) (k : LeaseState) (rest w0 w : Option (List ℕ)) (a : Along lease_runner first bytes 0 number ends (λ x. k ≡ x) rest w0 w) (old new : Option Told) where
  -- the run over the lines taken alone
  taken : run_from 0 first a.lines ≡ record { outputs = a.front; state = a.state; ending = AtEnd }
  taken = so_far lease_runner laws first bytes 0 number ends (λ x. k ≡ x) rest w0 w a

  -- the run over all lines ends here, and nothing more is written
  ends_here : (ending : Ending) (w' : Option (List ℕ)) → HasFile old new a.state → w' ≡ w → run_from 0 first (lines_of bytes) ≡ record { outputs = a.front; state = a.state; ending = ending }
      → ((run_from 0 first (lines_of bytes)).ending ≡ ending) × Appends w0 w' (concat (run_from 0 first (lines_of bytes)).outputs) × HasFile old new (run_from 0 first (lines_of bytes)).state
  ends_here ending w' file kept all = (
    ap (λ (r : Run LeaseState). r.ending) all,
    subst (λ (r : Run LeaseState). Appends w0 w' (concat r.outputs)) (sym all) (subst (λ t. Appends w0 t (concat a.front)) (sym kept) a.writes),
    subst (λ (r : Run LeaseState). HasFile old new r.state) (sym all) file,
  )

  last_ended : (source w' : Option (List ℕ)) (status : Status) → a.left ≡ [] → source ≡ Some [] → HasFile old new a.state → status ≢ OutOfMemory → WritesEnd lease_ends a.state status w w' → Ended (run_from 0 first) bytes status source w0 w' old new
  last_ended source w' status end empty file wanted = by_status status wanted
    where
      all : run_from 0 first (lines_of bytes) ≡ record { outputs = a.front; state = a.state; ending = AtEnd }
      all = known_end lease_runner laws first bytes 0 number ends (λ x. k ≡ x) rest w0 w a AtEnd (ap (λ xs. run_from number a.state (lines_of xs)) end)

      by_status : (status : Status) → status ≢ OutOfMemory → WritesEnd lease_ends a.state status w w' → Ended (run_from 0 first) bytes status source w0 w' old new
      by_status Done wanted h = (
        empty,
        ap (λ (r : Run LeaseState). r.ending) all,
        subst (λ (r : Run LeaseState). Appends w0 w' (concat (pieces last_texts r))) (sym all) (laws.both a.front (last_text a.state.last) w0 w w' a.writes h),
        subst (λ (r : Run LeaseState). HasFile old new r.state) (sym all) file,
      )
      by_status WriteFault wanted h = record {
        lines = a.lines;
        takes = record {
          behind = [];
          cut = a.cut ∙ ap (λ xs. a.lines ++ lines_of xs) end;
          ahead = [];
          gave = subst (λ s. Consumes (Some []) s []) (sym empty) refl;
          few = omega arith;
        };
        good = ap (λ (r : Run LeaseState). r.ending) taken;
        writes = inr (refl, laws.last (pieces last_texts (run_from 0 first a.lines)) a.front (last_text a.state.last) h.0 w0 w w' (ap (pieces last_texts) taken) a.writes h.2);
        file = subst (λ (r : Run LeaseState). HasFile old new r.state) (sym taken) file;
      }
      by_status OutOfMemory wanted h = absurd (wanted refl)
      by_status Usage wanted h = absurd h
      by_status (BadInput n fault) wanted h = absurd h
      by_status ReadFault wanted h = absurd h
      by_status (Limit what kept) wanted h = absurd h
      by_status DiskFault wanted h = absurd h
      by_status (StaleEpoch fence) wanted h = absurd h
      by_status (DamagedCheckpoint offset) wanted h = absurd h

  reads_whole : (source : Option (List ℕ)) → IsBroken bytes source a.lines → HasFile old new a.state → ReadsWhole (run_from 0 first) bytes source w0 w old new
  reads_whole source b file =
      let same : run_from 0 first a.lines ≡ record { outputs = a.front; state = a.state; ending = AtEnd } = taken in
      let whole = sym (ap (run_from 0 first) b.whole ∙ same) in
      record {
        given = b.given;
        gave = b.gave;
        good = ap (λ (r : Run LeaseState). r.ending) (sym whole);
        writes = subst (λ (r : Run LeaseState). Appends w0 w (concat r.outputs)) whole a.writes;
        file = subst (λ (r : Run LeaseState). HasFile old new r.state) whole file;
      }

  stop_ended : (source : Option (List ℕ)) (stop : LineStop) → ends ≡ true → (stop ≡ ReadStop → SourceBreaks rest source) → (stop ≡ LongStop → (number < most_lines) × FirstTooLongKnown rest)
      → (stop ≡ ManyStop → (number ≡ most_lines) × MoreKnown rest) → HasFile old new a.state → Ended (run_from 0 first) bytes (stop_status stop number) source w0 w old new
  stop_ended source ReadStop before broke long many file =
      reads_whole source (laws.broken bytes a.left source a.lines (a.taken.whole before) (subst (λ r. SourceBreaks r source) a.is_left (broke refl))) file
  stop_ended source LongStop before broke long many file =
      let l = long refl in
      ends_here (AtBadLine (number + 1) LineTooLong) w file refl
      (known_end lease_runner laws first bytes 0 number ends (λ x. k ≡ x) rest w0 w a (AtBadLine (number + 1) LineTooLong) (run_long lease_runner number a.state (lines_of a.left) l.0 (subst FirstTooLongKnown a.is_left l.1)))
  stop_ended source ManyStop before broke long many file =
      let m = many refl in
      let e = ends_here (AtLimit Lines most_lines) w file refl
      (known_end lease_runner laws first bytes 0 number ends (λ x. k ≡ x) rest w0 w a (AtLimit Lines most_lines) (run_many lease_runner number a.state (lines_of a.left) m.0 (laws.some a.left (subst MoreKnown a.is_left m.1)))) in
      (m.0, e.0, e.1, e.2)

  line_ended : (pending : List ℕ) (source w' : Option (List ℕ)) (line : InputLine) (status : Status) (after : LeaseState) → number < most_lines → length pending ≤ read_ahead → GivesKnown Line rest line (prepend_known pending source)
      → FileBehind status (content line) a.state after old new → TakesLine (content line) (number + 1) a.state after (Err status) w w' → Ended (run_from 0 first) bytes status source w0 w' old new
  line_ended pending source w' line status after more few gives = by_status status
    where
      -- the run over the lines taken with this one, which is answered so
      with_line : (text : List ℕ) (state : LeaseState) → is_skipped (content line) ≡ false → lease_runner.says a.state (content line) ≡ Prints text state → run_from 0 first (a.lines ++ line ∷ []) ≡ record { outputs = a.front ++ text ∷ []; state = state; ending = AtEnd }
      with_line text state unskipped is =
          one_more lease_runner laws first bytes 0 number ends (λ x. k ≡ x) rest w0 w a line (Prints text state) more (is_short lease_runner laws first bytes 0 number ends (λ x. k ≡ x) rest w0 w a (prepend_known pending source) line gives) unskipped is

      stops : w' ≡ w → StopsAt (run_from 0 first) bytes source w0 w'
      stops kept = record {
        front = a.lines;
        line = line;
        takes = takes_more lease_runner laws first bytes 0 number ends (λ x. k ≡ x) rest w0 w a pending source line few gives;
        good = ap (λ (r : Run LeaseState). r.ending) taken;
        writes = subst (λ (r : Run LeaseState). Appends w0 w' (concat r.outputs)) (sym taken) (subst (λ t. Appends w0 t (concat a.front)) (sym kept) a.writes);
      }

      by_status : (status : Status) → FileBehind status (content line) a.state after old new → TakesLine (content line) (number + 1) a.state after (Err status) w w' → Ended (run_from 0 first) bytes status source w0 w' old new
      by_status (BadInput m fault) file h =
          let e = ends_here (AtBadLine (number + 1) fault) w' (subst (HasFile old new) h.3 file) h.4
          (ends_at lease_runner laws first bytes 0 number ends (λ x. k ≡ x) rest w0 w a (prepend_known pending source) line (IsBad fault) (AtBadLine (number + 1) fault) more gives h.0 h.1 (λ run. refl)) in
          (e.0 ∙ ap (λ n. AtBadLine n fault) (sym h.2), e.1, e.2)
      by_status WriteFault file h =
          let t = h.1.1 in
          let same = with_line h.1.0 t.after h.0 t.is in
          record {
            lines = a.lines ++ line ∷ [];
            takes = takes_more lease_runner laws first bytes 0 number ends (λ x. k ≡ x) rest w0 w a pending source line few gives;
            good = ap (λ (r : Run LeaseState). r.ending) same;
            writes = inl (laws.last (run_from 0 first (a.lines ++ line ∷ [])).outputs a.front h.1.0 h.1.2.0 w0 w w' (ap (λ (r : Run LeaseState). r.outputs) same) a.writes h.1.2.2);
            file = subst (HasFile old new) (t.stands ∙ sym (ap (λ (r : Run LeaseState). r.state) same)) file;
          }
      by_status OutOfMemory file h = record { stops = stops h.2; file = subst (HasFile old new) (h.1 ∙ sym (ap (λ (r : Run LeaseState). r.state) taken)) file }
      by_status DiskFault file h =
          let g = h.1 in
          let front = ap (λ (r : Run LeaseState). r.state) taken in
          let same = ap (λ (r : Run LeaseState). r.state) (with_line (answer_text (lease_step a.state g.event).answer) (lease_step a.state g.event).state h.0 (ap (said_of a.state) g.is)) in
          record {
            stops = stops h.3;
            grants = subst (λ (x : LeaseState). IsGranted (content line) x) (sym front) g;
            file = subst (λ (x : LeaseState). HasEither old new x (run_from 0 first (a.lines ++ line ∷ [])).state) (sym front)
                (subst (HasEither old new a.state) (ap (after_said a.state) g.is ∙ sym same) file);
          }
      by_status Done file h = absurd h
      by_status Usage file h = absurd h
      by_status ReadFault file h = absurd h
      by_status (Limit what kept) file h = absurd h
      by_status (StaleEpoch fence) file h = absurd h
      by_status (DamagedCheckpoint offset) file h = absurd h

-- the same of an input that may be known
module _ (laws : TakesLines) (input : Option (List ℕ)) (first : LeaseState) (number : ℕ) (ends : Bool) (k : LeaseState) (rest w0 w : Option (List ℕ)) (a : IfSome input (λ bytes. Along lease_runner first bytes 0 number ends (λ x. k ≡ x) rest w0 w)) (old new : Option Told) where
  -- the end was told by an answer, or by the last line
  pub end_along : (pending : List ℕ) (source w' : Option (List ℕ)) (line : InputLine) (status : Status) → GivesKnown End rest line (prepend_known pending source) → HasFile old new k → status ≢ OutOfMemory → WritesEnd lease_ends k status w w'
      → IfSome input (λ bytes. Ended (run_from 0 first) bytes status source w0 w' old new)
  end_along pending source w' line status gives file wanted writes = weaker input _ _ (λ bytes (along : Along lease_runner first bytes 0 number ends (λ x. k ≡ x) rest w0 w).
      let e = laws.end along.left line rest (prepend_known pending source) along.is_left gives in
      last_ended laws bytes first number ends k rest w0 w along old new source w' status e.0 (laws.no_more pending source e.1) (subst (HasFile old new) along.stands file) wanted
      (subst (λ (x : LeaseState). WritesEnd lease_ends x status w w') along.stands writes)) a

  pub last_along : (pending : List ℕ) (source w' : Option (List ℕ)) (status : Status) → rest ≡ prepend_known pending source → ends ≡ false → HasFile old new k → status ≢ OutOfMemory → WritesEnd lease_ends k status w w'
      → IfSome input (λ bytes. Ended (run_from 0 first) bytes status source w0 w' old new)
  last_along pending source w' status is before file wanted writes = weaker input _ _ (λ bytes (along : Along lease_runner first bytes 0 number ends (λ x. k ≡ x) rest w0 w).
      let end = along.taken.last before in
      last_ended laws bytes first number ends k rest w0 w along old new source w' status end (laws.no_more pending source (sym is ∙ along.is_left ∙ ap (λ l. Some l) end)) (subst (HasFile old new) along.stands file) wanted
      (subst (λ (x : LeaseState). WritesEnd lease_ends x status w w') along.stands writes)) a

  pub stop_along : (source : Option (List ℕ)) (stop : LineStop) → ends ≡ true → (stop ≡ ReadStop → SourceBreaks rest source) → (stop ≡ LongStop → (number < most_lines) × FirstTooLongKnown rest)
      → (stop ≡ ManyStop → (number ≡ most_lines) × MoreKnown rest) → HasFile old new k → IfSome input (λ bytes. Ended (run_from 0 first) bytes (stop_status stop number) source w0 w old new)
  stop_along source stop before broke long many file = weaker input _ _ (λ bytes (along : Along lease_runner first bytes 0 number ends (λ x. k ≡ x) rest w0 w).
      stop_ended laws bytes first number ends k rest w0 w along old new source stop before broke long many (subst (HasFile old new) along.stands file)) a

  pub line_along : (pending : List ℕ) (source w' : Option (List ℕ)) (line : InputLine) (said : List ℕ) (told : ℕ) (status : Status) (after : LeaseState) → said ≡ content line → told ≡ number + 1 → number < most_lines → length pending ≤ read_ahead → GivesKnown Line rest line (prepend_known pending source)
      → FileBehind status said k after old new → TakesLine said told k after (Err status) w w' → IfSome input (λ bytes. Ended (run_from 0 first) bytes status source w0 w' old new)
  line_along pending source w' line said told status after says counted more few gives file takes = weaker input _ _ (λ bytes (along : Along lease_runner first bytes 0 number ends (λ x. k ≡ x) rest w0 w).
      line_ended laws bytes first number ends k rest w0 w along old new pending source w' line status after more few gives
      (subst (λ (x : LeaseState). FileBehind status (content line) x after old new) along.stands (subst (λ l. FileBehind status l k after old new) says file))
      (subst (λ (x : LeaseState). TakesLine (content line) (number + 1) x after (Err status) w w') along.stands
      (subst (λ n. TakesLine (content line) n k after (Err status) w w') counted (subst (λ l. TakesLine l told k after (Err status) w w') says takes)))) a

untouched : (told : Option Told) → WhereTold Opens told told
untouched None = tt
untouched (Some t) = λ value reads. inl refl

-- nothing was done where memory was refused at once
pub at_once : (known took : Option (List ℕ)) (told : Option Told) → IfSome known (λ bytes. LeaseEnded bytes OutOfMemory known took took told told)
at_once None took told = tt
at_once (Some bytes) took told = inl (record { shut = tt; unread = refl; unwritten = refl; leaves = untouched told })

pub damaged_at : (offset : ℕ) (old new : Option Told) → WhereTold (IsDamagedAt offset) old new → IfSome old (λ t. records_of t.now.bytes ≡ Err offset)
damaged_at offset None new is = tt
damaged_at offset (Some t) None is = absurd is
damaged_at offset (Some t) (Some u) is = is

-- how a run ends of which the lease was not opened, or of which a step failed
pub fault_ends : (damaged : ℕ → Type 0) (faults : Faults) (fault : LeaseFault) → ((offset : ℕ) → fault ≡ NotCheckpoint offset → damaged offset) → (fault ≡ NoDisk → Failed faults.disk) → (fault ≢ NoDisk → Served faults.disk)
    → Served faults.source → Served faults.output → CanEnd (lease_causes damaged) faults (fault_status fault)
fault_ends damaged faults (NotCheckpoint offset) at failed served source output = (at offset refl, (source, output, served (λ is. cc)))
fault_ends damaged faults NoDisk at failed served source output = (source, output, failed refl)
fault_ends damaged faults NoMemory at failed served source output = (tt, (source, output, served (λ is. cc)))

-- a run of an open lease ends as one that opened it
pub lease_within : (damaged : ℕ → Type 0) → Within (lease_causes (λ offset. ⊥)) (lease_causes damaged)
lease_within damaged = record { usage = λ c. c; bad = λ line fault c. c; limit = λ what kept c. c; memory = λ c. c; stale = λ fence c. c; damaged = λ offset c. absurd c }

pub stays_shut : (fault : LeaseFault) (old new : Option Told) → ((offset : ℕ) → fault ≡ NotCheckpoint offset → WhereTold (IsDamagedAt offset) old new) → ((offset : ℕ) → fault ≡ NotCheckpoint offset → WhereTold SyncsAll old new)
    → StaysShut (fault_status fault) old new
stays_shut (NotCheckpoint offset) old new damaged synced = (damaged_at offset old new (damaged offset refl), synced offset refl)
stays_shut NoDisk old new damaged synced = tt
stays_shut NoMemory old new damaged synced = tt

pub shut : (status : Status) (known took : Option (List ℕ)) (old new : Option Told) → StaysShut status old new → WhereTold Opens old new → IfSome known (λ bytes. LeaseEnded bytes status known took took old new)
shut status None took old new is leaves = tt
shut status (Some bytes) took old new is leaves = inl (record { shut = is; unread = refl; unwritten = refl; leaves = leaves })

-- what is kept of an open lease that nobody holds is what its file stood for
pub read_from_file : (k : KeptLease) (old new : Option Told) → WhereTold (OpensLease k) old new → IfSome old (λ t. records_of t.now.bytes ≡ Ok k.hard.value)
read_from_file k None new opens = tt
read_from_file k (Some t) None opens = absurd opens
read_from_file k (Some t) (Some u) opens = opens.reads

pub ran : (k : KeptLease) (status : Status) (known left took after : Option (List ℕ)) (old middle new : Option Told) → k.holder ≡ None → WhereTold (OpensLease k) old middle
    → IfSome known (λ bytes. Ended (run_from 0 (lease_of k)) bytes status left took after old new) → IfSome known (λ bytes. LeaseEnded bytes status left took after old new)
ran k status known left took after old middle new free opens = weaker known _ _ (λ bytes (e : Ended (run_from 0 (lease_of k)) bytes status left took after old new). inr (record {
  value = k.hard.value;
  reads = read_from_file k old middle opens;
  ran = subst (λ (s : LeaseState). Ended (run_from 0 s) bytes status left took after old new) (let same : lease_of k ≡ lease_in k.hard.value = λ i. record { last = k.hard.value.fence; records = k.hard.value.records; holder = free i } in same) e;
}))

-- a run whose lines are all good, over a file without a damaged record
same_value : (file : List ℕ) (a b : HardState) → records_of file ≡ Ok a → records_of file ≡ Ok b → a ≡ b
same_value file a b is_a is_b = cc

completes : (bytes : List ℕ) (t : Told) (value : HardState) (status : Status) (left before after : Option (List ℕ)) (new : Option Told) → records_of t.now.bytes ≡ Ok value → (run_of value bytes).ending ≡ AtEnd
    → (status ≡ ReadFault → ⊥) → (status ≡ WriteFault → ⊥) → (status ≡ DiskFault → ⊥) → LeaseEnded bytes status left before after (Some t) new → (status ≡ Done) ⊎ (status ≡ OutOfMemory)
completes bytes t value status left before after new reads good unread unwritten unlost (inl e) = by_status status e.shut unlost
  where
    by_status : (status : Status) → StaysShut status (Some t) new → (status ≡ DiskFault → ⊥) → (status ≡ Done) ⊎ (status ≡ OutOfMemory)
    by_status (DamagedCheckpoint offset) h lost = absurd (let is = h.0 in let no : ⊥ = cc in no)
    by_status DiskFault h lost = absurd (lost refl)
    by_status OutOfMemory h lost = inr refl
    by_status Done h lost = absurd h
    by_status Usage h lost = absurd h
    by_status (BadInput line fault) h lost = absurd h
    by_status ReadFault h lost = absurd h
    by_status WriteFault h lost = absurd h
    by_status (Limit what kept) h lost = absurd h
    by_status (StaleEpoch fence) h lost = absurd h
completes bytes t value status left before after new reads good unread unwritten unlost (inr e) =
    by_status status (subst (λ (v : HardState). Ended (run_from 0 (lease_in v)) bytes status left before after (Some t) new) (same_value t.now.bytes e.value value e.reads reads) e.ran) unread unwritten unlost
  where
    by_status : (status : Status) → Ended (run_from 0 (lease_in value)) bytes status left before after (Some t) new → (status ≡ ReadFault → ⊥) → (status ≡ WriteFault → ⊥) → (status ≡ DiskFault → ⊥) → (status ≡ Done) ⊎ (status ≡ OutOfMemory)
    by_status Done h r w d = inl refl
    by_status OutOfMemory h r w d = inr refl
    by_status ReadFault h r w d = absurd (r refl)
    by_status WriteFault h r w d = absurd (w refl)
    by_status DiskFault h r w d = absurd (d refl)
    by_status (BadInput line fault) h r w d = absurd (let two = sym good ∙ h.0 in let no : ⊥ = cc in no)
    by_status (Limit Lines kept) h r w d = absurd (let two = sym good ∙ h.1 in let no : ⊥ = cc in no)
    by_status (Limit Packets kept) h r w d = absurd h
    by_status (Limit Bytes kept) h r w d = absurd h
    by_status (Limit Calls kept) h r w d = absurd h
    by_status (Limit Records kept) h r w d = absurd h
    by_status Usage h r w d = absurd h
    by_status (StaleEpoch fence) h r w d = absurd h
    by_status (DamagedCheckpoint offset) h r w d = absurd h

-- the same by what is said of every end
pub completes_known : (causes : Causes) (faults : Faults) (status : Status) (known left before after : Option (List ℕ)) (old new : Option Told) → CanEnd causes faults status → IfSome known (λ bytes. LeaseEnded bytes status left before after old new)
    → (bytes : List ℕ) (t : Told) (value : HardState) → known ≡ Some bytes → old ≡ Some t → records_of t.now.bytes ≡ Ok value → (run_of value bytes).ending ≡ AtEnd
    → (Failed faults.source → ⊥) → (Failed faults.output → ⊥) → (Failed faults.disk → ⊥) → (status ≡ Done) ⊎ (status ≡ OutOfMemory)
completes_known causes faults status known left before after old new ends ended bytes t value is told reads good unread unwritten unlost =
    completes bytes t value status left before after new reads good
    (λ e. unread (ends_so causes faults status ReadFault e ends).0) (λ e. unwritten (ends_so causes faults status WriteFault e ends).1) (λ e. unlost (ends_so causes faults status DiskFault e ends).2)
    (subst (λ d. LeaseEnded bytes status left before after d new) told (subst (λ o. IfSome o (λ b. LeaseEnded b status left before after old new)) is ended))
