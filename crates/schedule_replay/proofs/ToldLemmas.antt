-- A run over the lines of an input is the run of its cluster and its events.
use Rattle.std.proofs.Common.{◌≡◌, ℕ, suc, ◌+◌, ◌-◌, ◌<◌, Bool, true, false, nat_lt, List, [], ◌∷◌, ◌++◌, length, take, Option, None, Some, Result, Ok, Err, refl, sym, ◌∙◌, ap, subst, arith, append_assoc, append-nil}
use Rattle.std.specs.List.{concat}
use Rattle.std.proofs.lemmas.Bool.Decides.{nat_tests}
use Rattle.std.proofs.lemmas.List.Folds.{concat-append}
use Rattle.std.proofs.Math.Seq.{take-length}
use Rattle.fuxi_io.specs.Lines.{InputLine, lines_of}
use Rattle.fuxi_io.specs.declared.status.InputFault.{InputFault}
use Rattle.fuxi_io.specs.declared.status.InputFault.TheVariants.{LineTooLong}
use Rattle.fuxi_io.specs.declared.status.LimitOf.TheVariants.{Lines}
use Rattle.fuxi_terms.specs.Cluster.{ClusterRecord}
use Rattle.fuxi_terms.specs.Counts.{then_do}
use Rattle.fuxi_terms.specs.Limits.{most_line_bytes, most_lines}
use Rattle.cluster_desc.specs.declared.fault.ClusterFault.{ClusterFault}
use Rattle.cluster_desc.specs.ClusterLine.{cluster_of}
use Rattle.schedule_text.specs.ReadEvents.{event_of}
use Rattle.schedule_text.specs.declared.event.Event.{Event as LineEvent}
use Rattle.schedule_text.specs.declared.event.LineFault.{LineFault}
use Rattle.schedule_replay.specs.declared.stop.WorldStop.{WorldStop}
use Rattle.schedule_replay.specs.declared.stop.WorldStop.TheVariants.{TooManyPackets, PoolBytes, OutOfMemory as WantOfMemory}
use Rattle.schedule_replay.specs.LineEvents.{event_as}
use Rattle.schedule_replay.specs.WorldSteps.{limit_of}
use Rattle.schedule_replay.specs.ReplayTexts.{lines_text, frame_of}
use Rattle.schedule_text.specs.PrintedLines.{line_text}
use Rattle.spec_world.specs.Outputs.{Line}
use Rattle.spec_world.specs.World.{World, empty_world}
use Rattle.spec_world.specs.Events.{Event, world_step}
use Rattle.spec_world.specs.Runs.{run_from as written_run, run, outputs}
use Rattle.spec_world.specs.Show.{show}
use Rattle.input_lines.specs.Contents.{content, is_skipped}
use Rattle.input_lines.specs.InputStatuses.{event_fault}
use Rattle.input_lines.specs.LineRuns.{Ending, AtEnd, AtBadLine, AtLimit, Run, ended, final_text}
use Rattle.input_lines.specs.OpenedRuns.{run_opened}
use Rattle.input_lines.specs.Openings.{cluster_fault, described}
use Rattle.input_lines.proofs.LineRunsLemmas.{run_long, run_skipped}
use Rattle.schedule_replay.specs.Inputs.{Input, BadLine, cluster_said, event_said, unless_long, events_from, input_from, told}
use Rattle.schedule_replay.specs.ScheduleRuns.{pieces, read_from, run_from, run_of, state_texts, world_opener, world_runner}
use Rattle.schedule_replay.specs.Told.{IsText, IsTextBefore, IsFrontText}
use Rattle.schedule_replay.proofs.ScheduleRunsLemmas.{ending_at, run_bad, run_past, run_taken}

abbrev bad_line : ℕ → InputFault → BadLine
bad_line line fault = record { line = line; fault = fault }

text_append : (as_ bs : List Line) → lines_text (as_ ++ bs) ≡ lines_text as_ ++ lines_text bs
text_append [] bs = refl
text_append (l ∷ as_) bs = ap (λ t. line_text frame_of l ++ t) (text_append as_ bs) ∙ sym (append_assoc (line_text frame_of l) (lines_text as_) (lines_text bs))

-- what a line is among the events
module _ (before : ℕ) (line : InputLine) (lines : List InputLine) where
  events_long : nat_lt most_line_bytes (length line.bytes) ≡ true → events_from before (line ∷ lines) ≡ Err (bad_line (before + 1) LineTooLong)
  events_long long = rw long refl

  short_said : {A : Type 0} (said : Result A BadLine) → nat_lt most_line_bytes (length line.bytes) ≡ false → unless_long (before + 1) line said ≡ said
  short_said said short = rw short refl

  events_skipped : nat_lt most_line_bytes (length line.bytes) ≡ false → is_skipped (content line) ≡ true → events_from before (line ∷ lines) ≡ events_from (before + 1) lines
  events_skipped short skip = short_said _ short ∙ ap (λ b. elim b as (λ _. Result (List Event) BadLine) [
    | true ↦ events_from (before + 1) lines
    | false ↦ then_do (event_said (before + 1) (event_of (content line))) (λ e. then_do (events_from (before + 1) lines) (λ es. Ok (e ∷ es)))
  ]) skip

  events_said : (said : Result LineEvent LineFault) → nat_lt most_line_bytes (length line.bytes) ≡ false → is_skipped (content line) ≡ false → event_of (content line) ≡ said
      → events_from before (line ∷ lines) ≡ then_do (event_said (before + 1) said) (λ e. then_do (events_from (before + 1) lines) (λ es. Ok (e ∷ es)))
  events_said said short skip is = short_said _ short ∙ ap (λ b. elim b as (λ _. Result (List Event) BadLine) [
    | true ↦ events_from (before + 1) lines
    | false ↦ then_do (event_said (before + 1) (event_of (content line))) (λ e. then_do (events_from (before + 1) lines) (λ es. Ok (e ∷ es)))
  ]) skip ∙ ap (λ o. then_do (event_said (before + 1) o) (λ e. then_do (events_from (before + 1) lines) (λ es. Ok (e ∷ es)))) is

-- where a run ends behind so many lines, of these lines
abbrev EndsAt : ℕ → List InputLine → ℕ → Ending → Type 0
EndsAt before lines taken AtEnd = taken ≡ length lines
EndsAt before lines taken (AtBadLine n fault) = (n ≡ before + taken + 1) × (events_from before lines ≡ Err (bad_line n fault))
EndsAt before lines taken (AtLimit what kept) = Unit {0}

record Tells (before : ℕ) (w : World) (lines : List InputLine) (r : Run (Option World)) : Type 0 where
  pub taken : ℕ
  pub events : List Event
  pub said : events_from before (take taken lines) ≡ Ok events
  pub outputs : concat r.outputs ≡ lines_text (written_run events w).lines
  pub world : r.state ≡ Some (written_run events w).world
  pub ending : EndsAt before lines taken r.ending

-- a run that ends at once
at_once : (before : ℕ) (w : World) (lines : List InputLine) (ending : Ending) → EndsAt before lines 0 ending → Tells before w lines (ended (Some w) ending)
at_once before w lines ending ends = record { taken = 0; events = []; said = refl; outputs = refl; world = refl; ending = ends }

ends_past : (before : ℕ) (lines : List InputLine) (taken : ℕ) (stop : WorldStop) → EndsAt before lines taken (ending_at stop)
ends_past before lines taken (TooManyPackets kept) = record {}
ends_past before lines taken (PoolBytes kept) = record {}
ends_past before lines taken WantOfMemory = record {}

-- one line more before the others
ends_more : (before : ℕ) (line : InputLine) (lines : List InputLine) (taken : ℕ) (ending : Ending)
    → ((bad : BadLine) → events_from (before + 1) lines ≡ Err bad → events_from before (line ∷ lines) ≡ Err bad) → EndsAt (before + 1) lines taken ending → EndsAt before (line ∷ lines) (suc taken) ending
ends_more before line lines taken AtEnd more ends = omega (arith, ends)
ends_more before line lines taken (AtBadLine n fault) more ends = (omega (arith, ends.0), more (bad_line n fault) ends.1)
ends_more before line lines taken (AtLimit what kept) more ends = record {}

tells : (before : ℕ) (w : World) (lines : List InputLine) → Tells before w lines (run_from before w lines)
tells before w [] = at_once before w [] AtEnd refl
tells before w (line ∷ lines) = by_many (nat_lt before most_lines) refl (λ v. tells (before + 1) v lines)
  where
    by_limit : (event : LineEvent) → before < most_lines → nat_lt most_line_bytes (length line.bytes) ≡ false → is_skipped (content line) ≡ false → event_of (content line) ≡ Ok event
        → (limit : Option WorldStop) → limit_of w (world_step w (event_as event)).world ≡ limit
        → Tells (before + 1) (world_step w (event_as event)).world lines (run_from (before + 1) (world_step w (event_as event)).world lines) → Tells before w (line ∷ lines) (run_from before w (line ∷ lines))
    by_limit event more short skip is (Some stop) past t = subst (Tells before w (line ∷ lines)) (sym (run_past before w line lines more (grind (arith, nat_tests, short)) skip event is stop past)) (at_once before w (line ∷ lines) (ending_at stop) (ends_past before (line ∷ lines) 0 stop))
    by_limit event more short skip is None free t = subst (Tells before w (line ∷ lines)) (sym (run_taken before w line lines more (grind (arith, nat_tests, short)) skip event is free)) (record {
      taken = suc t.taken;
      events = event_as event ∷ t.events;
      said = events_said before line (take t.taken lines) (Ok event) short skip is ∙ ap (λ o. then_do o (λ es. Ok (event_as event ∷ es))) t.said;
      outputs = ap (λ l. lines_text (world_step w (event_as event)).lines ++ l) t.outputs ∙ sym (text_append (world_step w (event_as event)).lines (written_run t.events (world_step w (event_as event)).world).lines);
      world = t.world;
      ending = ends_more before line lines t.taken (run_from (before + 1) (world_step w (event_as event)).world lines).ending
          (λ bad e. events_said before line lines (Ok event) short skip is ∙ ap (λ o. then_do o (λ es. Ok (event_as event ∷ es))) e) t.ending;
    })

    by_said : before < most_lines → nat_lt most_line_bytes (length line.bytes) ≡ false → is_skipped (content line) ≡ false → (said : Result LineEvent LineFault) → event_of (content line) ≡ said
        → ((w : World) → Tells (before + 1) w lines (run_from (before + 1) w lines)) → Tells before w (line ∷ lines) (run_from before w (line ∷ lines))
    by_said more short skip (Err fault) is t = subst (Tells before w (line ∷ lines)) (sym (run_bad before w line lines more (grind (arith, nat_tests, short)) skip fault is))
        (at_once before w (line ∷ lines) (AtBadLine (before + 1) (event_fault fault)) (omega arith, events_said before line lines (Err fault) short skip is))
    by_said more short skip (Ok event) is t = by_limit event more short skip is (limit_of w (world_step w (event_as event)).world) refl (t (world_step w (event_as event)).world)

    by_skip : before < most_lines → nat_lt most_line_bytes (length line.bytes) ≡ false → (skipped : Bool) → is_skipped (content line) ≡ skipped
        → ((w : World) → Tells (before + 1) w lines (run_from (before + 1) w lines)) → Tells before w (line ∷ lines) (run_from before w (line ∷ lines))
    by_skip more short true skip t = let h = t w in subst (Tells before w (line ∷ lines)) (sym (run_skipped world_runner before w line lines more (grind (arith, nat_tests, short)) skip)) (record {
      taken = suc h.taken;
      events = h.events;
      said = events_skipped before line (take h.taken lines) short skip ∙ h.said;
      outputs = h.outputs;
      world = h.world;
      ending = ends_more before line lines h.taken (run_from (before + 1) w lines).ending (λ bad e. events_skipped before line lines short skip ∙ e) h.ending;
    })
    by_skip more short false skip t = by_said more short skip (event_of (content line)) refl t

    by_long : before < most_lines → (long : Bool) → nat_lt most_line_bytes (length line.bytes) ≡ long
        → ((w : World) → Tells (before + 1) w lines (run_from (before + 1) w lines)) → Tells before w (line ∷ lines) (run_from before w (line ∷ lines))
    by_long more true long t = subst (Tells before w (line ∷ lines)) (sym (run_long world_runner before w (line ∷ lines) more (grind (arith, nat_tests, long))))
        (at_once before w (line ∷ lines) (AtBadLine (before + 1) LineTooLong) (omega arith, events_long before line lines long))
    by_long more false short t = by_skip more short (is_skipped (content line)) refl t

    by_many : (more : Bool) → nat_lt before most_lines ≡ more → ((w : World) → Tells (before + 1) w lines (run_from (before + 1) w lines)) → Tells before w (line ∷ lines) (run_from before w (line ∷ lines))
    by_many true more t = by_long (grind (arith, nat_tests, more)) (nat_lt most_line_bytes (length line.bytes)) refl t
    by_many false many t = subst (Tells before w (line ∷ lines)) (sym (rw many refl)) (at_once before w (line ∷ lines) (AtLimit Lines most_lines) (record {}))

-- what a line is before the cluster
module _ (before : ℕ) (line : InputLine) (lines : List InputLine) where
  input_long : nat_lt most_line_bytes (length line.bytes) ≡ true → input_from before (line ∷ lines) ≡ Err (bad_line (before + 1) LineTooLong)
  input_long long = rw long refl

  input_skipped : nat_lt most_line_bytes (length line.bytes) ≡ false → is_skipped (content line) ≡ true → input_from before (line ∷ lines) ≡ input_from (before + 1) lines
  input_skipped short skip = short_said before line lines _ short ∙ ap (λ b. elim b as (λ _. Result Input BadLine) [
    | true ↦ input_from (before + 1) lines
    | false ↦ then_do (cluster_said (before + 1) (cluster_of (content line))) (λ c. then_do (events_from (before + 1) lines) (λ es. Ok (record { cluster = c; events = es })))
  ]) skip

  input_said : (said : Result ClusterRecord ClusterFault) → nat_lt most_line_bytes (length line.bytes) ≡ false → is_skipped (content line) ≡ false → cluster_of (content line) ≡ said
      → input_from before (line ∷ lines) ≡ then_do (cluster_said (before + 1) said) (λ c. then_do (events_from (before + 1) lines) (λ es. Ok (record { cluster = c; events = es })))
  input_said said short skip is = short_said before line lines _ short ∙ ap (λ b. elim b as (λ _. Result Input BadLine) [
    | true ↦ input_from (before + 1) lines
    | false ↦ then_do (cluster_said (before + 1) (cluster_of (content line))) (λ c. then_do (events_from (before + 1) lines) (λ es. Ok (record { cluster = c; events = es })))
  ]) skip ∙ ap (λ o. then_do (cluster_said (before + 1) o) (λ c. then_do (events_from (before + 1) lines) (λ es. Ok (record { cluster = c; events = es })))) is

-- what such a line makes of a run
module _ (before : ℕ) (line : InputLine) (lines : List InputLine) (more : nat_lt before most_lines ≡ true) where
  read_long : nat_lt most_line_bytes (length line.bytes) ≡ true → read_from before (line ∷ lines) ≡ ended None (AtBadLine (before + 1) LineTooLong)
  read_long long = rw (more, long) refl

  read_skipped : nat_lt most_line_bytes (length line.bytes) ≡ false → is_skipped (content line) ≡ true → read_from before (line ∷ lines) ≡ read_from (before + 1) lines
  read_skipped short skip = rw (more, short, skip) refl

  read_said : (said : Result ClusterRecord ClusterFault) → nat_lt most_line_bytes (length line.bytes) ≡ false → is_skipped (content line) ≡ false → cluster_of (content line) ≡ said
      → read_from before (line ∷ lines) ≡ run_opened world_opener (described (before + 1) said lines)
  read_said said short skip is = rw (more, short, skip, is) refl

-- the lines are an input, and the world is the one to which it leads
record HasInput (before : ℕ) (lines : List InputLine) (w : Option World) : Type 0 where
  pub input : Input
  pub is : input_from before lines ≡ Ok input
  pub world : w ≡ Some (run input.cluster input.events)

abbrev ReadEndsAt : ℕ → List InputLine → ℕ → Option World → Ending → Type 0
ReadEndsAt before lines taken w AtEnd = (taken ≡ length lines) × HasInput before lines w
ReadEndsAt before lines taken w (AtBadLine n fault) = (n ≡ before + taken + 1) × (input_from before lines ≡ Err (bad_line n fault))
ReadEndsAt before lines taken w (AtLimit what kept) = Unit {0}

record ReadTells (before : ℕ) (lines : List InputLine) (r : Run (Option World)) : Type 0 where
  pub taken : ℕ
  pub outputs : concat r.outputs ≡ told (input_from before (take taken lines))
  pub ending : ReadEndsAt before lines taken r.state r.ending

take_whole : (lines : List InputLine) (n : ℕ) → n ≡ length lines → take n lines ≡ lines
take_whole lines n is = ap (λ k. take k lines) is ∙ take-length lines

-- behind the line of a cluster
behind_told : (c : ClusterRecord) (before : ℕ) (line : InputLine) (lines : List InputLine) → ((ls : List InputLine) → input_from before (line ∷ ls) ≡ then_do (events_from (before + 1) ls) (λ es. Ok (record { cluster = c; events = es })))
    → (r : Run (Option World)) → Tells (before + 1) (empty_world c) lines r → ReadTells before (line ∷ lines) r
behind_told c before line lines is r t = record {
  taken = suc t.taken;
  outputs = t.outputs ∙ sym (ap told (is (take t.taken lines) ∙ ap (λ o. then_do o (λ es. Ok (record { cluster = c; events = es }))) t.said));
  ending = ends r.ending t.ending;
}
  where
    ends : (ending : Ending) → EndsAt (before + 1) lines t.taken ending → ReadEndsAt before (line ∷ lines) (suc t.taken) r.state ending
    ends AtEnd e = (
      omega (arith, e),
      record {
        input = record { cluster = c; events = t.events };
        is = is lines ∙ ap (λ o. then_do o (λ es. Ok (record { cluster = c; events = es }))) (sym (ap (events_from (before + 1)) (take_whole lines t.taken e)) ∙ t.said);
        world = t.world;
      },
    )
    ends (AtBadLine n fault) e = (omega (arith, e.0), is lines ∙ ap (λ o. then_do o (λ es. Ok (record { cluster = c; events = es }))) e.1)
    ends (AtLimit what kept) e = record {}

read_more : (before : ℕ) (line : InputLine) (lines : List InputLine) (taken : ℕ) (w : Option World) (ending : Ending) → input_from before (line ∷ lines) ≡ input_from (before + 1) lines
    → ReadEndsAt (before + 1) lines taken w ending → ReadEndsAt before (line ∷ lines) (suc taken) w ending
read_more before line lines taken w AtEnd is e = (omega (arith, e.0), record { input = e.1.input; is = is ∙ e.1.is; world = e.1.world })
read_more before line lines taken w (AtBadLine n fault) is e = (omega (arith, e.0), is ∙ e.1)
read_more before line lines taken w (AtLimit what kept) is e = record {}

read_tells : (before : ℕ) (lines : List InputLine) → ReadTells before lines (read_from before lines)
read_tells before [] = record { taken = 0; outputs = refl; ending = (omega arith, refl) }
read_tells before (line ∷ lines) = by_many (nat_lt before most_lines) refl (read_tells (before + 1) lines)
  where
    at_line : (ending : Ending) → ReadEndsAt before (line ∷ lines) 0 None ending → ReadTells before (line ∷ lines) (ended None ending)
    at_line ending ends = record { taken = 0; outputs = refl; ending = ends }

    by_cluster : nat_lt before most_lines ≡ true → nat_lt most_line_bytes (length line.bytes) ≡ false → is_skipped (content line) ≡ false → (said : Result ClusterRecord ClusterFault) → cluster_of (content line) ≡ said
        → ReadTells before (line ∷ lines) (read_from before (line ∷ lines))
    by_cluster more short skip (Ok c) is =
        subst (ReadTells before (line ∷ lines)) (sym (read_said before line lines more (Ok c) short skip is))
        (behind_told c before line lines (λ ls. input_said before line ls (Ok c) short skip is) (run_from (before + 1) (empty_world c) lines) (tells (before + 1) (empty_world c) lines))
    by_cluster more short skip (Err fault) is =
        subst (ReadTells before (line ∷ lines)) (sym (read_said before line lines more (Err fault) short skip is))
        (at_line (AtBadLine (before + 1) (cluster_fault fault)) (omega arith, input_said before line lines (Err fault) short skip is))

    by_skip : nat_lt before most_lines ≡ true → nat_lt most_line_bytes (length line.bytes) ≡ false → (skipped : Bool) → is_skipped (content line) ≡ skipped
        → ReadTells (before + 1) lines (read_from (before + 1) lines) → ReadTells before (line ∷ lines) (read_from before (line ∷ lines))
    by_skip more short true skip t = subst (ReadTells before (line ∷ lines)) (sym (read_skipped before line lines more short skip)) (record {
      taken = suc t.taken;
      outputs = t.outputs ∙ sym (ap told (input_skipped before line (take t.taken lines) short skip));
      ending = read_more before line lines t.taken (read_from (before + 1) lines).state (read_from (before + 1) lines).ending (input_skipped before line lines short skip) t.ending;
    })
    by_skip more short false skip t = by_cluster more short skip (cluster_of (content line)) refl

    by_long : nat_lt before most_lines ≡ true → (long : Bool) → nat_lt most_line_bytes (length line.bytes) ≡ long
        → ReadTells (before + 1) lines (read_from (before + 1) lines) → ReadTells before (line ∷ lines) (read_from before (line ∷ lines))
    by_long more true long t = subst (ReadTells before (line ∷ lines)) (sym (read_long before line lines more long)) (at_line (AtBadLine (before + 1) LineTooLong) (omega arith, input_long before line lines long))
    by_long more false short t = by_skip more short (is_skipped (content line)) refl t

    by_many : (more : Bool) → nat_lt before most_lines ≡ more → ReadTells (before + 1) lines (read_from (before + 1) lines) → ReadTells before (line ∷ lines) (read_from before (line ∷ lines))
    by_many true more t = by_long more (nat_lt most_line_bytes (length line.bytes)) refl t
    by_many false many t = subst (ReadTells before (line ∷ lines)) (sym (rw many refl)) (at_line (AtLimit Lines most_lines) (record {}))

-- the same by where the run over a whole input ends
pub whole_told : (bytes : List ℕ) → (run_of bytes).ending ≡ AtEnd → IsText bytes (concat (pieces (run_of bytes)))
whole_told bytes ends =
    let t = read_tells 0 (lines_of bytes) in
    let e = subst (ReadEndsAt 0 (lines_of bytes) t.taken (run_of bytes).state) ends t.ending in
    let l = e.1 in
    record {
      input = l.input;
      is = l.is;
      whole = concat-append (run_of bytes).outputs (final_text state_texts (run_of bytes).state (run_of bytes).ending)
          ∙ ap (λ x. concat (run_of bytes).outputs ++ concat (final_text state_texts (run_of bytes).state x)) ends
          ∙ ap (λ w. concat (run_of bytes).outputs ++ concat (final_text state_texts w AtEnd)) l.world
          ∙ ap (λ x. concat (run_of bytes).outputs ++ x) (append-nil (lines_text (show (run l.input.cluster l.input.events))))
          ∙ ap (λ x. x ++ lines_text (show (run l.input.cluster l.input.events))) (t.outputs ∙ ap told (ap (input_from 0) (take_whole (lines_of bytes) t.taken e.0) ∙ l.is))
          ∙ sym (text_append (outputs l.input.cluster l.input.events) (show (run l.input.cluster l.input.events)));
    }

pub bad_told : (bytes : List ℕ) (line : ℕ) (fault : InputFault) → (run_of bytes).ending ≡ AtBadLine line fault → IsTextBefore bytes line fault (concat (run_of bytes).outputs)
bad_told bytes line fault ends =
    let t = read_tells 0 (lines_of bytes) in
    let e = subst (ReadEndsAt 0 (lines_of bytes) t.taken (run_of bytes).state) ends t.ending in
    let k : t.taken ≡ line - 1 = omega (arith, e.0) in
    record { bad = e.1; before = t.outputs ∙ ap (λ n. told (input_from 0 (take n (lines_of bytes)))) k }

pub front_told : (bytes : List ℕ) → IsFrontText bytes (concat (run_of bytes).outputs)
front_told bytes = let t = read_tells 0 (lines_of bytes) in record { lines = t.taken; before = t.outputs }
