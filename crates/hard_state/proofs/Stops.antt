-- What a crash leaves of a checkpoint while a record is written.
use Rattle.std.proofs.Common.{Bool, true, false, nat_lt, ◌≡◌, ◌⊎◌, inl, inr, ⊎_elim, ℕ, ◌+◌, ◌^◌, ◌<◌, List, [], ◌∷◌, ◌++◌, length, take, not, Option, None, Some, Result, Ok, Err, IfSome, refl, sym, ◌∙◌, ap, subst, arith}
use Rattle.std.proofs.lemmas.Bool.Decides.{nat_tests}
use Rattle.fuxi_io.specs.Disks.{Moment, Told, synced_moment, WhereTold, LeavesAlways}
use Rattle.fuxi_terms.specs.Jobs.{is_known, has_ended}
use Rattle.fuxi_terms.specs.Limits.{most_records}
use Rattle.fuxi_terms.specs.Numbers.{has_number}
use Rattle.spec_roles.specs.HardState.{HardState, HardEvent, Raise, Submission as Submitting, Finishing, Banning, Unbanning, hard_step, hard_after, hard_tests, empty_hard, is_full, is_fenced, is_not_rising}
use Rattle.spec_roles.specs.Refusals.{Refusal, Fenced, Known, NoJob, Ended, AlreadyBanned, NotBanned, first_refusal}
use Rattle.hard_state.specs.RecordBodies.{body_of, record_in}
use Rattle.hard_state.specs.declared.records.Record.{Record}
use Rattle.hard_state.specs.declared.records.Record.TheVariants.{Fence, Submission, Finish, Ban, Unban}
use Rattle.hard_state.specs.Gates.{IsAppending, Appends, appended}
use Rattle.hard_state.specs.Checkpoints.{behind_gate}
use Rattle.hard_state.specs.HardFiles.{event_of, epoch_of, made, record_taken, taken, reads_as, Kept, opened_as, IsBeforeOrAfter, WritesStep, IsAskedBy}
use Rattle.hard_state.proofs.HardFilesLemmas.{rest_leaves, stands_for}
use Rattle.hard_state.proofs.Images.{gate_open}
use Rattle.hard_state.proofs.StandsWhileAppended.{reads_before, reads_after, reads_either}
use Rattle.hard_state.proofs.Runs.{map_where, knowing_first, leaves_first, leaves_more, IsLong, within_bytes}

-- each step writes one record
after_counts : (h : HardState) (epoch : ℕ) (event : HardEvent) → (hard_after h epoch event).records ≡ h.records + 1
after_counts h epoch Raise = refl
after_counts h epoch (Submitting job) = refl
after_counts h epoch (Finishing app) = refl
after_counts h epoch (Banning machine) = refl
after_counts h epoch (Unbanning machine) = refl

made_after : (h : HardState) (epoch : ℕ) (event : HardEvent) (next : HardState) → made (hard_step h epoch event) ≡ Some next → hard_after h epoch event ≡ next
made_after h epoch event next is = go (first_refusal (hard_tests h epoch event)) is
  where
    go : (o : Option Refusal) → made (elim o [ None ↦ Ok (hard_after h epoch event) | Some r ↦ Err r ]) ≡ Some next → hard_after h epoch event ≡ next
    go None is = cc
    go (Some r) is = absurd (cc)

record_counts : (h : HardState) (o : Option Record) (next : HardState) → record_taken h o ≡ Some next → next.records ≡ h.records + 1
record_counts h None next is = absurd (cc)
record_counts h (Some r) next is = sym (ap (λ (k : HardState). k.records) (made_after h (epoch_of h r) (event_of r) next is)) ∙ after_counts h (epoch_of h r) (event_of r)

pub one_more : (value : HardState) (body : List ℕ) (next : HardState) → taken value body ≡ Some next → next.records ≡ value.records + 1
unfolding taken
one_more value body next is = record_counts value (record_in body) next is

-- what one master may write, whoever has the fence may write
abbrev Stepped : Option Refusal → HardState → Result HardState Refusal
Stepped o after = elim o [ None ↦ Ok after | Some r ↦ Err r ]

passes_first : (b c : Bool) (r s : Refusal) (tests : List (Bool × Refusal)) (after next : HardState) → c ≡ false → Stepped (first_refusal ((b, r) ∷ tests)) after ≡ Ok next → Stepped (first_refusal ((c, s) ∷ tests)) after ≡ Ok next
passes_first true c r s tests after next shut is = absurd (cc)
passes_first false c r s tests after next shut is = ap (λ b. Stepped (first_refusal ((b, s) ∷ tests)) after) shut ∙ is

not_below : (n : ℕ) → nat_lt n n ≡ false
not_below n = grind (arith, nat_tests)

at_own : (h next : HardState) (epoch : ℕ) (r : Record) → IsAskedBy epoch r → hard_step h epoch (event_of r) ≡ Ok next → hard_step h (epoch_of h r) (event_of r) ≡ Ok next
at_own h next epoch (Fence own) asked is = ap (λ e. hard_step h e Raise) asked ∙ is
at_own h next epoch (Submission job) asked is =
    passes_first (nat_lt epoch h.fence) (nat_lt h.fence h.fence) (Fenced h.fence) (Fenced h.fence) ((is_known h.jobs job.number, Known) ∷ is_full h ∷ []) (hard_after h epoch (Submitting job)) next (not_below h.fence) is
at_own h next epoch (Finish app) asked is =
    passes_first (nat_lt epoch h.fence) (nat_lt h.fence h.fence) (Fenced h.fence) (Fenced h.fence) ((not (is_known h.jobs app.0), NoJob) ∷ (has_ended h.jobs app.0, Ended) ∷ is_full h ∷ []) (hard_after h epoch (Finishing app.0)) next (not_below h.fence) is
at_own h next epoch (Ban machine) asked is =
    passes_first (nat_lt epoch h.fence) (nat_lt h.fence h.fence) (Fenced h.fence) (Fenced h.fence) ((has_number machine.0 h.bans, AlreadyBanned) ∷ is_full h ∷ []) (hard_after h epoch (Banning machine.0)) next (not_below h.fence) is
at_own h next epoch (Unban machine) asked is =
    passes_first (nat_lt epoch h.fence) (nat_lt h.fence h.fence) (Fenced h.fence) (Fenced h.fence) ((not (has_number machine.0 h.bans), NotBanned) ∷ is_full h ∷ []) (hard_after h epoch (Unbanning machine.0)) next (not_below h.fence) is

-- a step that is not refused has room for its record
behind_first : (b : Bool) (r : Refusal) (rest : Option Refusal) (after next : HardState) → Stepped (elim b [ true ↦ Some r | false ↦ rest ]) after ≡ Ok next → Stepped rest after ≡ Ok next
behind_first true r rest after next is = absurd (cc)
behind_first false r rest after next is = is

passes_last : (tests : List (Bool × Refusal)) (b : Bool) (r : Refusal) (after next : HardState) → Stepped (first_refusal (tests ++ (b, r) ∷ [])) after ≡ Ok next → b ≡ false
passes_last [] true r after next is = absurd (cc)
passes_last [] false r after next is = refl
passes_last (t ∷ tests) b r after next is = passes_last tests b r after next (behind_first t.0 t.1 (first_refusal (tests ++ (b, r) ∷ [])) after next is)

full_last : (h : HardState) (epoch : ℕ) (event : HardEvent) (next : HardState) → hard_step h epoch event ≡ Ok next → (is_full h).0 ≡ false
full_last h epoch Raise next is = passes_last (is_not_rising h epoch ∷ []) (is_full h).0 (is_full h).1 _ next is
full_last h epoch (Submitting job) next is = passes_last (is_fenced h epoch ∷ (is_known h.jobs job.number, Known) ∷ []) (is_full h).0 (is_full h).1 _ next is
full_last h epoch (Finishing app) next is = passes_last (is_fenced h epoch ∷ (not (is_known h.jobs app), NoJob) ∷ (has_ended h.jobs app, Ended) ∷ []) (is_full h).0 (is_full h).1 _ next is
full_last h epoch (Banning machine) next is = passes_last (is_fenced h epoch ∷ (has_number machine h.bans, AlreadyBanned) ∷ []) (is_full h).0 (is_full h).1 _ next is
full_last h epoch (Unbanning machine) next is = passes_last (is_fenced h epoch ∷ (not (has_number machine h.bans), NotBanned) ∷ []) (is_full h).0 (is_full h).1 _ next is

pub room_of_step : (h : HardState) (epoch : ℕ) (event : HardEvent) (next : HardState) → hard_step h epoch event ≡ Ok next → h.records < most_records
room_of_step h epoch event next is = let some : not (nat_lt h.records most_records) ≡ false = full_last h epoch event next is in grind (arith, nat_tests)

-- what is written of a record that is allowed is taken
pub takes : (h next : HardState) (epoch : ℕ) (r : Record) → IsAskedBy epoch r → record_in (body_of r) ≡ Some r → hard_step h epoch (event_of r) ≡ Ok next → taken h (body_of r) ≡ Some next
unfolding taken
takes h next epoch r asked back is = ap (record_taken h) back ∙ ap made (at_own h next epoch r asked is)

-- a refusal makes no call of the disk
pub refused_where : (E : Type 0) (k : Kept) (step : Result HardState Refusal) (fault : E) (a : Option Told) → WhereTold (WritesStep step k k (Err fault)) a a
refused_where E k step fault None = tt
refused_where E k step fault (Some t) = λ rest. (leaves_first (IsBeforeOrAfter k.value step) t (λ file image. inl (rest_leaves k t.now rest file image)), tt)

-- a record that may be written: the step that it makes, and its body, which is taken for that step
pub record IsReady (before : Kept) (epoch : ℕ) (change : Record) : Type 0 where
  pub steps : hard_step before.value epoch (event_of change) ≡ Ok (hard_after before.value epoch (event_of change))
  pub room : before.value.records < most_records
  pub taken_as : taken before.value (body_of change) ≡ Some (hard_after before.value epoch (event_of change))

pub ready : (before : Kept) (state : HardState) (epoch : ℕ) (change : Record) → state ≡ before.value → IsAskedBy epoch change → record_in (body_of change) ≡ Some change
    → hard_step state epoch (event_of change) ≡ Ok (hard_after state epoch (event_of change)) → state.records < most_records → IsReady before epoch change
ready before state epoch change value asked back step few =
    let steps : hard_step before.value epoch (event_of change) ≡ Ok (hard_after before.value epoch (event_of change)) = subst (λ (h : HardState). hard_step h epoch (event_of change) ≡ Ok (hard_after h epoch (event_of change))) value step in
    record {
      steps = steps;
      room = subst (λ (h : HardState). h.records < most_records) value few;
      taken_as = takes before.value _ epoch change asked back steps;
    }

-- an appending of the same bytes behind the same gate
pub at_same : {E : Type 0} (gate : ℕ) (bytes : List ℕ) (at : ℕ) (new : List ℕ) (result : Result (Unit {0}) E) (a b : Option Told) → at ≡ gate → new ≡ bytes
    → WhereTold (Appends at new result) a b → WhereTold (Appends gate bytes result) a b
at_same gate bytes at new result a b place same appends = subst (λ (p : ℕ × List ℕ). WhereTold (Appends p.0 p.1 result) a b) (λ i. (place i, same i)) appends

module _ (before : Kept) (next : HardState) (step : Result HardState Refusal) (body : List ℕ) (steps : step ≡ Ok next) (takes : taken before.value body ≡ Some next) (room : before.value.records < most_records)
    (small : length body < 2 ^ 32) where
  abbrev after_gate : ℕ
  after_gate = before.gate + (5 + length body)

  left_reads : (file : List ℕ) → reads_as file ≡ Ok (opened_as before) → before.gate < length file → (left : List ℕ) → IsAppending file before.gate (behind_gate body) left
      → (reads_as left ≡ Ok (opened_as before)) ⊎ (reads_as left ≡ Ok (record { value = next; gate = after_gate }))
  unfolding reads_as
  left_reads file reads within left appending = reads_either taken (λ h. h.records) one_more most_records empty_hard refl before.value next before.gate file body reads within small takes room left appending

  pub old_reads : (file : List ℕ) → reads_as file ≡ Ok (opened_as before) → before.gate < length file → (left : List ℕ) → take (before.gate + 1) left ≡ take (before.gate + 1) file
      → reads_as left ≡ Ok (opened_as before)
  unfolding reads_as
  old_reads file reads within left same = reads_before taken (λ h. h.records) one_more most_records empty_hard refl before.value next before.gate file body reads within small takes room left same

  pub new_reads : (file : List ℕ) → reads_as file ≡ Ok (opened_as before) → before.gate < length file → reads_as (appended file before.gate (behind_gate body)) ≡ Ok (record { value = next; gate = after_gate })
  unfolding reads_as
  new_reads file reads within =
      reads_after taken (λ h. h.records) one_more most_records empty_hard refl before.value next before.gate file body reads within small takes room (appended file before.gate (behind_gate body))
      (gate_open file (behind_gate body) before.gate within)

  either_stands : (file : List ℕ) → reads_as file ≡ Ok (opened_as before) → before.gate < length file → (left : List ℕ) → IsAppending file before.gate (behind_gate body) left → IsBeforeOrAfter before.value step left
  either_stands file reads within left appending =
      ⊎_elim (λ is. inl (stands_for left (opened_as before) is)) (λ is. inr (next, steps, stands_for left (record { value = next; gate = after_gate }) is)) (left_reads file reads within left appending)

  all_stand : (old new : Told) → reads_as old.now.bytes ≡ Ok (opened_as before) → before.gate < length old.now.bytes → LeavesAlways (IsAppending old.now.bytes before.gate (behind_gate body)) old new
      → LeavesAlways (IsBeforeOrAfter before.value step) old new
  all_stand old new reads within all = leaves_more (IsAppending old.now.bytes before.gate (behind_gate body)) (IsBeforeOrAfter before.value step) (either_stands old.now.bytes reads within) old new all

  -- the disk failed; and all was written
  pub failed_where : (E F : Type 0) (size : ℕ) (after : Kept) (a b : Option Told) (e : E) (f : F) → before.gate < size → IfSome a (IsLong size)
      → WhereTold (Appends before.gate (behind_gate body) (Err e)) a b → WhereTold (WritesStep step before after (Err f)) a b
  failed_where E F size after a b e f within known appends =
      map_where {S = WritesStep step before after (Err f)} a b (λ old new h rest. (all_stand old new rest.reads (within_bytes before.gate size old within h.0) (h.1 rest.synced).0, tt))
      (knowing_first (IsLong size) _ a b known appends)

  pub written_where : (E F : Type 0) (size : ℕ) (after : Kept) (a b : Option Told) (d e : Unit {0}) → after.value ≡ next → after.gate ≡ after_gate → before.gate < size
      → IfSome a (IsLong size) → WhereTold (Appends {E = E} before.gate (behind_gate body) (Ok d)) a b → WhereTold (WritesStep {E = F} step before after (Ok e)) a b
  written_where E F size after a b d e value gate within known appends =
      map_where {S = WritesStep {E = F} step before after (Ok e)} a b
      (λ old new h rest.
      let inside = within_bytes before.gate size old within h.0 in
      let all = h.1 rest.synced in (
        all_stand old new rest.reads inside all.0,
        record {
          synced = all.1 ∙ ap (λ (m : Moment). synced_moment m.bytes) (sym all.1);
          reads = ap (λ (m : Moment). reads_as m.bytes) all.1 ∙ new_reads old.now.bytes rest.reads inside ∙ (λ i. Ok (record { value = sym value i; gate = sym gate i }));
        },
      ))
      (knowing_first (IsLong size) _ a b known appends)
