-- The moments of a writing, and what their files stand for.
use Rattle.std.proofs.Common.{◌≡◌, ◌≢◌, inl, inr, ℕ, ◌+◌, ◌^◌, ◌<◌, ◌≤◌, List, [], ◌∷◌, length, Option, None, Some, Result, Ok, Err, refl, sym, ◌∙◌, ap, subst, arith}
use Rattle.fuxi_io.specs.Disks.{Moment, Told, overwritten, Writes, WhereTold}
use Rattle.fuxi_terms.specs.Limits.{most_records}
use Rattle.spec_roles.specs.HardState.{HardState, HardEvent, Raise, Submission as Submitting, Finishing, Banning, Unbanning, hard_step}
use Rattle.hard_state.specs.RecordBodies.{body_of, record_in, IsWithinLimits}
use Rattle.hard_state.specs.declared.records.Record.{Record}
use Rattle.hard_state.specs.declared.records.Record.TheVariants.{Fence, Submission, Finish, Ban, Unban}
use Rattle.hard_state.specs.Checkpoints.{behind_gate}
use Rattle.hard_state.specs.DiskCalls.{DiskCall, Write, Sync, served, MakesCalls}
use Rattle.hard_state.specs.Gates.{WritesThrough, appending_calls, appended}
use Rattle.hard_state.specs.HardFiles.{event_of, taken, records_of, Kept, opened_as, IsAtRest, IsAskedBy}
use Rattle.hard_state.specs.Moments.{record_for, writing_calls, Moments, StandInTurn}
use Rattle.hard_state.specs.declared.fault.HardFault.{HardFault}
use Rattle.hard_state.specs.declared.fault.HardFault.TheVariants.{DiskFault}
use Rattle.hard_state.proofs.Images.{before-overwritten}
use Rattle.hard_state.proofs.Runs.{map_where, then_where}
use Rattle.hard_state.proofs.HardFilesLemmas.{stands_for}
use Rattle.hard_state.proofs.Stops.{takes, room_of_step, old_reads, new_reads}

-- two writes, each with a sync behind it, are the four calls
pub first_fails : {E : Type 0} (gate : ℕ) (bytes : List ℕ) (a b : Option Told) (fault : E) → WhereTold (WritesThrough (gate + 1) bytes (Err fault)) a b → WhereTold (MakesCalls (appending_calls gate bytes) (Err fault)) a b
first_fails gate bytes a b fault w = map_where {S = MakesCalls (appending_calls gate bytes) (Err fault)} a b (λ old new h. inl h) w

pub then_ends : {E : Type 0} (gate : ℕ) (bytes : List ℕ) (a b c : Option Told) (result : Result (Unit {0}) E) → WhereTold (WritesThrough {E = E} (gate + 1) bytes (Ok (record {}))) a b
    → WhereTold (WritesThrough gate (1 ∷ []) result) b c → WhereTold (MakesCalls (appending_calls gate bytes) result) a c
then_ends {E} gate bytes a b c (Ok done) w x =
    map_where {S = MakesCalls {E = E} (appending_calls gate bytes) (Ok done)} a c (λ old new h. h.2 ∙ ap (λ (t : Told). served Sync (served (Write gate (1 ∷ [])) t)) h.1)
    (then_where (WritesThrough {E = E} (gate + 1) bytes (Ok (record {}))) (WritesThrough {E = E} gate (1 ∷ []) (Ok done)) a b c w x)
then_ends {E} gate bytes a b c (Err fault) w x =
    map_where {S = MakesCalls (appending_calls gate bytes) (Err fault)} a c (λ old new h. inr (inr (inl (subst (λ (t : Told). Writes gate (1 ∷ []) (Err fault) t new) h.1 h.2))))
    (then_where (WritesThrough {E = E} (gate + 1) bytes (Ok (record {}))) (WritesThrough gate (1 ∷ []) (Err fault)) a b c w x)

-- a record that is asked for is the one of its step
record_same : (epoch : ℕ) (r : Record) → IsAskedBy epoch r → record_for epoch (event_of r) ≡ r
record_same epoch (Fence own) asked = ap Fence (sym asked)
record_same epoch (Submission job) asked = refl
record_same epoch (Finish app) asked = refl
record_same epoch (Ban machine) asked = refl
record_same epoch (Unban machine) asked = refl

pub calls_same : (gate at epoch : ℕ) (r : Record) (bytes : List ℕ) → IsAskedBy epoch r → at ≡ gate → bytes ≡ behind_gate (body_of r) → appending_calls at bytes ≡ writing_calls gate epoch (event_of r)
unfolding writing_calls
calls_same gate at epoch r bytes asked place is =
    (λ i. appending_calls (place i) (is i)) ∙ ap (λ (q : Record). appending_calls gate (behind_gate (body_of q))) (sym (record_same epoch r asked))

-- all of the calls, one that failed, and none
pub all_made : (E : Type 0) (made calls : List DiskCall) (a b : Option Told) → made ≡ calls → WhereTold (MakesCalls {E = E} made (Ok (record {}))) a b → WhereTold (Moments calls (Ok (record {}))) a b
all_made E made calls a b same w = subst (λ (l : List DiskCall). WhereTold (Moments l (Ok (record {}))) a b) same w

pub some_made : (E : Type 0) (made calls : List DiskCall) (a b : Option Told) (fault : E) → made ≡ calls → WhereTold (MakesCalls made (Err fault)) a b → WhereTold (Moments calls (Err DiskFault)) a b
some_made E made calls a b fault same w = subst (λ (l : List DiskCall). WhereTold (Moments l (Err DiskFault)) a b) same w

pub nothing_made : (a : Option Told) → WhereTold (λ old new. new ≡ old) a a
nothing_made None = tt
nothing_made (Some t) = refl

pub none_made : (calls : List DiskCall) (fault : HardFault) (a : Option Told) → fault ≢ DiskFault → WhereTold (Moments calls (Err fault)) a a
none_made calls fault None other = tt
none_made calls fault (Some t) other = go fault other
  where
    go : (f : HardFault) → f ≢ DiskFault → Moments calls (Err f) t t
    go DiskFault other = absurd (other refl)
    go _ other = refl

-- what the record of a step is, within the limits
event_same : (epoch : ℕ) (event : HardEvent) → event ≡ event_of (record_for epoch event)
event_same epoch Raise = refl
event_same epoch (Submitting job) = refl
event_same epoch (Finishing app) = refl
event_same epoch (Banning machine) = refl
event_same epoch (Unbanning machine) = refl

is_asked : (epoch : ℕ) (event : HardEvent) → IsWithinLimits (record_for epoch event) → IsAskedBy epoch (record_for epoch event)
is_asked epoch Raise within = refl
is_asked epoch (Submitting job) within = within
is_asked epoch (Finishing app) within = tt
is_asked epoch (Banning machine) within = within
is_asked epoch (Unbanning machine) within = tt

module _ (back : (r : Record) → IsWithinLimits r → record_in (body_of r) ≡ Some r) (short : (r : Record) → IsWithinLimits r → length (body_of r) ≤ 563)
    (k : Kept) (told : Told) (epoch : ℕ) (event : HardEvent) (after : HardState) (rest : IsAtRest k told.now) (inside : k.gate < length told.now.bytes)
    (within : IsWithinLimits (record_for epoch event)) (steps : hard_step k.value epoch event ≡ Ok after) where
  abbrev change : Record
  change = record_for epoch event

  abbrev body : List ℕ
  body = body_of change

  abbrev file : List ℕ
  file = told.now.bytes

  is_taken : taken k.value body ≡ Some after
  is_taken = takes k.value after epoch change (is_asked epoch event within) (back change within) (subst (λ v. hard_step k.value epoch v ≡ Ok after) (event_same epoch event) steps)

  room : k.value.records < most_records
  room = room_of_step k.value epoch event after steps

  small : length body < 2 ^ 32
  small = omega (arith, short change within)

  before_stands : records_of file ≡ Ok k.value
  before_stands = stands_for file (opened_as k) rest.reads

  closed_stands : records_of (overwritten file (k.gate + 1) (behind_gate body)) ≡ Ok k.value
  closed_stands =
      let left = overwritten file (k.gate + 1) (behind_gate body) in
      stands_for left (opened_as k)
      (old_reads k after (hard_step k.value epoch event) body steps is_taken room small file rest.reads inside left (before-overwritten file (behind_gate body) (k.gate + 1) (omega (arith, inside))))

  open_stands : records_of (appended file k.gate (behind_gate body)) ≡ Ok after
  open_stands =
      stands_for (appended file k.gate (behind_gate body)) (record { value = after; gate = k.gate + (5 + length body) })
      (new_reads k after (hard_step k.value epoch event) body steps is_taken room small file rest.reads inside)

  pub stand_in_turn : StandInTurn k.value after (writing_calls k.gate epoch event) told
  unfolding writing_calls
  stand_in_turn = record {
    first = record { bytes_stand = closed_stands; synced_stand = ap (λ (m : Moment). records_of m.synced) rest.synced ∙ before_stands };
    second = record { bytes_stand = closed_stands; synced_stand = closed_stands };
    third = record { bytes_stand = open_stands; synced_stand = closed_stands };
    fourth = record { bytes_stand = open_stands; synced_stand = open_stands };
  }
