-- What a step leaves of the disk, at each moment and once it is answered.
use Rattle.std.proofs.Common.{◌≡◌, ◌⊎◌, inl, inr, ℕ, ◌+◌, ◌^◌, ◌<◌, Bool, true, false, not, nat_lt, List, [], ◌∷◌, Option, None, Some, Result, Ok, Err, refl, sym, ◌∙◌, ap, subst, arith}
use Rattle.std.specs.List.{AllByRecursion}
use Rattle.std.proofs.lemmas.Bool.Decides.{nat_tests}
use Rattle.fuxi_io.specs.Disks.{Moment, Told, Leaves, LeavesAlways, WhereTold}
use Rattle.fuxi_terms.specs.Limits.{most_records}
use Rattle.spec_roles.specs.HardState.{HardState, Raise, hard_step, raised}
use Rattle.spec_roles.specs.Refusals.{Refusal, NotRising, HardFull, first_refusal}
use Rattle.hard_state.specs.HardFiles.{Kept, IsAtRest, IsBeforeOrAfter, WritesStep, records_of}
use Rattle.hard_state.specs.declared.fault.HardFault.{HardFault}
use Rattle.hard_state.specs.declared.fault.HardFault.TheVariants.{DiskFault as NoDisk}
use Rattle.epoch_lease.specs.declared.event.LeaseEvent.TheVariants.{Acquire}
use Rattle.epoch_lease.specs.declared.event.LeaseOut.{LeaseOut}
use Rattle.epoch_lease.specs.declared.event.LeaseOut.TheVariants.{Granted}
use Rattle.epoch_lease.specs.declared.event.LeaseFault.{LeaseFault}
use Rattle.epoch_lease.specs.declared.event.LeaseFault.TheVariants.{DiskFault, OutOfMemory}
use Rattle.epoch_lease.specs.Files.{KeptLease, LeavesStep, OpensAs, HasFence, Endures, lease_of}
use Rattle.epoch_lease.specs.Leases.{LeaseState, Stepped, becomes, granted, greatest_epoch, lease_step}
use Rattle.epoch_lease.proofs.FilesLemmas.{rest_endures}
use Rattle.hard_state.proofs.HardFilesLemmas.{rest_leaves}

all_leave : (P Q : List ℕ → Type 0) → ((file : List ℕ) → P file → Q file) → (ms : List Moment) → AllByRecursion (Leaves P) ms → AllByRecursion (Leaves Q) ms
all_leave P Q f [] all = tt
all_leave P Q f (m ∷ ms) all = (λ file image. f file (all.0 file image), all_leave P Q f ms all.1)

always : (P Q : List ℕ → Type 0) (old new : Told) → ((file : List ℕ) → P file → Q file) → LeavesAlways P old new → LeavesAlways Q old new
always P Q old new f leaves = record {
  since = leaves.since;
  reached = leaves.reached;
  first = λ file image. f file (leaves.first file image);
  each = all_leave P Q f leaves.since leaves.each;
}

-- no call of the disk was made
at_once : (P : List ℕ → Type 0) (t : Told) → Leaves P t.now → LeavesAlways P t t
at_once P t leaves = record { since = []; reached = refl; first = leaves; each = tt }

module _ (before after : KeptLease) (behind : LeaseState) (same : after.hard ≡ before.hard) where
  still : (t : Told) → IsAtRest before.hard t.now → Endures after t.now
  still t rest = rest_endures after t.now (subst (λ (k : Kept). IsAtRest k t.now) (sym same) rest)

  quiet_at : (result : Result LeaseOut LeaseFault) (t : Told) → IsAtRest before.hard t.now
      → (LeavesAlways (λ file. OpensAs (lease_of before) file ⊎ OpensAs behind file) t t) × LeavesAlways (HasFence before.hard.value.fence) t t
  quiet_at result t rest = (
    at_once _ t (λ file image. inl ((rest_endures before t.now rest).leaves file image)),
    at_once _ t (λ file image. record { value = before.hard.value; reads = rest_leaves before.hard t.now rest file image; least = omega arith }),
  )

  pub quiet : (answer : LeaseOut) (told : Option Told) → WhereTold (LeavesStep before after behind (Ok answer)) told told
  quiet answer None = tt
  quiet answer (Some t) = λ rest. let q = quiet_at (Ok answer) t rest in record { either = q.0; fenced = q.1; answered = still t rest }

  pub quiet_fault : (told : Option Told) → WhereTold (LeavesStep before after behind (Err OutOfMemory)) told told
  quiet_fault None = tt
  quiet_fault (Some t) = λ rest. let q = quiet_at (Err OutOfMemory) t rest in record { either = q.0; fenced = q.1; answered = still t rest }

-- a fence that may be raised is raised, and the checkpoint has room
raised_only : (h : HardState) (e : ℕ) (v : HardState) → hard_step h e Raise ≡ Ok v → (v ≡ raised h e) × (nat_lt h.records most_records ≡ true)
raised_only h e v is = by (nat_lt h.fence e) (nat_lt h.records most_records) refl is
  where
    by : (b c : Bool) → nat_lt h.records most_records ≡ c
        → (elim (first_refusal ((not b, NotRising h.fence) ∷ (not c, HardFull most_records) ∷ [])) as (λ _. Result HardState Refusal) [ None ↦ Ok (raised h e) | Some r ↦ Err r ]) ≡ Ok v
        → (v ≡ raised h e) × (nat_lt h.records most_records ≡ true)
    by true true room is = (let same : v ≡ raised h e = cc in same, room)
    by true false room is = absurd (let no : ⊥ = cc in no)
    by false c room is = absurd (let no : ⊥ = cc in no)

-- an epoch that is asked for where nobody holds: the record of the next one is written
module _ (before : KeptLease) (h e : ℕ) (free : before.holder ≡ None) (next : e ≡ before.hard.value.fence + 1) (fits : e < 2 ^ 64) where
  abbrev asked : Stepped
  asked = lease_step (lease_of before) (Acquire h)

  is_granted : nat_lt before.hard.value.records most_records ≡ true → asked ≡ becomes (granted (lease_of before) h) (Granted (before.hard.value.fence + 1))
  is_granted room = let more : nat_lt before.hard.value.fence greatest_epoch ≡ true = grind (arith, nat_tests) in rw (free, more, room) refl

  opens_behind : (v : HardState) → hard_step before.hard.value e Raise ≡ Ok v → (file : List ℕ) → records_of file ≡ Ok v → OpensAs asked.state file × HasFence before.hard.value.fence file
  opens_behind v is file reads =
      let r = raised_only before.hard.value e v is in
      let fence : v.fence ≡ before.hard.value.fence + 1 = ap (λ (x : HardState). x.fence) r.0 ∙ next in (
        record {
          value = v;
          reads = reads;
          last = fence ∙ sym (ap (λ (x : Stepped). x.state.last) (is_granted r.1));
          records = ap (λ (x : HardState). x.records) r.0 ∙ sym (ap (λ (x : Stepped). x.state.records) (is_granted r.1));
        },
        record { value = v; reads = reads; least = omega (arith, fence) },
      )

  either_file : (file : List ℕ) → IsBeforeOrAfter before.hard.value (hard_step before.hard.value e Raise) file
      → (OpensAs (lease_of before) file ⊎ OpensAs asked.state file) × HasFence before.hard.value.fence file
  either_file file (inl reads) = (inl (record { value = before.hard.value; reads = reads; last = refl; records = refl }), record { value = before.hard.value; reads = reads; least = omega arith })
  either_file file (inr after) = let o = opens_behind after.0 after.1 file after.2 in (inr o.0, o.1)

  pub wrote : (after : KeptLease) (answer : LeaseOut) (old new : Option Told)
      → WhereTold (WritesStep {E = HardFault} (hard_step before.hard.value e Raise) before.hard after.hard (Ok tt)) old new → WhereTold (LeavesStep before after asked.state (Ok answer)) old new
  wrote after answer None new writes = tt
  wrote after answer (Some t) None writes = absurd writes
  wrote after answer (Some t) (Some u) writes = λ rest. let w = writes rest in record {
    either = always _ _ t u (λ file at. (either_file file at).0) w.0;
    fenced = always _ _ t u (λ file at. (either_file file at).1) w.0;
    answered = rest_endures after u.now w.1;
  }

  pub failed : (after : KeptLease) (k : Kept) (old new : Option Told)
      → WhereTold (WritesStep {E = HardFault} (hard_step before.hard.value e Raise) before.hard k (Err NoDisk)) old new → WhereTold (LeavesStep before after asked.state (Err DiskFault)) old new
  failed after k None new writes = tt
  failed after k (Some t) None writes = absurd writes
  failed after k (Some t) (Some u) writes = λ rest. let w = writes rest in record {
    either = always _ _ t u (λ file at. (either_file file at).0) w.0;
    fenced = always _ _ t u (λ file at. (either_file file at).1) w.0;
    answered = tt;
  }
