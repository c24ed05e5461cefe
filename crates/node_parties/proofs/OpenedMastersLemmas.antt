-- A checkpoint that is opened and raised to an epoch, and a master that starts with it.
use Rattle.std.proofs.Common.{◌≡◌, ◌⊎◌, inl, inr, ⊎_elim, ℕ, ◌<◌, List, Option, None, Some, Result, Ok, Err, refl, sym, ◌∙◌, ap, subst}
use Rattle.fuxi_io.specs.Disks.{Told, LeavesAlways, WhereTold, after_sync, then_told}
use Rattle.fuxi_terms.specs.Cluster.{ClusterRecord}
use Rattle.spec_roles.specs.HardState.{HardState, HardEvent, Raise, hard_after, hard_step, hard_tests}
use Rattle.spec_roles.specs.MasterSteps.{new_master}
use Rattle.spec_roles.specs.Refusals.{Refusal, first_refusal}
use Rattle.spec_roles.specs.MasterRoles.{master_started}
use Rattle.hard_state.specs.HardFiles.{Kept, IsBeforeOrAfter, IsDamagedAt, IsOpeningFault, KeepsDamaged, Opens, OpensAs, Refuses, WritesStep, records_of}
use Rattle.hard_state.proofs.Runs.{leaves_more, map_where}
use Rattle.hard_state.specs.declared.fault.HardFault.{HardFault}
use Rattle.hard_state.specs.declared.fault.HardFault.TheVariants.{Stale, Fenced, Known, NoJob, Ended, AlreadyBanned, NotBanned, Full, NotCheckpoint, DiskFault, OutOfMemory}
use Rattle.fuxi_master.specs.Cores.{MasterRecord, StandsFor}
use Rattle.node_parties.specs.MasterParties.{IsMasterOf}
use Rattle.node_parties.specs.OpenedMasters.{FailsStart, LeavesSoon, Starts}
use Rattle.node_parties.proofs.KnowledgeKept.{ready_same}
use Rattle.node_parties.proofs.Moments.{both_where, leaves_both, then_where}

-- the fault of an opening
pub open_fails : (epoch : ℕ) (fault : HardFault) (a b : Option Told) → IsOpeningFault fault → ((offset : ℕ) → fault ≡ NotCheckpoint offset → WhereTold (IsDamagedAt offset) a b) → WhereTold Opens a b → WhereTold (FailsStart epoch fault) a b
open_fails epoch (Stale fence) a b is damaged told = elim is [ ]
open_fails epoch (Fenced fence) a b is damaged told = elim is [ ]
open_fails epoch Known a b is damaged told = elim is [ ]
open_fails epoch NoJob a b is damaged told = elim is [ ]
open_fails epoch Ended a b is damaged told = elim is [ ]
open_fails epoch AlreadyBanned a b is damaged told = elim is [ ]
open_fails epoch NotBanned a b is damaged told = elim is [ ]
open_fails epoch Full a b is damaged told = elim is [ ]
open_fails epoch (NotCheckpoint offset) a b is damaged told = damaged offset refl
open_fails epoch DiskFault a b is damaged told = map_where {R = Opens} {S = FailsStart epoch DiskFault} a b (λ old new opens. tt) told
open_fails epoch OutOfMemory a b is damaged told = map_where {R = Opens} {S = FailsStart epoch OutOfMemory} a b (λ old new opens. tt) told

-- a writing finds no damaged record
pub no_damage : {A : Type 0} (fault : HardFault) (offset : ℕ) (step : Result HardState Refusal) → Refuses step fault → ◌≡◌ {A = Result A HardFault} (Err fault) (Err (NotCheckpoint offset)) → ⊥
no_damage fault offset step refused is = let same : fault ≡ NotCheckpoint offset = cc in subst (Refuses step) same refused

-- an opening alone
pub open_starts : (epoch : ℕ) (a b : Option Told) → WhereTold Opens a b → WhereTold (Starts epoch) a b
open_starts epoch a b told = map_where {R = Opens} {S = Starts epoch} a b (λ old new opens value reads.
    ⊎_elim (λ same. inl same) (λ leaves. inr (record {
      from = then_told old (after_sync old.now);
      begins = inr refl;
      leaves = leaves_more (λ file. records_of file ≡ Ok value) (IsBeforeOrAfter value (hard_step value epoch Raise)) (λ file is. inl is) (then_told old (after_sync old.now)) new leaves;
    })) (opens value reads)) told

abbrev stands_for : HardState → Result HardState ℕ
stands_for h = Ok h

ok_is : (h k : HardState) → stands_for h ≡ stands_for k → h ≡ k
ok_is h k is = cc

value_is : (h k : HardState) (file : List ℕ) → records_of file ≡ Ok h → records_of file ≡ Ok k → h ≡ k
value_is h k file a b = ok_is h k (sym a ∙ b)

-- a writing behind an opening, of the same value
module _ (epoch : ℕ) (value : HardState) (old mid new : Told) (written : LeavesAlways (IsBeforeOrAfter value (hard_step value epoch Raise)) mid new) where
  at_first : mid ≡ old → LeavesSoon (IsBeforeOrAfter value (hard_step value epoch Raise)) old new
  at_first same = record { from = mid; begins = inl same; leaves = written }

  at_sync : LeavesAlways (λ file. records_of file ≡ Ok value) (then_told old (after_sync old.now)) mid → LeavesSoon (IsBeforeOrAfter value (hard_step value epoch Raise)) old new
  at_sync opens = record {
    from = then_told old (after_sync old.now);
    begins = inr refl;
    leaves = leaves_both (IsBeforeOrAfter value (hard_step value epoch Raise)) (then_told old (after_sync old.now)) mid new
        (leaves_more (λ file. records_of file ≡ Ok value) (IsBeforeOrAfter value (hard_step value epoch Raise)) (λ file is. inl is) (then_told old (after_sync old.now)) mid opens) written;
  }

  soon : (mid ≡ old) ⊎ LeavesAlways (λ file. records_of file ≡ Ok value) (then_told old (after_sync old.now)) mid → LeavesSoon (IsBeforeOrAfter value (hard_step value epoch Raise)) old new
  soon either = ⊎_elim at_first at_sync either

pub raise_starts : (epoch : ℕ) (before after : Kept) (result : Result (Unit {0}) HardFault) (a b c : Option Told) → WhereTold (OpensAs before) a b → WhereTold Opens a b
    → WhereTold (WritesStep (hard_step before.value epoch Raise) before after result) b c → WhereTold (Starts epoch) a c
raise_starts epoch before after result a b c opened opens written =
    then_where {R = λ old mid. OpensAs before old mid × Opens old mid} {S = WritesStep (hard_step before.value epoch Raise) before after result} {U = Starts epoch} a b c (λ old mid new o w value reads.
    let same : before.value ≡ value = value_is before.value value old.now.bytes o.0.0 reads in
    let moments = subst (λ v. LeavesAlways (IsBeforeOrAfter v (hard_step v epoch Raise)) mid new) same (w o.0.1).0 in
    inr (soon epoch value old mid new moments (o.1 value reads))) (both_where (OpensAs before) Opens a b opened opens) written

-- a file that was opened has no damaged record
pub opened_keeps : (k : Kept) (a b c : Option Told) → WhereTold (OpensAs k) a b → KeepsDamaged a c
opened_keeps k None b c opened = tt
opened_keeps k (Some t) None c opened = absurd opened
opened_keeps k (Some t) (Some u) c opened = λ offset damaged. let other : ◌≡◌ {A = Result HardState ℕ} (Ok k.value) (Err offset) = sym opened.0 ∙ damaged in absurd (let no : ⊥ = cc in no)

-- the master that starts, of the value that was written
stepped : (h : HardState) (e : ℕ) (v : HardEvent) (k : HardState) → hard_step h e v ≡ Ok k → hard_after h e v ≡ k
stepped h e v k done = by (first_refusal (hard_tests h e v)) done
  where
    by : (o : Option Refusal) → elim o as (λ _. Result HardState Refusal) [ None ↦ Ok (hard_after h e v) | Some r ↦ Err r ] ≡ Ok k → hard_after h e v ≡ k
    by None done = cc
    by (Some r) done = cc

pub starts_master : (c : ClusterRecord) (before : HardState) (k : Kept) (m : MasterRecord) (epoch : ℕ) → 0 < epoch → hard_step before epoch Raise ≡ Ok k.value → StandsFor m.core (master_started c k.value epoch)
    → IsMasterOf k.value (master_started c k.value epoch) (record { hard = k; master = m })
starts_master c before k m epoch above step stands =
    let s = ready_same c (new_master k.value epoch) in
    let fence : epoch ≡ k.value.fence = ap (λ (h : HardState). h.fence) (stepped before epoch Raise k.value step) in
    record { value = refl; stands = stands; jobs = s.jobs; bans = s.bans; epoch = s.epoch ∙ fence; begun = subst (λ n. 0 < n) (sym s.epoch) above }
