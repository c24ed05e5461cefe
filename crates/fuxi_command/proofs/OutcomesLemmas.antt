-- What a command made of what it was handed, put together from what the run of each kind of command says.
use Rattle.std.proofs.Common.{◌≡◌, ◌⊎◌, inl, inr, refl, ap, subst, ℕ, List, Option, None, Some, is_some, Ok, Err, IfSome, true, false, arith}
use Rattle.fuxi_io.specs.Causes.{Rose}
use Rattle.fuxi_io.specs.Disks.{Told as DiskTold}
use Rattle.fuxi_io.specs.declared.status.LimitOf.TheVariants.{Lines, Packets, Bytes, Records, Calls}
use Rattle.fuxi_io.specs.declared.status.Status.{Status}
use Rattle.fuxi_io.specs.declared.status.Status.TheVariants.{Done, Usage, BadInput, ReadFault, WriteFault, Limit, OutOfMemory, DiskFault, StaleEpoch, DamagedCheckpoint}
use Rattle.fuxi_terms.specs.Limits.{most_lines}
use Rattle.schedule_replay.specs.ScheduleRuns.{read_from, Ended}
use Rattle.storm_run.specs.StormRuns.{StormEnded}
use Rattle.storm_run.specs.Summaries.{storm_of}
use Rattle.spec_roles.specs.HardState.{HardState}
use Rattle.hard_state.specs.HardFiles.{KeepsDamaged, records_of}
use Rattle.epoch_lease.specs.LeaseEnds.{LeaseEnded, lease_causes}
use Rattle.input_lines.specs.LineRuns.{AtEnd}
use Rattle.input_lines.specs.RunEnds.{Causes, Faults, CanEnd}
use Rattle.input_lines.proofs.RunEndsLemmas.{carries_same, carries_unused, disk_served, ends_as, ends_so, output_served, source_served, within_same}
use Rattle.epoch_lease.specs.LeaseRuns.{run_of}
use Rattle.work_plan.specs.AgentWithApps.{empty_world as empty_work}
use Rattle.work_plan.specs.WorkLineRuns.{Ended as WorkEnded, run_from as work_run_from, run_of as work_run_of, work_causes}
use Rattle.fuxi_node.specs.declared.kind.NodeKind.{NodeKind}
use Rattle.fuxi_node.specs.declared.kind.NodeKind.TheVariants.{Master, Agent, App}
use Rattle.fuxi_node.specs.NodeInputs.{HasNoCluster, InputEnded, InputEndsBy, IsDiskless, LeavesDisk, MayStart, TellsDisk, ending_of, status_at}
use Rattle.fuxi_io.specs.Doors.{WhereTold}
use Rattle.fuxi_command.specs.CommandWords.{Command, Lease, Node, Replay, Storm, Work, command_of, has_file, is_command, is_node}
use Rattle.fuxi_command.specs.Outcomes.{IsOutcome, Seen, TellsFaults, TellsLease}

-- a disk that was left alone has its damaged file as it was
pub alone_keeps : (told : Option DiskTold) → KeepsDamaged told told
alone_keeps None = tt
alone_keeps (Some t) = λ offset damaged. inl refl

-- what is said of each command
pub record Ends (c : Command) (status : Status) (disk_stays door_stays : Type 0) (old new : Seen) : Type 0 where
  pub usage : status ≡ Usage → ⊥
  pub read : status ≡ ReadFault → Rose old.reads_failed new.reads_failed
  pub write : status ≡ WriteFault → Rose old.writes_failed new.writes_failed
  pub faults : TellsFaults status old new
  pub keeps : KeepsDamaged old.disk new.disk
  pub limit : (kept : ℕ) → status ≡ Limit Lines kept → kept ≡ most_lines
  pub disk : status ≡ DiskFault → Rose old.disk_failed new.disk_failed
  pub no_door : is_node (Some c) ≡ false → door_stays
  pub no_file : has_file (Some c) ≡ false → disk_stays
  pub diskless : has_file (Some c) ≡ false → IsDiskless status

-- what is said of a node, of a lease, and of named workers alone
pub record NodeMade (kind : NodeKind) (addr : List ℕ) (status : Status) (disk_stays : Type 0) (old new : Seen) : Type 0 where
  pub node : IfSome old.left (λ bytes. WhereTold (InputEnded kind addr old.disk new.disk bytes status new.left old.took new.took old.door_failed new.door_failed) old.door new.door)
  pub places : IfSome old.left (λ bytes. InputEndsBy kind bytes status new.left)
  pub complete : (bytes : List ℕ) → old.left ≡ Some bytes → MayStart kind old.disk → (Rose old.reads_failed new.reads_failed → ⊥) → (Rose old.writes_failed new.writes_failed → ⊥) → (Rose old.disk_failed new.disk_failed → ⊥)
      → (status ≡ status_at (ending_of kind bytes)) ⊎ (status ≡ OutOfMemory)
  pub stays : LeavesDisk kind status old.disk new.disk
  pub unopened : (bytes : List ℕ) → old.left ≡ Some bytes → HasNoCluster bytes → disk_stays
  pub told : TellsDisk kind status old.disk

pub record LeaseMade (status : Status) (old new : Seen) : Type 0 where
  pub ended : IfSome old.left (λ bytes. LeaseEnded bytes status new.left old.took new.took old.disk new.disk)
  pub told : TellsLease status old.disk
  pub complete : (bytes : List ℕ) (t : DiskTold) (value : HardState) → old.left ≡ Some bytes → old.disk ≡ Some t → records_of t.now.bytes ≡ Ok value → (run_of value bytes).ending ≡ AtEnd
      → (Rose old.reads_failed new.reads_failed → ⊥) → (Rose old.writes_failed new.writes_failed → ⊥) → (Rose old.disk_failed new.disk_failed → ⊥) → (status ≡ Done) ⊎ (status ≡ OutOfMemory)

pub record WorkMade (status : Status) (old new : Seen) : Type 0 where
  pub ended : IfSome old.left (λ bytes. WorkEnded (work_run_from 0 empty_work) bytes status new.left old.took new.took)
  pub complete : (bytes : List ℕ) → old.left ≡ Some bytes → (work_run_of bytes).ending ≡ AtEnd → (Rose old.reads_failed new.reads_failed → ⊥) → (Rose old.writes_failed new.writes_failed → ⊥) → (status ≡ Done) ⊎ (status ≡ OutOfMemory)

-- what is said of one command and of no other
abbrev pub Made : Command → Status → Type 0 → Type 0 → Seen → Seen → Type 0
Made Replay status input_stays disk_stays old new = IfSome old.left (λ bytes. Ended (read_from 0) bytes status new.left old.took new.took)
Made (Storm seed steps) status input_stays disk_stays old new = input_stays × StormEnded (storm_of seed steps) status old.took new.took
Made (Node kind addr) status input_stays disk_stays old new = NodeMade kind addr status disk_stays old new
Made Lease status input_stays disk_stays old new = LeaseMade status old new
Made Work status input_stays disk_stays old new = WorkMade status old new

-- words that are this command: what is said of another one is said of this one, since they are none
pub of_command : (words : List (List ℕ)) (c : Command) (status : Status) (input_stays output_stays disk_stays door_stays : Type 0) (old new : Seen) → command_of words ≡ Some c → Ends c status disk_stays door_stays old new
    → Made c status input_stays disk_stays old new → IsOutcome words status input_stays output_stays disk_stays door_stays old new
of_command words c status I O D N old new is ends made = record {
  usage = (λ used. absurd (ends.usage used), λ none. absurd (is_none none));
  unused = λ used. absurd (ends.usage used);
  read = ends.read;
  write = ends.write;
  faults = ends.faults;
  keeps = ends.keeps;
  limit = ends.limit;
  replay = λ other. at Replay other;
  storm = λ seed steps other. at (Storm seed steps) other;
  node = λ kind addr other. (at (Node kind addr) other).node;
  places = λ kind addr other. (at (Node kind addr) other).places;
  complete = λ kind addr other. (at (Node kind addr) other).complete;
  stays = λ kind addr other. (at (Node kind addr) other).stays;
  unopened = λ kind addr other. (at (Node kind addr) other).unopened;
  no_door = λ no. ends.no_door (subst (λ o. is_node o ≡ false) is no);
  no_file = λ no. ends.no_file (subst (λ o. has_file o ≡ false) is no);
  diskless = λ no. ends.diskless (subst (λ o. has_file o ≡ false) is no);
  disk = ends.disk;
  told = λ kind addr other. (at (Node kind addr) other).told;
  lease = λ other. (at Lease other).ended;
  lease_told = λ other. (at Lease other).told;
  lease_complete = λ other. (at Lease other).complete;
  work = λ other. (at Work other).ended;
  work_complete = λ other. (at Work other).complete;
}
  where
    at : (d : Command) → command_of words ≡ Some d → Made d status I D old new
    at d other = let same : c ≡ d = cc in subst (λ x. Made x status I D old new) same made

    is_none : is_command words ≡ false → ⊥
    is_none none = let some : is_command words ≡ true = ap is_some is in cc

-- words that are no command
pub of_none : (words : List (List ℕ)) (I O D N : Type 0) (old new : Seen) → command_of words ≡ None → I → O → D → N → TellsFaults Usage old new → KeepsDamaged old.disk new.disk → IsOutcome words Usage I O D N old new
of_none words I O D N old new is input output disk door faults keeps = record {
  usage = (λ used. ap is_some is, λ none. refl);
  unused = λ used. (output, input);
  read = λ other. absurd cc;
  write = λ other. absurd cc;
  faults = faults;
  keeps = keeps;
  limit = λ kept other. absurd cc;
  replay = λ other. absurd (none Replay other);
  storm = λ seed steps other. absurd (none (Storm seed steps) other);
  node = λ kind addr other. absurd (none (Node kind addr) other);
  places = λ kind addr other. absurd (none (Node kind addr) other);
  complete = λ kind addr other. absurd (none (Node kind addr) other);
  stays = λ kind addr other. absurd (none (Node kind addr) other);
  unopened = λ kind addr other. absurd (none (Node kind addr) other);
  no_door = λ no. door;
  no_file = λ no. disk;
  diskless = λ no. tt;
  disk = λ other. absurd cc;
  told = λ kind addr other. absurd (none (Node kind addr) other);
  lease = λ other. absurd (none Lease other);
  lease_told = λ other. absurd (none Lease other);
  lease_complete = λ other. absurd (none Lease other);
  work = λ other. absurd (none Work other);
  work_complete = λ other. absurd (none Work other);
}
  where
    none : (d : Command) → command_of words ≡ Some d → ⊥
    none d other = cc

-- a run that uses no disk has no status of one
pub diskless : (status : Status) → (status ≡ DiskFault → ⊥) → ((fence : ℕ) → status ≡ StaleEpoch fence → ⊥) → ((offset : ℕ) → status ≡ DamagedCheckpoint offset → ⊥) → ((kept : ℕ) → status ≡ Limit Records kept → ⊥) → IsDiskless status
diskless Done disk stale damaged records = tt
diskless Usage disk stale damaged records = tt
diskless (BadInput line fault) disk stale damaged records = tt
diskless ReadFault disk stale damaged records = tt
diskless WriteFault disk stale damaged records = tt
diskless (Limit Lines kept) disk stale damaged records = tt
diskless (Limit Packets kept) disk stale damaged records = tt
diskless (Limit Bytes kept) disk stale damaged records = tt
diskless (Limit Records kept) disk stale damaged records = records kept refl
diskless (Limit Calls kept) disk stale damaged records = tt
diskless OutOfMemory disk stale damaged records = tt
diskless DiskFault disk stale damaged records = disk refl
diskless (StaleEpoch fence) disk stale damaged records = stale fence refl
diskless (DamagedCheckpoint offset) disk stale damaged records = damaged offset refl

-- a node that is no master leaves the disk alone, and has no status of it
pub node_untouched : (kind : NodeKind) (addr : List ℕ) (D : Type 0) → (((epoch : ℕ) → kind ≡ Master epoch → ⊥) → D) → has_file (Some (Node kind addr)) ≡ false → D
node_untouched (Master epoch) addr D unused fileless = absurd cc
node_untouched (Agent machine boot) addr D unused fileless = unused (λ epoch is. cc)
node_untouched (App app boot units) addr D unused fileless = unused (λ epoch is. cc)

pub node_diskless : (kind : NodeKind) (addr : List ℕ) (status : Status) (disk : Option DiskTold) → TellsDisk kind status disk → has_file (Some (Node kind addr)) ≡ false → IsDiskless status
node_diskless (Master epoch) addr status disk told fileless = absurd cc
node_diskless (Agent machine boot) addr status disk told fileless = told
node_diskless (App app boot units) addr status disk told fileless = told

-- the faults of a command
abbrev pub faults_seen : Seen → Seen → Faults
faults_seen old new = record { source = (old.reads_failed, new.reads_failed); output = (old.writes_failed, new.writes_failed); disk = (old.disk_failed, new.disk_failed) }

-- what is said of each command, of one that ends for one of some causes
pub ends_for : (causes : Causes) (c : Command) (status : Status) (D N : Type 0) (old new : Seen) → CanEnd causes (faults_seen old new) status → (causes.usage → ⊥) → ((kept : ℕ) → causes.limit Lines kept → kept ≡ most_lines) → KeepsDamaged old.disk new.disk
    → (is_node (Some c) ≡ false → N) → (has_file (Some c) ≡ false → D) → (has_file (Some c) ≡ false → IsDiskless status) → Ends c status D N old new
ends_for causes c status D N old new ends usage limit keeps door file tells = record {
  usage = λ is. usage (so Usage is).0;
  read = λ is. (so ReadFault is).0;
  write = λ is. (so WriteFault is).1;
  faults = (source_served causes (faults_seen old new) status ends, output_served causes (faults_seen old new) status ends, disk_served causes (faults_seen old new) status ends);
  keeps = keeps;
  limit = λ kept is. limit kept (so (Limit Lines kept) is).0;
  disk = λ is. (so DiskFault is).2;
  no_door = door;
  no_file = file;
  diskless = tells;
}
  where
    so : (s : Status) → status ≡ s → CanEnd causes (faults_seen old new) s
    so s is = ends_so causes (faults_seen old new) status s is ends

-- what a lease tells
pub lease_tells : (damaged : ℕ → Type 0) (faults : Faults) (status : Status) (disk : Option DiskTold) → CanEnd (lease_causes damaged) faults status → ((offset : ℕ) → damaged offset → IfSome disk (λ t. records_of t.now.bytes ≡ Err offset)) → TellsLease status disk
lease_tells damaged faults status disk ends at = record {
  damaged = λ offset is. at offset (so (DamagedCheckpoint offset) is).0;
  limit = λ what kept is. (so (Limit what kept) is).0.0;
  fresh = λ fence is. (so (StaleEpoch fence) is).0;
}
  where
    so : (s : Status) → status ≡ s → CanEnd (lease_causes damaged) faults s
    so s is = ends_so (lease_causes damaged) faults status s is ends

-- named workers, which have no disk
module _ (status : Status) (old new : Seen) (ends : CanEnd work_causes (record { source = (old.reads_failed, new.reads_failed); output = (old.writes_failed, new.writes_failed); disk = (0, 0) }) status) where
  work_so : (s : Status) → status ≡ s → CanEnd work_causes (record { source = (old.reads_failed, new.reads_failed); output = (old.writes_failed, new.writes_failed); disk = (0, 0) }) s
  work_so s is = ends_so work_causes _ status s is ends

  pub work_ends : new.disk_failed ≡ old.disk_failed → CanEnd work_causes (faults_seen old new) status
  work_ends same = ends_as work_causes work_causes _ (faults_seen old new) (within_same work_causes) (carries_same _) (carries_same _) (carries_unused old.disk_failed new.disk_failed same) status ends

  pub work_diskless : IsDiskless status
  work_diskless = diskless status (λ is. let rose = (work_so DiskFault is).2 in absurd (omega (arith, rose))) (λ fence is. (work_so (StaleEpoch fence) is).0) (λ offset is. (work_so (DamagedCheckpoint offset) is).0) (λ kept is. elim (work_so (Limit Records kept) is).0 [
    | inl other ↦ absurd cc
    | inr lines ↦ let other = lines.0 in absurd cc
  ])

pub work_lines : (kept : ℕ) → (Lines ≡ Packets) ⊎ ((Lines ≡ Lines) × (kept ≡ most_lines)) → kept ≡ most_lines
work_lines kept limit = elim limit [
  | inl other ↦ absurd cc
  | inr lines ↦ lines.1
]

-- a storm, which ends with no other status than those of which something is said
pub storm_ends : (seed steps : ℕ) (status : Status) (D N : Type 0) (old new : Seen) → StormEnded (storm_of seed steps) status old.took new.took → (status ≡ WriteFault → Rose old.writes_failed new.writes_failed) → TellsFaults status old new → KeepsDamaged old.disk new.disk → D → N → Ends (Storm seed steps) status D N old new
storm_ends seed steps status D N old new ended write faults keeps disk door = record {
  usage = by Usage;
  read = λ is. absurd (by ReadFault is);
  write = write;
  faults = faults;
  keeps = keeps;
  limit = λ kept is. absurd (by (Limit Lines kept) is).0;
  disk = λ is. absurd (by DiskFault is);
  no_door = λ no. door;
  no_file = λ no. disk;
  diskless = λ no. diskless status (by DiskFault) (λ fence. by (StaleEpoch fence)) (λ offset. by (DamagedCheckpoint offset)) (λ kept is. (by (Limit Records kept) is).0);
}
  where
    by : (s : Status) → status ≡ s → StormEnded (storm_of seed steps) s old.took new.took
    by s is = subst (λ s. StormEnded (storm_of seed steps) s old.took new.took) is ended
