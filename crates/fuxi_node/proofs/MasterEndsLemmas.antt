-- A master that did not start, and one that did.
use Rattle.std.proofs.Common.{inl, inr, ◌⊎◌, ⊎_elim, ◌≡◌, ℕ, ◌≤◌, List, length, Option, None, Some, IfSome, Result, Ok, Err, refl, sym, ap, subst, ◌∙◌}
use Rattle.std.specs.Io.KnownBytes.{prepend_known}
use Rattle.fuxi_io.specs.Disks.{Told as Moments, Leaves, WhereTold as WhereMoments}
use Rattle.fuxi_io.specs.Lines.{InputLine, lines_of}
use Rattle.fuxi_io.specs.Reading.{read_ahead}
use Rattle.fuxi_io.specs.declared.status.LimitOf.TheVariants.{Lines, Packets, Bytes, Records, Calls}
use Rattle.fuxi_io.specs.declared.status.Status.{Status}
use Rattle.fuxi_io.specs.declared.status.Status.TheVariants.{Done, Usage, BadInput, ReadFault, WriteFault, Limit, OutOfMemory, DiskFault, StaleEpoch, DamagedCheckpoint}
use Rattle.spec_roles.specs.HardState.{HardState}
use Rattle.hard_state.specs.HardFiles.{Kept, SyncsAll, records_of}
use Rattle.hard_state.specs.declared.fault.HardFault.{HardFault}
use Rattle.hard_state.specs.declared.fault.HardFault.TheVariants.{Stale, Fenced, Known, NoJob, Ended as HasEnded, AlreadyBanned, NotBanned, Full, NotCheckpoint, DiskFault as NoDisk, OutOfMemory as NoMemory}
use Rattle.input_lines.specs.Wholes.{whole_lines}
use Rattle.node_parties.specs.MasterParties.{DiskHas, NodeRecord, RestsAt}
use Rattle.node_parties.specs.OpenedMasters.{IsRaised, IsStartFault, Starts, StartsFrom}
use Rattle.node_parties.specs.NodeCommands.{LeavesEither, hard_in}
use Rattle.fuxi_io.specs.Doors.{Told, WhereTold}
use Rattle.node_core.specs.Roles.{Role, OfAgent, OfApp, OfMaster}
use Rattle.node_core.specs.NodeHalts.{FitsEither}
use Rattle.fuxi_node.specs.declared.taking.DiskFailed.{DiskFailed}
use Rattle.fuxi_node.specs.NodeEnds.{Start, Ran, EndsByLines, EndsWith, Ended, FromRest, FitsNow, FitsOneNow, IsRunStatus}
use Rattle.fuxi_node.specs.NodeRuns.{Ending, AtEnd, AtBadLine, AtLimit}
use Rattle.hard_state.proofs.HardFilesLemmas.{rest_leaves, rest_reads}
use Rattle.fuxi_node.specs.MasterEnds.{FileStands, LeavesFile, HasFile, KeepsFile, KeepsEither, IsRaisedFrom, IsStartStatus, MasterEnded, start_status, status_of}

-- The faults of a start
is_start : (fault : HardFault) → IsStartFault fault → IsStartStatus (start_status fault)
is_start (Stale fence) is = tt
is_start (NotCheckpoint offset) is = tt
is_start Full is = tt
is_start NoDisk is = tt
is_start NoMemory is = tt
is_start (Fenced fence) is = tt
is_start Known is = tt
is_start NoJob is = tt
is_start HasEnded is = tt
is_start AlreadyBanned is = tt
is_start NotBanned is = tt

-- the file of one that did not start
pub leaves_file : (epoch : ℕ) (fault : HardFault) (status : Status) (a b : Option Moments) → status ≡ start_status fault → ((offset : ℕ) → fault ≡ NotCheckpoint offset → WhereMoments SyncsAll a b) → WhereMoments (Starts epoch) a b → LeavesFile epoch status a b
leaves_file epoch fault status a b is damaged told = subst (λ s. LeavesFile epoch s a b) (sym is) (by fault damaged)
  where
    by : (fault : HardFault) → ((offset : ℕ) → fault ≡ NotCheckpoint offset → WhereMoments SyncsAll a b) → LeavesFile epoch (start_status fault) a b
    by (Stale fence) damaged = told
    by (NotCheckpoint offset) damaged = damaged offset refl
    by Full damaged = told
    by NoDisk damaged = tt
    by NoMemory damaged = tt
    by (Fenced fence) damaged = tt
    by Known damaged = tt
    by NoJob damaged = tt
    by HasEnded damaged = tt
    by AlreadyBanned damaged = tt
    by NotBanned damaged = tt

pub runs_on_file : (epoch : ℕ) (status : Status) (a b : Option Moments) → IsRunStatus status → LeavesFile epoch status a b
runs_on_file epoch Done a b is = tt
runs_on_file epoch (BadInput line fault) a b is = tt
runs_on_file epoch ReadFault a b is = tt
runs_on_file epoch WriteFault a b is = tt
runs_on_file epoch (Limit Lines kept) a b is = tt
runs_on_file epoch (Limit Packets kept) a b is = tt
runs_on_file epoch (Limit Bytes kept) a b is = tt
runs_on_file epoch (Limit Calls kept) a b is = tt
runs_on_file epoch (Limit Records kept) a b is = absurd is
runs_on_file epoch OutOfMemory a b is = tt
runs_on_file epoch Usage a b is = tt
runs_on_file epoch DiskFault a b is = tt
runs_on_file epoch (StaleEpoch fence) a b is = absurd is
runs_on_file epoch (DamagedCheckpoint offset) a b is = absurd is

-- a start that failed ends at no line
pub start_placed : (fault : HardFault) (status : Status) (first : ℕ) (known left : Option (List ℕ)) → status ≡ start_status fault → IfSome known (λ bytes. EndsByLines first bytes (Ok status) left)
start_placed fault status first known left is = subst (λ s. IfSome known (λ bytes. EndsByLines first bytes (Ok s) left)) (sym is) (by known fault)
  where
    by : (known : Option (List ℕ)) (fault : HardFault) → IfSome known (λ bytes. EndsByLines first bytes (Ok (start_status fault)) left)
    by None fault = tt
    by (Some bytes) (Stale fence) = tt
    by (Some bytes) (NotCheckpoint offset) = tt
    by (Some bytes) Full = tt
    by (Some bytes) NoDisk = tt
    by (Some bytes) NoMemory = tt
    by (Some bytes) (Fenced fence) = tt
    by (Some bytes) Known = tt
    by (Some bytes) NoJob = tt
    by (Some bytes) HasEnded = tt
    by (Some bytes) AlreadyBanned = tt
    by (Some bytes) NotBanned = tt

-- where the disk tells its file, the hard state is of that
pub raised_from : (epoch : ℕ) (k : Kept) (old new : Option Moments) → IsRaised epoch k.value → WhereMoments (StartsFrom epoch k) old new → IsRaisedFrom epoch old k.value
raised_from epoch k None new r h = record { before = r.before; reads = tt; step = r.step }
raised_from epoch k (Some o) None r h = absurd h
raised_from epoch k (Some o) (Some n) r h = record { before = h.before; reads = h.reads; step = h.step }

-- what more is known of the disk at each end
module _ (Fits More : Role → Type 0) (FitsOne MoreOne : Role → Role → Type 0) (f : (q : Role) → Fits q → More q) (one : (q p : Role) → FitsOne q p → MoreOne q p) (s : Start) (bytes : List ℕ) (left w0 w : Option (List ℕ)) (before now : ℕ) (old new : Told) where
  ran_on : (lines : List InputLine) (ending : Ending) → Ran s lines (EndsWith Fits ending w0 w) before now old new → Ran s lines (EndsWith More ending w0 w) before now old new
  ran_on lines ending r = record { visits = r.visits; was = r.was; rounds = r.rounds; holds = (r.holds.0, r.holds.1, f _ r.holds.2) }

  pub fits_on : (outcome : Result Status DiskFailed) → Ended Fits FitsOne s bytes outcome left w0 w before now old new → Ended More MoreOne s bytes outcome left w0 w before now old new
  fits_on (Ok Done) e = (e.0, record { visits = e.1.visits; was = e.1.was; rounds = e.1.rounds; holds = (e.1.holds.0, e.1.holds.1, f _ e.1.holds.2) })
  fits_on (Ok (BadInput line fault)) e = ran_on (lines_of bytes) (AtBadLine line fault) e
  fits_on (Ok ReadFault) e = record { given = e.given; gave = e.gave; ran = ran_on (whole_lines (lines_of e.given)) AtEnd e.ran }
  fits_on (Ok WriteFault) e = record { lines = e.lines; takes = e.takes; ran = record { visits = e.ran.visits; was = e.ran.was; rounds = e.ran.rounds; holds = (e.ran.holds.0, f _ e.ran.holds.1) } }
  fits_on (Ok (Limit Lines kept)) e = ran_on (lines_of bytes) (AtLimit kept) e
  fits_on (Ok (Limit Packets kept)) e = e
  fits_on (Ok (Limit Bytes kept)) e = e
  fits_on (Ok (Limit Calls kept)) e = e
  fits_on (Ok (Limit Records kept)) e = e
  fits_on (Ok OutOfMemory) e = record { lines = e.lines; next = e.next; one = e.one; takes = e.takes; mid = e.mid; ran = e.ran; fits = one _ _ e.fits }
  fits_on (Ok Usage) e = e
  fits_on (Ok DiskFault) e = e
  fits_on (Ok (StaleEpoch fence)) e = e
  fits_on (Ok (DamagedCheckpoint offset)) e = e
  fits_on (Err failed) e = record { lines = e.lines; next = e.next; one = e.one; takes = e.takes; ran = e.ran; fits = one _ _ e.fits }

module _ (epoch : ℕ) (start : HardState → Start) (disk later : Option Moments) where
  pub not_started : (fault : HardFault) (status : Status) (pending : List ℕ) (source took : Option (List ℕ)) (f : ℕ) (t : Option Told) → status ≡ start_status fault → IsStartFault fault → length pending ≤ read_ahead → WhereMoments (Starts epoch) disk later
      → IfSome (prepend_known pending source) (λ bytes. WhereTold (MasterEnded epoch start disk later bytes status source took took f f) t t)
  not_started fault status pending None took f t is of few leaves = tt
  not_started fault status pending (Some left) took f None is of few leaves = tt
  not_started fault status pending (Some left) took f (Some t) is of few leaves = inl (record {
    is = rw is (is_start fault of);
    unread = record { ahead = pending; gave = refl; few = few };
    unwritten = refl;
    unmet = refl;
    leaves = leaves;
  })

  pub started : (Fits : Role → Type 0) (FitsOne : Role → Role → Type 0) (h : HardState) (outcome : Result Status DiskFailed) (status : Status) (known left w0 w : Option (List ℕ)) (before now : ℕ) (old new : Option Told) → IsRaisedFrom epoch disk h → status ≡ status_of outcome
      → ((q : Role) → Fits q → KeepsFile disk later q) → ((q p : Role) → FitsOne q p → KeepsEither disk later q p)
      → IfSome known (λ bytes. WhereTold (Ended Fits FitsOne (start h) bytes outcome left w0 w before now) old new) → IfSome known (λ bytes. WhereTold (MasterEnded epoch start disk later bytes status left w0 w before now) old new)
  started Fits FitsOne h outcome status None left w0 w before now old new raised is f one e = tt
  started Fits FitsOne h outcome status (Some bytes) left w0 w before now None new raised is f one e = tt
  started Fits FitsOne h outcome status (Some bytes) left w0 w before now (Some o) None raised is f one e = absurd e
  started Fits FitsOne h outcome status (Some bytes) left w0 w before now (Some o) (Some n) raised is f one e =
      inr (record { hard = h; raised = raised; outcome = outcome; is = is; ran = fits_on Fits (KeepsFile disk later) FitsOne (KeepsEither disk later) f one (start h) bytes left w0 w before now o n outcome e })

file_of : (q : Role) (t : Moments) → DiskHas q t → HasFile q t
file_of (OfAgent r) t has = record { reads = tt; leaves = λ file image. tt }
file_of (OfApp r) t has = record { reads = tt; leaves = λ file image. tt }
file_of (OfMaster h r) t has = record {
  reads = rest_reads has.kept t.now has.rest ∙ ap Ok has.value;
  leaves = λ file image. rest_leaves has.kept t.now has.rest file image ∙ ap Ok has.value;
}

hard_stands : (p : Role) (file : List ℕ) → records_of file ≡ Ok (hard_in p) → FileStands p file
hard_stands (OfAgent r) file is = tt
hard_stands (OfApp r) file is = tt
hard_stands (OfMaster h r) file is = is

either_of : (q p : Role) (t : Moments) → LeavesEither q p t → Leaves (λ file. FileStands q file ⊎ FileStands p file) t.now
either_of (OfAgent r) p t left = λ file image. inl tt
either_of (OfApp r) p t left = λ file image. inl tt
either_of (OfMaster h r) p t left = λ file image. ⊎_elim (λ is. inl is) (λ is. inr (hard_stands p file is)) (left file image)

one_of : (q p : Role) (t : Moments) → FitsEither DiskHas LeavesEither q p t → Leaves (λ file. FileStands q file ⊎ FileStands p file) t.now
one_of q p t has = ⊎_elim (λ first. λ file image. inl ((file_of q t first).leaves file image)) (λ rest. ⊎_elim (λ second. λ file image. inr ((file_of p t second).leaves file image)) (either_of q p t) rest) has

-- a checkpoint that was opened and raised is at rest, so what is known of a disk from then on is known at the end
module _ (epoch : ℕ) (x : NodeRecord) (size : ℕ) (old mid new : Option Moments) (rests : RestsAt x size None) (from : WhereMoments (StartsFrom epoch x.hard) old mid) where
  at_end : (Has Then : Moments → Type 0) → ((t : Moments) → Has t → Then t) → FromRest RestsAt x size Has mid new → WhereMoments (λ before now. Then now) old new
  at_end Has Then f h = by old mid new from h
    where
      by : (a b c : Option Moments) → WhereMoments (StartsFrom epoch x.hard) a b → FromRest RestsAt x size Has b c → WhereMoments (λ before now. Then now) a c
      by None b c s h = tt
      by (Some o) None c s h = absurd s
      by (Some o) (Some m) None s h = absurd h
      by (Some o) (Some m) (Some n) s h = f n (h (record { sound = rests.sound; long = rests.long; rest = s.rest }))

  pub file_at_end : (q : Role) → FitsNow RestsAt DiskHas x size mid new q → KeepsFile old new q
  file_at_end q h = at_end (DiskHas q) (HasFile q) (file_of q) h

  pub either_at_end : (q p : Role) → FitsOneNow RestsAt DiskHas LeavesEither x size mid new q p → KeepsEither old new q p
  either_at_end q p h = at_end (FitsEither DiskHas LeavesEither q p) (λ t. Leaves (λ file. FileStands q file ⊎ FileStands p file) t.now) (one_of q p) h
