-- Where the lines of an input end, of which the first describes a cluster; and what becomes of a disk before that is read.
use Rattle.std.proofs.Common.{◌≡◌, ℕ, Bool, true, false, nat_lt, cond, List, [], length, Option, None, Some, IfSome, refl, sym, ◌∙◌, ap, subst}
use Rattle.std.specs.Io.KnownBytes.{IsAtEnd, prepend_known}
use Rattle.fuxi_io.specs.Disks.{Told as Moments}
use Rattle.fuxi_io.specs.Lines.{lines_of}
use Rattle.fuxi_io.specs.declared.status.InputFault.TheVariants.{NoMachine}
use Rattle.fuxi_io.specs.declared.status.LimitOf.{LimitOf}
use Rattle.fuxi_io.specs.declared.status.LimitOf.TheVariants.{Lines, Packets, Bytes, Records, Calls}
use Rattle.fuxi_io.specs.declared.status.Status.{Status}
use Rattle.fuxi_io.specs.declared.status.Status.TheVariants.{Done, Usage, BadInput, ReadFault, WriteFault, Limit, OutOfMemory, DiskFault, StaleEpoch, DamagedCheckpoint}
use Rattle.fuxi_terms.specs.Cluster.{ClusterRecord}
use Rattle.schedule_unit.specs.declared.party.MachineNo.{MachineNo}
use Rattle.input_lines.specs.Openings.{Opens, opening_from, HasCluster, StopsBefore}
use Rattle.fuxi_node.specs.NodeRuns.{AtBadLine, ending_from}
use Rattle.fuxi_node.specs.NodeEnds.{EndsBy}
use Rattle.fuxi_node.specs.declared.kind.NodeKind.{NodeKind}
use Rattle.fuxi_node.specs.declared.kind.NodeKind.TheVariants.{Master, Agent, App}
use Rattle.fuxi_node.specs.NodeInputs.{HasNone, HasNoCluster, LeavesDisk, ending_behind, ending_of}

-- an agent whose machine is there
module _ (m : MachineNo) (boot number : ℕ) (c : ClusterRecord) (status : Status) (left : Option (List ℕ)) where
  pub machine_placed : (known : Option (List ℕ)) → nat_lt m.0 (length c.machines) ≡ true → IfSome known (λ bytes. EndsBy (ending_from number (lines_of bytes)) status left)
      → IfSome known (λ bytes. EndsBy (ending_behind (Agent m boot) (Opens c number (lines_of bytes))) status left)
  machine_placed None there e = tt
  machine_placed (Some bytes) there e = subst (λ b. EndsBy (cond b (ending_from number (lines_of bytes)) (AtBadLine number NoMachine)) status left) (sym there) e

-- before the line of the cluster, or at it
stops_placed : (kind : NodeKind) (bytes : List ℕ) (status : Status) (left : Option (List ℕ)) → StopsBefore 0 bytes status left → EndsBy (ending_of kind bytes) status left
stops_placed kind bytes (BadInput line fault) left stops = ap (ending_behind kind) stops
stops_placed kind bytes (Limit Lines kept) left stops = ap (ending_behind kind) stops
stops_placed kind bytes (Limit Packets kept) left stops = absurd stops
stops_placed kind bytes (Limit Bytes kept) left stops = absurd stops
stops_placed kind bytes (Limit Calls kept) left stops = absurd stops
stops_placed kind bytes (Limit Records kept) left stops = tt
stops_placed kind bytes Done left stops = absurd stops
stops_placed kind bytes Usage left stops = tt
stops_placed kind bytes ReadFault left stops = tt
stops_placed kind bytes WriteFault left stops = tt
stops_placed kind bytes OutOfMemory left stops = tt
stops_placed kind bytes DiskFault left stops = tt
stops_placed kind bytes (StaleEpoch fence) left stops = tt
stops_placed kind bytes (DamagedCheckpoint offset) left stops = tt

pub before_placed : (kind : NodeKind) (input : Option (List ℕ)) (status : Status) (left : Option (List ℕ)) → IfSome (prepend_known [] input) (λ bytes. StopsBefore 0 bytes status left) → IfSome input (λ bytes. EndsBy (ending_of kind bytes) status left)
before_placed kind None status left stops = tt
before_placed kind (Some bytes) status left stops = stops_placed kind bytes status left stops

pub memory_placed : (kind : NodeKind) (input left : Option (List ℕ)) → IfSome input (λ bytes. EndsBy (ending_of kind bytes) OutOfMemory left)
memory_placed kind None left = tt
memory_placed kind (Some bytes) left = tt

-- behind it
module _ (kind : NodeKind) (cluster : ClusterRecord) (number : ℕ) (newline : Bool) where
  opens : (bytes : List ℕ) (rest : Option (List ℕ)) (has : HasCluster bytes cluster 0 number newline rest) → opening_from 0 (lines_of bytes) ≡ Opens cluster number (lines_of has.left)
  opens bytes rest has = ap (opening_from 0) has.cut ∙ has.through (lines_of has.left)

  pub behind_placed : (input rest : Option (List ℕ)) (status : Status) (left : Option (List ℕ)) → IfSome (prepend_known [] input) (λ bytes. HasCluster bytes cluster 0 number newline rest)
      → ((newline ≡ false → IsAtEnd rest) → IfSome rest (λ bytes. EndsBy (ending_behind kind (Opens cluster number (lines_of bytes))) status left))
      → IfSome input (λ bytes. EndsBy (ending_of kind bytes) status left)
  behind_placed None rest status left has e = tt
  behind_placed (Some bytes) rest status left has e =
      subst (λ o. EndsBy (ending_behind kind o) status left) (sym (opens bytes rest has))
      (subst (λ r. IfSome r (λ rest. EndsBy (ending_behind kind (Opens cluster number (lines_of rest))) status left)) has.is_left (e (λ last. subst IsAtEnd (sym has.is_left) (has.taken.last last))))

  pub has_some : (bytes : List ℕ) (input rest : Option (List ℕ)) → input ≡ Some bytes → IfSome (prepend_known [] input) (λ bytes. HasCluster bytes cluster 0 number newline rest) → HasNoCluster bytes → ⊥
  has_some bytes input rest is has none =
      let here = subst (λ i. IfSome (prepend_known [] i) (λ bytes. HasCluster bytes cluster 0 number newline rest)) is has in
      subst HasNone (opens bytes rest here) none

-- a status of an input says nothing of a file
pub input_stays : (kind : NodeKind) (status : Status) (disk later : Option Moments) → ((offset : ℕ) → status ≡ DamagedCheckpoint offset → ⊥) → ((fence : ℕ) → status ≡ StaleEpoch fence → ⊥) → ((what : LimitOf) (kept : ℕ) → status ≡ Limit what kept → what ≡ Lines)
    → LeavesDisk kind status disk later
input_stays (Agent m boot) status disk later damaged stale limit = tt
input_stays (App a boot units) status disk later damaged stale limit = tt
input_stays (Master epoch) Done disk later damaged stale limit = tt
input_stays (Master epoch) Usage disk later damaged stale limit = tt
input_stays (Master epoch) (BadInput line fault) disk later damaged stale limit = tt
input_stays (Master epoch) ReadFault disk later damaged stale limit = tt
input_stays (Master epoch) WriteFault disk later damaged stale limit = tt
input_stays (Master epoch) OutOfMemory disk later damaged stale limit = tt
input_stays (Master epoch) DiskFault disk later damaged stale limit = tt
input_stays (Master epoch) (Limit Lines kept) disk later damaged stale limit = tt
input_stays (Master epoch) (Limit Packets kept) disk later damaged stale limit = tt
input_stays (Master epoch) (Limit Bytes kept) disk later damaged stale limit = tt
input_stays (Master epoch) (Limit Calls kept) disk later damaged stale limit = tt
input_stays (Master epoch) (Limit Records kept) disk later damaged stale limit = let same : Records ≡ Lines = limit Records kept refl in absurd (cc)
input_stays (Master epoch) (StaleEpoch fence) disk later damaged stale limit = absurd (stale fence refl)
input_stays (Master epoch) (DamagedCheckpoint offset) disk later damaged stale limit = absurd (damaged offset refl)
