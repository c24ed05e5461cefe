-- A node before the line of its cluster, and behind it, over an input that may be known and a door that may tell.
use Rattle.std.proofs.Common.{inl, inr, ◌≡◌, ℕ, ◌<◌, Bool, false, List, [], length, Option, None, Some, IfSome, Ok, refl, sym, subst, arith}
use Rattle.std.specs.Io.KnownBytes.{IsAtEnd, prepend_known}
use Rattle.fuxi_io.specs.Disks.{Told as Moments}
use Rattle.fuxi_io.specs.declared.status.Status.{Status}
use Rattle.fuxi_io.specs.declared.status.Status.TheVariants.{OutOfMemory}
use Rattle.fuxi_terms.specs.Cluster.{ClusterRecord}
use Rattle.schedule_unit.specs.declared.party.MachineNo.{MachineNo}
use Rattle.input_lines.specs.Openings.{HasCluster, StopsBefore}
use Rattle.fuxi_io.specs.Doors.{Told, WhereTold}
use Rattle.fuxi_node.specs.NodeEnds.{Ended}
use Rattle.fuxi_node.specs.NodeStarts.{agent_start}
use Rattle.fuxi_node.specs.declared.kind.NodeKind.{NodeKind}
use Rattle.fuxi_node.specs.declared.kind.NodeKind.TheVariants.{Agent}
use Rattle.fuxi_node.specs.NodeInputs.{NodeEnded, InputEnded}

-- an agent whose machine is there
module _ (m : MachineNo) (boot : ℕ) (addr : List ℕ) (disk later : Option Moments) (c : ClusterRecord) (number : ℕ) (took : Option (List ℕ)) where
  pub has_machine : (known : Option (List ℕ)) (status : Status) (left w : Option (List ℕ)) (before now : ℕ) (old new : Option Told) → m.0 < length c.machines
      → IfSome known (λ bytes. WhereTold (Ended (λ q. Unit {0}) (λ q p. Unit {0}) (agent_start c m.0 boot addr number) bytes (Ok status) left took w before now) old new)
      → IfSome known (λ bytes. WhereTold (NodeEnded (Agent m boot) addr disk later c number bytes status left took w before now) old new)
  has_machine None status left w before now old new there e = tt
  has_machine (Some bytes) status left w before now None new there e = tt
  has_machine (Some bytes) status left w before now (Some o) None there e = absurd e
  has_machine (Some bytes) status left w before now (Some o) (Some n) there e = inl (there, e)

-- nothing was read, written or met
module _ (kind : NodeKind) (addr : List ℕ) (disk : Option Moments) (took : Option (List ℕ)) (f : ℕ) (told : Option Told) where
  stays : (bytes : List ℕ) (status : Status) (left : Option (List ℕ)) (t : Option Told) → StopsBefore 0 bytes status left → WhereTold (InputEnded kind addr disk disk bytes status left took took f f) t t
  stays bytes status left None stops = tt
  stays bytes status left (Some t) stops = inl (record { stops = stops; unwritten = refl; unmet = refl; untouched = refl })

  pub no_memory : (input : Option (List ℕ)) → IfSome input (λ bytes. WhereTold (InputEnded kind addr disk disk bytes OutOfMemory input took took f f) told told)
  no_memory None = tt
  no_memory (Some bytes) = stays bytes OutOfMemory (Some bytes) told (record {
    lines = [];
    takes = record { behind = bytes; cut = refl; ahead = []; gave = refl; few = omega arith };
    last = tt;
  })

  pub no_cluster : (input : Option (List ℕ)) (status : Status) (left : Option (List ℕ)) → IfSome (prepend_known [] input) (λ bytes. StopsBefore 0 bytes status left) → IfSome input (λ bytes. WhereTold (InputEnded kind addr disk disk bytes status left took took f f) told told)
  no_cluster None status left stops = tt
  no_cluster (Some bytes) status left stops = stays bytes status left told stops

-- behind the line of the cluster
module _ (kind : NodeKind) (addr : List ℕ) (disk later : Option Moments) (cluster : ClusterRecord) (number : ℕ) (newline : Bool) (status : Status) (left w0 w : Option (List ℕ)) (before now : ℕ) where
  behind_known : (bytes rest : List ℕ) (old new : Option Told) → HasCluster bytes cluster 0 number newline (Some rest) → WhereTold (NodeEnded kind addr disk later cluster number rest status left w0 w before now) old new
      → WhereTold (InputEnded kind addr disk later bytes status left w0 w before now) old new
  behind_known bytes rest None new has e = tt
  behind_known bytes rest (Some o) None has e = absurd e
  behind_known bytes rest (Some o) (Some n) has e = inr (record { cluster = cluster; number = number; newline = newline; rest = rest; has = has; ran = e })

  pub behind_cluster : (input rest : Option (List ℕ)) (old new : Option Told) → IfSome (prepend_known [] input) (λ bytes. HasCluster bytes cluster 0 number newline rest)
      → ((newline ≡ false → IsAtEnd rest) → IfSome rest (λ bytes. WhereTold (NodeEnded kind addr disk later cluster number bytes status left w0 w before now) old new))
      → IfSome input (λ bytes. WhereTold (InputEnded kind addr disk later bytes status left w0 w before now) old new)
  behind_cluster None rest old new has e = tt
  behind_cluster (Some bytes) rest old new has e =
      behind_known bytes has.left old new (subst (HasCluster bytes cluster 0 number newline) has.is_left has)
      (subst (λ r. IfSome r (λ rest. WhereTold (NodeEnded kind addr disk later cluster number rest status left w0 w before now) old new)) has.is_left (e (λ last. subst IsAtEnd (sym has.is_left) (has.taken.last last))))
