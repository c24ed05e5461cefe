-- A node for which memory lacked, and what a machine has.
use Rattle.std.proofs.Common.{inl, ◌≡◌, ℕ, ◌≤◌, List, [], ◌++◌, length, Option, None, Some, IfSome, Ok, refl, sym, ◌∙◌, ap, arith, slice_get}
use Rattle.std.specs.Option.{unwrap_or, option_map}
use Rattle.std.specs.Io.KnownBytes.{prepend_known}
use Rattle.fuxi_terms.proofs.AppendsLemmas.{appends_none}
use Rattle.fuxi_terms.specs.Cluster.{ClusterRecord, MachineRecord, machine_of, no_machine}
use Rattle.fuxi_terms.specs.Padded.{padded}
use Rattle.fuxi_io.specs.Reading.{read_ahead}
use Rattle.fuxi_io.specs.declared.status.Status.TheVariants.{OutOfMemory}
use Rattle.cluster_desc.specs.declared.cluster.Machine.{Machine}
use Rattle.cluster_desc.specs.Records.{machine_of as machine_from}
use Rattle.fuxi_io.specs.Doors.{Told, WhereTold}
use Rattle.node_core.specs.Roles.{Role}
use Rattle.fuxi_node.specs.NodeEnds.{Start, Ended, EndsByLines}

-- nothing was taken
pub nothing_taken : (Fits : Role → Type 0) (FitsOne : Role → Role → Type 0) (s : Start) (pending : List ℕ) (source took : Option (List ℕ)) (f : ℕ) (t : Option Told) → length pending ≤ read_ahead → FitsOne s.node.role s.node.role → IfSome (prepend_known pending source) (λ bytes. WhereTold (Ended Fits FitsOne s bytes (Ok OutOfMemory) source took took f f) t t)
nothing_taken Fits FitsOne s pending None took f t few one = tt
nothing_taken Fits FitsOne s pending (Some left) took f None few one = tt
nothing_taken Fits FitsOne s pending (Some left) took f (Some t) few one = record {
  lines = [];
  next = [];
  one = omega arith;
  takes = record { behind = pending ++ left; cut = refl; ahead = pending; gave = refl; few = few };
  mid = t;
  ran = record {
    visits = [];
    was = record { door = refl; are = tt; faults = omega arith };
    rounds = refl;
    holds = ((refl, appends_none took), inl refl);
  };
  fits = one;
}

pub nothing_placed : (first : ℕ) (known left : Option (List ℕ)) → IfSome known (λ bytes. EndsByLines first bytes (Ok OutOfMemory) left)
nothing_placed first None left = tt
nothing_placed first (Some bytes) left = tt

-- what the cluster's line says of it, with eight places
pub has_is : (c : ClusterRecord) (m : ℕ) (machine : Machine) → option_map machine_from (slice_get c.machines m) ≡ Some machine → machine.has.q ≡ padded (machine_of c m).has
has_is c m machine e = by (slice_get c.machines m) refl e
  where
    by : (o : Option MachineRecord) → slice_get c.machines m ≡ o → option_map machine_from o ≡ Some machine → machine.has.q ≡ padded (machine_of c m).has
    by None is e = cc
    by (Some x) is e =
        let same : machine ≡ machine_from x = cc in
        ap (λ (k : Machine). k.has.q) same ∙ ap (λ o. padded (unwrap_or o no_machine).has) (sym is)
