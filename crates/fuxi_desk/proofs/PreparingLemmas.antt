-- What a desk begins with.
use Rattle.std.proofs.Common.{◌≡◌, ℕ, List, [], ◌∷◌, Option, None, Some, Ok, ◌∙◌, ap, subst}
use Rattle.fuxi_terms.specs.Cluster.{ClusterRecord}
use Rattle.fuxi_io.specs.Disks.{Told, WhereTold}
use Rattle.spec_roles.specs.HardState.{HardState, Raise, empty_hard, hard_step}
use Rattle.spec_roles.specs.MasterRoles.{master_started}
use Rattle.hard_state.specs.HardFiles.{Kept, records_of}
use Rattle.node_core.specs.Roles.{OfMaster}
use Rattle.node_parties.specs.MasterParties.{NodeRecord, StandsAs}
use Rattle.node_parties.specs.OpenedMasters.{StartsFrom}
use Rattle.fuxi_desk.specs.Preparing.{first_hard}

none_read : (bytes : List ℕ) (h : HardState) → bytes ≡ [] → records_of bytes ≡ Ok h → h ≡ empty_hard
unfolding records_of
none_read [] h e is = cc
none_read (b ∷ bs) h e is = cc

raised : (h k : HardState) → h ≡ empty_hard → hard_step h 1 Raise ≡ Ok k → k ≡ first_hard
raised h k e step = let is : hard_step empty_hard 1 Raise ≡ Ok k = subst (λ b. hard_step b 1 Raise ≡ Ok k) e step in cc

-- an empty disk gives the first hard state
first_value : (k : Kept) (old new : Option Told) (told : Told) → old ≡ Some told → told.now.bytes ≡ [] → WhereTold (StartsFrom 1 k) old new → k.value ≡ first_hard
first_value k None new told is empty starts = cc
first_value k (Some t) None told is empty starts = absurd starts
first_value k (Some t) (Some u) told is empty starts =
    let same : t ≡ told = cc in
    raised starts.before k.value (none_read t.now.bytes starts.before (ap (λ (m : Told). m.now.bytes) same ∙ empty) starts.reads) starts.step

pub first_stands : (n : NodeRecord) (c : ClusterRecord) (old new : Option Told) (told : Told) → old ≡ Some told → told.now.bytes ≡ [] → WhereTold (StartsFrom 1 n.hard) old new
    → StandsAs n (OfMaster n.hard.value (master_started c n.hard.value 1)) → StandsAs n (OfMaster first_hard (master_started c first_hard 1))
first_stands n c old new told is empty starts stands = subst (λ h. StandsAs n (OfMaster h (master_started c h 1))) (first_value n.hard old new told is empty starts) stands
