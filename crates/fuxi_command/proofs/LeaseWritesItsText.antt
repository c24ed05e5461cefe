-- What a lease that is done has written.
use Rattle.std.proofs.Common.{◌≡◌, inl, inr, List, ℕ, Option, Some, IfSome, Ok, subst}
use Rattle.std.specs.Io.KnownBytes.{Appends}
use Rattle.fuxi_io.specs.Disks.{Told}
use Rattle.fuxi_io.specs.declared.status.Status.{Status}
use Rattle.fuxi_io.specs.declared.status.Status.TheVariants.{Done}
use Rattle.spec_roles.specs.HardState.{HardState}
use Rattle.hard_state.specs.HardFiles.{records_of}
use Rattle.epoch_lease.specs.LeaseEnds.{LeaseEnded}
use Rattle.epoch_lease.specs.LeaseRuns.{text_of}

same_value : (file : List ℕ) (a b : HardState) → records_of file ≡ Ok a → records_of file ≡ Ok b → a ≡ b
same_value file a b is_a is_b = cc

by_end : (value : HardState) (bytes : List ℕ) (t : Told) (left before after : Option (List ℕ)) (new : Option Told) → records_of t.now.bytes ≡ Ok value → LeaseEnded bytes Done left before after (Some t) new → Appends before after (text_of value bytes)
by_end value bytes t left before after new reads (inl e) = absurd e.shut
by_end value bytes t left before after new reads (inr e) = subst (λ (v : HardState). Appends before after (text_of v bytes)) (same_value t.now.bytes e.value value e.reads reads) e.ran.2

pub lease_done : (value : HardState) (bytes : List ℕ) (t : Told) (known left before after : Option (List ℕ)) (old new : Option Told) (status : Status) → status ≡ Done → known ≡ Some bytes → old ≡ Some t → records_of t.now.bytes ≡ Ok value
    → IfSome known (λ b. LeaseEnded b status left before after old new) → Appends before after (text_of value bytes)
lease_done value bytes t known left before after old new status done is told reads ended =
    by_end value bytes t left before after new reads (subst (λ s. LeaseEnded bytes s left before after (Some t) new) done (subst (λ d. LeaseEnded bytes status left before after d new) told
    (subst (λ o. IfSome o (λ b. LeaseEnded b status left before after old new)) is ended)))
