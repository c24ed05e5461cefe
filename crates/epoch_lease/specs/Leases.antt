-- A lease: who holds which epoch, and which was the last one.
use Rattle.std.specs.Prelude.{ℕ, ◌+◌, Bool, false, ◌&&◌, not, nat_eq, nat_lt, if◌then◌else◌, Option, Some, None}
use Rattle.fuxi_terms.specs.Limits.{most_records}
use Rattle.epoch_lease.specs.declared.event.LeaseEvent.{LeaseEvent}
use Rattle.epoch_lease.specs.declared.event.LeaseEvent.TheVariants.{Acquire, Renew, Release, Expire}
use Rattle.epoch_lease.specs.declared.event.LeaseOut.{LeaseOut}
use Rattle.epoch_lease.specs.declared.event.LeaseOut.TheVariants.{Granted, Held, NoEpoch, HardFull, Renewed, Released, Expired, NotHolder, Free}

-- the greatest number that an epoch can have
abbrev pub greatest_epoch : ℕ
greatest_epoch = 18446744073709551615

-- the last epoch that was granted, 0 before the first; the number of records of the checkpoint; and the holder with the epoch that is held
pub record LeaseState : Type 0 where
  pub last : ℕ
  pub records : ℕ
  pub holder : Option (ℕ × ℕ)

-- what an event makes of it, and what is answered
pub record Stepped : Type 0 where
  pub state : LeaseState
  pub answer : LeaseOut

abbrev pub becomes : LeaseState → LeaseOut → Stepped
becomes s answer = record { state = s; answer = answer }

-- nobody holds any more
abbrev pub freed : LeaseState → LeaseState
freed s = record s { holder = None }

-- the next epoch is this holder's, by one record more
abbrev pub granted : LeaseState → ℕ → LeaseState
granted s h = record { last = s.last + 1; records = s.records + 1; holder = Some (h, s.last + 1) }

abbrev pub acquired : LeaseState → ℕ → Option (ℕ × ℕ) → Stepped
acquired s h (Some held) = becomes s (Held held.0 held.1)
acquired s h None =
    if not (nat_lt s.last greatest_epoch) then becomes s NoEpoch
    else (if not (nat_lt s.records most_records) then becomes s (HardFull most_records) else becomes (granted s h) (Granted (s.last + 1)))

-- it is this holder who holds, and this epoch
abbrev pub holds : Option (ℕ × ℕ) → ℕ → ℕ → Bool
holds None h e = false
holds (Some held) h e = nat_eq held.0 h && nat_eq held.1 e

abbrev pub expired : LeaseState → Option (ℕ × ℕ) → Stepped
expired s None = becomes s Free
expired s (Some held) = becomes (freed s) (Expired held.1)

abbrev pub lease_step : LeaseState → LeaseEvent → Stepped
lease_step s (Acquire h) = acquired s h s.holder
lease_step s (Renew h e) = if holds s.holder h e then becomes s (Renewed e) else becomes s (NotHolder s.last)
lease_step s (Release h e) = if holds s.holder h e then becomes (freed s) (Released e) else becomes s (NotHolder s.last)
lease_step s Expire = expired s s.holder

-- an epoch is granted, which alone wants a disk
abbrev pub IsGrant : LeaseOut → Type 0
IsGrant (Granted e) = Unit {0}
IsGrant (Held h e) = ⊥
IsGrant NoEpoch = ⊥
IsGrant (HardFull most) = ⊥
IsGrant (Renewed e) = ⊥
IsGrant (Released e) = ⊥
IsGrant (Expired e) = ⊥
IsGrant (NotHolder last) = ⊥
IsGrant Free = ⊥
