-- What befalls a lease over many processes: events, ends of a process with a new one behind it, and stops within a writing.
use Rattle.std.specs.Prelude.{◌≡◌, ◌<◌, ◌≤◌, ℕ, Bool, true, false, List, [], ◌∷◌, ◌++◌, slice_get, Some}
use Rattle.std.specs.List.{AllByRecursion}
use Rattle.epoch_lease.specs.declared.event.LeaseEvent.{LeaseEvent}
use Rattle.epoch_lease.specs.declared.event.LeaseEvent.TheVariants.{Acquire, Renew, Release, Expire}
use Rattle.epoch_lease.specs.declared.event.LeaseOut.{LeaseOut}
use Rattle.epoch_lease.specs.declared.event.LeaseOut.TheVariants.{Granted, Held, NoEpoch, HardFull, Renewed, Released, Expired, NotHolder, Free}
use Rattle.epoch_lease.specs.Leases.{LeaseState, lease_step, freed}

-- An event is answered; the lease is opened again; or it stops within an `acquire`, of which the record is then written or not, and is opened again
pub data Episode : Type 0 where
  Answers : (event : LeaseEvent) → Episode
  Opens : Episode
  Stops : (holder : ℕ) (written : Bool) → Episode

-- a lease that is opened again has the last epoch and the records, and nobody holds
abbrev pub state_after : LeaseState → Episode → LeaseState
state_after s (Answers event) = (lease_step s event).state
state_after s Opens = freed s
state_after s (Stops h true) = freed (lease_step s (Acquire h)).state
state_after s (Stops h false) = freed s

-- an epoch that was granted, and its holder
pub record Tenure : Type 0 where
  pub holder : ℕ
  pub epoch : ℕ

abbrev pub tenure_in : ℕ → LeaseOut → List Tenure
tenure_in h (Granted e) = record { holder = h; epoch = e } ∷ []
tenure_in h (Held other e) = []
tenure_in h NoEpoch = []
tenure_in h (HardFull most) = []
tenure_in h (Renewed e) = []
tenure_in h (Released e) = []
tenure_in h (Expired e) = []
tenure_in h (NotHolder last) = []
tenure_in h Free = []

-- what one episode grants: a stop has answered nothing
abbrev pub tenures_of : LeaseState → Episode → List Tenure
tenures_of s (Answers (Acquire h)) = tenure_in h (lease_step s (Acquire h)).answer
tenures_of s (Answers (Renew h e)) = []
tenures_of s (Answers (Release h e)) = []
tenures_of s (Answers Expire) = []
tenures_of s Opens = []
tenures_of s (Stops h written) = []

-- all that is granted in a history, in its order, and the state behind it
abbrev pub all_tenures : LeaseState → List Episode → List Tenure
all_tenures s [] = []
all_tenures s (episode ∷ episodes) = tenures_of s episode ++ all_tenures (state_after s episode) episodes

abbrev pub state_behind : LeaseState → List Episode → LeaseState
state_behind s [] = s
state_behind s (episode ∷ episodes) = state_behind (state_after s episode) episodes

-- each epoch is above every one before it
pub record EpochsRise (tenures : List Tenure) : Type 0 where
  pub each : (i j : ℕ) (a b : Tenure) → i < j → slice_get tenures i ≡ Some a → slice_get tenures j ≡ Some b → a.epoch < b.epoch

-- an epoch is one holder's: whatever two tenures have it are the same one
pub record HasOneHolder (tenures : List Tenure) : Type 0 where
  pub each : (i j : ℕ) (a b : Tenure) → slice_get tenures i ≡ Some a → slice_get tenures j ≡ Some b → a.epoch ≡ b.epoch → (i ≡ j) × (a.holder ≡ b.holder)

-- each epoch is above this number and at most that one
pub record AreBetween (below most : ℕ) (tenures : List Tenure) : Type 0 where
  pub each : (i : ℕ) (a : Tenure) → slice_get tenures i ≡ Some a → (below < a.epoch) × (a.epoch ≤ most)

-- nobody lets go: epochs are asked for and renewed
abbrev pub KeepsHold : Episode → Type 0
KeepsHold (Answers (Acquire h)) = Unit {0}
KeepsHold (Answers (Renew h e)) = Unit {0}
KeepsHold (Answers (Release h e)) = ⊥
KeepsHold (Answers Expire) = ⊥
KeepsHold Opens = ⊥
KeepsHold (Stops h written) = ⊥

abbrev pub KeepHold : List Episode → Type 0
KeepHold episodes = AllByRecursion KeepsHold episodes
