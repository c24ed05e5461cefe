-- What a storm that ended has written.
use Rattle.std.proofs.Common.{◌≡◌, ◌⊎◌, inl, inr, ℕ, List, Option, Ok, refl}
use Rattle.fuxi_io.specs.declared.status.LimitOf.{LimitOf}
use Rattle.fuxi_io.specs.declared.status.LimitOf.TheVariants.{Lines, Packets, Bytes, Records, Calls}
use Rattle.fuxi_io.specs.declared.status.Status.{Status}
use Rattle.fuxi_io.specs.declared.status.Status.TheVariants.{Done, Usage, BadInput, ReadFault, WriteFault, Limit, OutOfMemory, DiskFault, StaleEpoch, DamagedCheckpoint}
use Rattle.storm_run.specs.StormRuns.{IsLimit, StormEnded}
use Rattle.storm_run.specs.Summaries.{storm_of}
use Rattle.storm_run.specs.StormEnds.{EndsQuiet}
use Rattle.schedule_replay.specs.Told.{Writes}

no_limit : (seed steps : ℕ) (text : List ℕ) (what : LimitOf) (kept : ℕ) → storm_of seed steps ≡ Ok text → IsLimit (storm_of seed steps) what kept → ⊥
no_limit seed steps text Lines kept is limit = limit
no_limit seed steps text Packets kept is limit = cc
no_limit seed steps text Bytes kept is limit = cc
no_limit seed steps text Records kept is limit = limit
no_limit seed steps text Calls kept is limit = limit

pub ends_well : (seed steps : ℕ) (text : List ℕ) (status : Status) (before after : Option (List ℕ)) → storm_of seed steps ≡ Ok text → (status ≡ WriteFault → ⊥) → StormEnded (storm_of seed steps) status before after → (status ≡ Done) ⊎ (status ≡ OutOfMemory)
ends_well seed steps text Done before after is sound ended = inl refl
ends_well seed steps text Usage before after is sound ended = absurd ended
ends_well seed steps text (BadInput line fault) before after is sound ended = absurd ended
ends_well seed steps text ReadFault before after is sound ended = absurd ended
ends_well seed steps text WriteFault before after is sound ended = absurd (sound refl)
ends_well seed steps text (Limit what kept) before after is sound ended = absurd (no_limit seed steps text what kept is ended.0)
ends_well seed steps text OutOfMemory before after is sound ended = inr refl
ends_well seed steps text DiskFault before after is sound ended = absurd ended
ends_well seed steps text (StaleEpoch fence) before after is sound ended = absurd ended
ends_well seed steps text (DamagedCheckpoint offset) before after is sound ended = absurd ended

-- a storm that is done has written a text that ends so
pub quiet_storm : (seed steps : ℕ) (before after : Option (List ℕ)) → ((seed steps : ℕ) (text : List ℕ) → storm_of seed steps ≡ Ok text → EndsQuiet text) → StormEnded (storm_of seed steps) Done before after → Writes EndsQuiet before after
quiet_storm seed steps before after law e = (e.0, law seed steps e.0 e.1, e.2)
