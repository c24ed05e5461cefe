-- Faults of lines.
use Rattle.std.proofs.Common.{◌≡◌, Result, Err}
use Rattle.schedule_text.specs.ReadEvents.{IsFault}
use Rattle.schedule_text.specs.declared.event.LineFault.{LineFault}
use Rattle.schedule_text.specs.declared.event.LineFault.TheVariants.{UnknownWord, WrongCount, BadNumber, Range, OutOfMemory}

pub is_fault : {A : Type 0} (outcome : Result A LineFault) (fault : LineFault) → outcome ≡ Err fault → IsFault outcome fault
is_fault outcome UnknownWord is = is
is_fault outcome WrongCount is = is
is_fault outcome (BadNumber place) is = is
is_fault outcome (Range place) is = is
is_fault outcome OutOfMemory is = tt
