-- What a replay has written, by the status, of an input that may be known.
use Rattle.std.proofs.Common.{◌≡◌, ◌⊎◌, inl, inr, refl, ℕ, List, [], Option, None, Some, IfSome, subst}
use Rattle.std.specs.List.{concat}
use Rattle.std.specs.Io.KnownBytes.{prepend_known}
use Rattle.fuxi_io.specs.declared.status.InputFault.{InputFault}
use Rattle.fuxi_io.specs.declared.status.LimitOf.{LimitOf}
use Rattle.fuxi_io.specs.declared.status.Status.{Status}
use Rattle.fuxi_io.specs.declared.status.Status.TheVariants.{Done, Usage, BadInput, ReadFault, WriteFault, Limit, OutOfMemory, DiskFault, StaleEpoch, DamagedCheckpoint}
use Rattle.input_lines.specs.LineRuns.{AtEnd, AtBadLine, AtLimit}
use Rattle.schedule_replay.specs.ScheduleRuns.{run_of, read_from, pieces, Ended}
use Rattle.schedule_replay.specs.Told.{IsText, IsTextBefore, IsFrontText, Writes}

-- a reader that has read nothing has all of it before it
pub begun : (input : Option (List ℕ)) (P : List ℕ → Type 0) → IfSome (prepend_known [] input) P → IfSome input P
begun None P h = tt
begun (Some bytes) P h = h

-- by the status that it is
pub ended_as : (input left w0 w : Option (List ℕ)) (status is : Status) → status ≡ is → IfSome input (λ bytes. Ended (read_from 0) bytes status left w0 w) → IfSome input (λ bytes. Ended (read_from 0) bytes is left w0 w)
ended_as input left w0 w status is same ended = subst (λ s. IfSome input (λ bytes. Ended (read_from 0) bytes s left w0 w)) same ended

pub text_done : (input left w0 w : Option (List ℕ)) → IfSome input (λ bytes. Ended (read_from 0) bytes Done left w0 w) → ((bytes : List ℕ) → (run_of bytes).ending ≡ AtEnd → IsText bytes (concat (pieces (run_of bytes))))
    → IfSome input (λ bytes. Writes (IsText bytes) w0 w)
text_done None left w0 w ended told = tt
text_done (Some bytes) left w0 w ended told = (concat (pieces (run_of bytes)), told bytes ended.1, ended.2)

pub text_before : (input left w0 w : Option (List ℕ)) (line : ℕ) (fault : InputFault) → IfSome input (λ bytes. Ended (read_from 0) bytes (BadInput line fault) left w0 w)
    → ((bytes : List ℕ) (line : ℕ) (fault : InputFault) → (run_of bytes).ending ≡ AtBadLine line fault → IsTextBefore bytes line fault (concat (run_of bytes).outputs))
    → IfSome input (λ bytes. Writes (IsTextBefore bytes line fault) w0 w)
text_before None left w0 w line fault ended told = tt
text_before (Some bytes) left w0 w line fault ended told = (concat (run_of bytes).outputs, told bytes line fault ended.0, ended.1)

pub text_limited : (input left w0 w : Option (List ℕ)) (what : LimitOf) (kept : ℕ) → IfSome input (λ bytes. Ended (read_from 0) bytes (Limit what kept) left w0 w) → ((bytes : List ℕ) → IsFrontText bytes (concat (run_of bytes).outputs))
    → IfSome input (λ bytes. Writes (IsFrontText bytes) w0 w)
text_limited None left w0 w what kept ended told = tt
text_limited (Some bytes) left w0 w what kept ended told = (concat (run_of bytes).outputs, told bytes, ended.1)

-- an input without a bad line, within the limits, and no fault of the two streams
sound_end : (bytes : List ℕ) (status : Status) (left w0 w : Option (List ℕ)) → (run_of bytes).ending ≡ AtEnd → (status ≡ ReadFault → ⊥) → (status ≡ WriteFault → ⊥) → Ended (read_from 0) bytes status left w0 w → (status ≡ Done) ⊎ (status ≡ OutOfMemory)
sound_end bytes Done left w0 w end reads writes ended = inl refl
sound_end bytes OutOfMemory left w0 w end reads writes ended = inr refl
sound_end bytes (BadInput line fault) left w0 w end reads writes ended = let at : (run_of bytes).ending ≡ AtBadLine line fault = ended.0 in absurd cc
sound_end bytes (Limit what kept) left w0 w end reads writes ended = let at : (run_of bytes).ending ≡ AtLimit what kept = ended.0 in absurd cc
sound_end bytes ReadFault left w0 w end reads writes ended = absurd (reads refl)
sound_end bytes WriteFault left w0 w end reads writes ended = absurd (writes refl)
sound_end bytes Usage left w0 w end reads writes ended = absurd ended
sound_end bytes DiskFault left w0 w end reads writes ended = absurd ended
sound_end bytes (StaleEpoch fence) left w0 w end reads writes ended = absurd ended
sound_end bytes (DamagedCheckpoint offset) left w0 w end reads writes ended = absurd ended

pub ends_whole : (input : Option (List ℕ)) (bytes : List ℕ) (status : Status) (left w0 w : Option (List ℕ)) → input ≡ Some bytes → (run_of bytes).ending ≡ AtEnd → (status ≡ ReadFault → ⊥) → (status ≡ WriteFault → ⊥)
    → IfSome input (λ bytes. Ended (read_from 0) bytes status left w0 w) → (status ≡ Done) ⊎ (status ≡ OutOfMemory)
ends_whole input bytes status left w0 w is end reads writes ended = sound_end bytes status left w0 w end reads writes (subst (λ o. IfSome o (λ b. Ended (read_from 0) b status left w0 w)) is ended)
