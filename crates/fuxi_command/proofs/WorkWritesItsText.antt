-- What named workers that are done have written.
use Rattle.std.proofs.Common.{◌≡◌, ℕ, List, Option, None, Some, IfSome, subst}
use Rattle.std.specs.Io.KnownBytes.{Appends}
use Rattle.fuxi_io.specs.declared.status.Status.{Status}
use Rattle.fuxi_io.specs.declared.status.Status.TheVariants.{Done}
use Rattle.work_plan.specs.AgentWithApps.{empty_world}
use Rattle.work_plan.specs.WorkLineRuns.{Ended, run_from, text_of}

by_end : (input left before after : Option (List ℕ)) → IfSome input (λ bytes. Ended (run_from 0 empty_world) bytes Done left before after) → IfSome input (λ bytes. Appends before after (text_of bytes))
by_end None left before after ended = tt
by_end (Some bytes) left before after ended = ended.2

pub work_done : (input left before after : Option (List ℕ)) (status : Status) → status ≡ Done → IfSome input (λ bytes. Ended (run_from 0 empty_world) bytes status left before after) → IfSome input (λ bytes. Appends before after (text_of bytes))
work_done input left before after status done ended = by_end input left before after (subst (λ s. IfSome input (λ bytes. Ended (run_from 0 empty_world) bytes s left before after)) done ended)
