use Rattle.std.proofs.Common.{Err, ap}
use Rattle.hard_state.specs.declared.fault.HardFault.{HardFault}
use Rattle.hard_state.specs.declared.fault.HardFault.TheVariants.{OutOfMemory}
use Rattle.hard_state.proofs.MomentsLemmas.{none_made, nothing_made}
use Rattle.hard_state.proofs.Stops.{refused_where}
use Rattle.hard_state.proofs.hard.Hard.submit.Goals as goal

pub returns-in-Err-clause-told : goal.returns-in-Err-clause-told
returns-in-Err-clause-told g c = refused_where HardFault _ _ c.in-Err.fault _

pub returns-in-Err-clause-moments : goal.returns-in-Err-clause-moments
returns-in-Err-clause-moments g c = none_made _ c.in-Err.fault _ (λ same. c.in-Err.ensures.own (ap Err same))

pub returns-in-Err-copy-clause-told : goal.returns-in-Err-copy-clause-told
returns-in-Err-copy-clause-told g c = refused_where HardFault _ _ OutOfMemory _

pub returns-in-Err-copy-clause-moments : goal.returns-in-Err-copy-clause-moments
returns-in-Err-copy-clause-moments g c = nothing_made _
