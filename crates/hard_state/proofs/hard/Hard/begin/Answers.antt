use Rattle.hard_state.specs.declared.fault.HardFault.{HardFault}
use Rattle.hard_state.specs.declared.fault.HardFault.TheVariants.{OutOfMemory}
use Rattle.hard_state.specs.HardFiles.{Kept}
use Rattle.hard_state.proofs.OpensAsTheFile.{begin_rests}
use Rattle.hard_state.proofs.hard.Hard.begin.Goals as goal

pub returns-in-Err-clause-told : goal.returns-in-Err-clause-told
returns-in-Err-clause-told g c = begin_rests Kept HardFault _ OutOfMemory
