use Rattle.std.proofs.Common.{arith}
use Rattle.hard_state.proofs.MarksRise.{rises_from, low_from}
use Rattle.hard_state.proofs.bans.marks_rise.Goals as goal

pub returns-clause-rise : goal.returns-clause-rise
returns-clause-rise c = rises_from 0 c.args.marks.now

pub returns-clause-low : goal.returns-clause-low
returns-clause-low c = low_from 0 256 c.args.marks.now (omega (arith, c.told-marks))
