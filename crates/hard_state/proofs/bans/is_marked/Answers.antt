use Rattle.std.proofs.Common.{arith}
use Rattle.hard_state.proofs.BansLemmas.{marked_at, none_beyond}
use Rattle.hard_state.proofs.bans.is_marked.Goals as goal

pub returns-then-number-ge256-clause-marked : goal.returns-then-number-ge256-clause-marked
returns-then-number-ge256-clause-marked c = none_beyond c.args.marks.now c.args.number (omega (arith, c.if-number-ge256.true, c.told-marks))

pub returns-clause-marked : goal.returns-clause-marked
returns-clause-marked c = marked_at c.args.marks.now c.args.number
