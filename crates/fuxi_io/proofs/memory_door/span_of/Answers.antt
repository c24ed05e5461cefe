use Rattle.std.proofs.Common.{arith}
use Rattle.fuxi_io.proofs.ConnectionsTook.{span_last, span_second, span_earlier}
use Rattle.fuxi_io.proofs.memory_door.span_of.Goals as goal

pub returns-then-number-past : goal.returns-then-number-past
returns-then-number-past c = span_last c.args.count c.args.last.now c.args.past.now c.args.number c.requires.cut c.if-number-past.true

pub returns-then-number-past-2 : goal.returns-then-number-past-2
returns-then-number-past-2 c = span_second c.args.count c.args.last.now c.args.past.now c.args.number _ c.requires.cut c.if-number-past-2.true

pub returns : goal.returns
returns c = span_earlier c.args.count c.args.last.now c.args.past.now c.args.number _ _ c.requires.cut (omega (arith, c.if-number-past.false, c.if-number-past-2.false, c.requires.opened))
