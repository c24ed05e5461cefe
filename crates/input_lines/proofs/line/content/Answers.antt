use Rattle.std.proofs.Common.{◌≡◌, ◌+◌, ◌-◌, length, sym, arith}
use Rattle.input_lines.proofs.Returns.{return_dropped, return_absent}
use Rattle.input_lines.proofs.line.content.Goals as goal

pub returns-then-line-length-ne13 : goal.returns-then-line-length-ne13
returns-then-line-length-ne13 c =
    rw c.if-not-ended.false (sym (return_absent c.args.line.now (λ last long is. c.if-line-length-ne13.true (let at : length c.args.line.now - 1 ≡ last = omega (arith, long) in rw at is))))

pub returns : goal.returns
returns c =
    let some : length c.args.line.now ≡ (length c.args.line.now - 1) + 1 = omega (arith, c.if-length-eq0.false) in
    rw (c.if-not-ended.false, c.split_at.ensures.front) (sym (return_dropped c.args.line.now (length c.args.line.now - 1) some c.if-line-length-ne13.false))
