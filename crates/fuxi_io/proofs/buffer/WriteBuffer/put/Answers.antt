use Rattle.std.proofs.Common.{subst}
use Rattle.fuxi_io.specs.Causes.{TakesPart}
use Rattle.fuxi_io.proofs.WriteBuffersLemmas.{part_of_both}
use Rattle.fuxi_io.proofs.buffer.WriteBuffer.put.Goals as goal

pub returns-then-bytes-len-clause-rest : goal.returns-then-bytes-len-clause-rest
returns-then-bytes-len-clause-rest g c after part =
    let took = g.O.Sink.took c.args.out.now in
    part_of_both took after c.args.self.now c.args.bytes.now (subst (TakesPart took after) c.extend.ensures part)
